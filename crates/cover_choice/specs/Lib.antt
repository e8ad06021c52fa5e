-- `ChoiceConditions`: what is asked of the words. `UncoveredWords`: the first output without a source. `NeededWords`: the needed phases, marked in the words.
-- `ChoiceWords`: the choice, from the words and into them. `EnumeratedWords`: what the passes before have left in the words.
pub mod ChoiceConditions
pub mod UncoveredWords
pub mod NeededWords
pub mod ChoiceWords
pub mod EnumeratedWords
pub use ChoiceConditions.{CutsIn, InputArrivalIn, LeavesIn, MatchIn, MatchesIn, OutputsIn, PinsIn, PinsOf, SlotsIn}
unfoldable pub use UncoveredWords.{missing, missing_from, outputs_from}
pub use NeededWords.{feeds_at}
unfoldable pub use NeededWords.{fed_all, fed_down, fed_once, fed_step, marked, put_all, put_outputs}
pub use ChoiceWords.{Choosable, Early, ToolsIn, Unchosen, best_with, found_phase}
unfoldable pub use ChoiceWords.{best_at, chosen_step, chosen_up, uninverted_at, uninverted_of, found_at, found_from, found_on, leaf_time, input_phase, put_phases}
unfoldable pub use ChoiceWords.{times_at}
pub use EnumeratedWords.{HeaderOf}
