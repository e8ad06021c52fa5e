-- `InverterCount`: how many variables are ordered, and how many cuts one has. `KeptWords`: what stays where a pass
-- writes only some columns. `NeededMarks`: what marking reads and leaves. `EnumeratedGraph`: what the passes before have left gives what is asked of the words.
-- `NeededPhases`: the law of `mark`. `UncoveredOutputs`: the law of `uncovered`. `LeafTimes`, `CoveredOutputs`: a cut of the words, and what its matches give.
-- `PhaseBounds`: what is
-- chosen has room. `ChoiceSteps`: the step of a variable. `PhaseChoice`: the law of `choose`.
pub mod InverterCount
pub mod KeptWords
pub mod NeededMarks
pub mod EnumeratedGraph
pub mod NeededPhases
pub mod UncoveredOutputs
pub mod LeafTimes
pub mod CoveredOutputs
pub mod PhaseBounds
pub mod ChoiceSteps
pub mod PhaseChoice
pub use InverterCount.{all-ordered, few-cuts, few-ordered}
pub use KeptWords.{Kept, NeedsKept, cuts-kept, graph-kept, kept_on, kept_same, order-kept, phases-kept}
pub use NeededMarks.{match_nets_lem, match_pins, needs-matches, needs-slots}
pub use EnumeratedGraph.{output-small, ordered-is}
pub use NeededPhases.{Covered, MarkedFrom, mark_asked, mark_law}
pub use UncoveredOutputs.{uncovered_asked, uncovered_law}
pub use ChoiceSteps.{up_after}
pub use PhaseChoice.{ChosenFrom, choose_asked, choose_law, unchosen}
