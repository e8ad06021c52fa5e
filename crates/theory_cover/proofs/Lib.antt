pub mod ChoiceRun
pub mod Matches
pub mod CoverFacts
pub mod EarliestArrival
pub mod CoverSoundness
pub mod InputSources
pub mod Demand3
pub mod CoverGates
pub mod JoinedPairs
pub mod PinOrders
pub mod PairCovers
pub mod Preference
pub mod ShuffledLibrary
pub mod ShuffledPairs
pub mod Retime
pub use ChoiceRun.{chosen_none, phase_step}
pub use Matches.{cut_matches_out, fits-places, inverter_out}
pub use CoverFacts.{Straight, by_feeding}
pub use CoverSoundness.{Present, chosen_fine, closed, is_match_lem, needed_present, not-opposite, src, straight-before}
unfoldable pub use CoverSoundness.{chosen-cover}
pub use InputSources.{own-arrival, own-chosen}
pub use Demand3.{choice-cover, choice-earliest, choice-printed, cover-timed, seventeen_iff}
pub use CoverGates.{gate-value, inverter-pins, inverter-value}
pub use JoinedPairs.{pair-latest, pair-value}
pub use Preference.{choice-preferred}
pub use ShuffledLibrary.{absent-same, arrival-same, chosen-earliest, earliest-one, earliest-same}
pub use ShuffledPairs.{pairs-same}
pub use Retime.{latest-below, retimed-below, retimed_rule}
unfoldable pub use Retime.{time_by}
