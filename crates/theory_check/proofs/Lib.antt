pub mod DriverSort
pub mod Cycles
pub mod NetRuns
pub mod AllAssignments
pub mod ComparisonLaws
pub mod NetVerdicts
pub mod CheckNets
pub mod CheckWords
pub mod CheckSteps
pub mod CheckRun
pub mod CheckExactly
pub mod CheckCallLaws
pub mod CheckTextCases
pub mod NetlistMeaning
pub mod CheckLaws
pub mod PrintedLines
pub mod PrintedNets
pub mod PrintedAccepted
pub use DriverSort.{Fed, FeedsNet, NoCycle, among_in, among_out, directly, none_left, through}
pub use Cycles.{cycle-found, found-cycle}
pub use ComparisonLaws.{Sound, run-values}
pub use CheckCallLaws.{check_exactly}
pub use CheckLaws.{all-ordered, edited_compared, edited_equal, edited_meant, inputs-once, validated-sound}
pub use PrintedNets.{net_form}
pub use PrintedAccepted.{printed-accepted}
