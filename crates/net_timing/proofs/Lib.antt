-- `MinDelayLaws`: laws of the pass. `RetimedArrivals`: what it leaves is `model`'s minimum arrival of every phase that has a source. `TimingLength`: the timing lines.
pub mod MinDelayLaws
pub mod RetimedArrivals
pub mod TimingLength
pub use MinDelayLaws.{MinsKept, mins-leaves, mins-phase}
pub use RetimedArrivals.{Ready, retime_kept, retime_mins}
pub use TimingLength.{lines_are}
