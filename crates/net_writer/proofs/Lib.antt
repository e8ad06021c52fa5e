-- `NetlistLength`: lengths and figures of lines. `GateWalk`: the walk over the gates. `FollowingText`: writers one behind the other. `WrittenGates`: what the
-- words hold is what `model` defines.
pub mod NetlistLength
pub mod GateWalk
pub mod FollowingText
pub mod WrittenGates
pub use NetlistLength.{each_next, each_none, ten-digits}
pub use FollowingText.{left, then}
