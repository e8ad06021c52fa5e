-- `GateFeeds`: the nets of a match, and its gates.
pub mod GateFeeds
pub use GateFeeds.{drives_by, drives-inverted, four_taken, nothing_drives, number-pins}
