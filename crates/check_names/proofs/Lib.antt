-- `NetNames`: the laws of names as numbers. `WordSplits`: a line parted at its spaces. `PinLetters`: a word of a gate's line. `PinBinding`: all of them. `GateLines`: a gate's line. `NameLines`: a `.names` line.
pub mod NetNames
pub mod WordSplits
pub mod PinLetters
pub mod PinBinding
pub mod GateLines
pub mod NameLines
pub use PinLetters.{pin-named}
pub use GateLines.{driver_anywhere, driver-net}
pub use NameLines.{gate-long}
