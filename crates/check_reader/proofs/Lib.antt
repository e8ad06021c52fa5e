-- `StoredDrivers`: the line at a place as the code sees it. `OutputNames`: names one behind the other, and the graph's. `ExpectedNetLines`: lines that are expected.
-- `GateGathering`: lines read one by one. `NameLineReading`: an output's two lines. `NetlistReading`: the whole netlist.
pub mod StoredDrivers
pub mod OutputNames
pub mod ExpectedNetLines
pub mod GateGathering
pub mod NameLineReading
pub mod NetlistReading
pub use OutputNames.{out_is, own_name}
pub use GateGathering.{words_long}
