-- `ArrivalLines`: a step of the reader is a line of the crate model's. `ArrivalSteps`: the lines one after the other. `NoArrivals`: the first line.
-- `ArrivalWords`: the words hold the arrivals of the graph so timed.
pub mod ArrivalLines
pub mod ArrivalSteps
pub mod NoArrivals
pub mod ArrivalWords
pub use ArrivalWords.{Slotted, Stored, listed-all, stored-all}
