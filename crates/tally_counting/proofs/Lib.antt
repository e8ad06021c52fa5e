-- `ExpectedNetlistLines`: lines that are expected, one after the other. `GateCounts`: the gate lines, counted. `CountReading`: a netlist read whole. `CountPositions`: the tally, place by place. `CountAnswers`: the answers, refusal by refusal.
pub mod ExpectedNetlistLines
pub mod GateCounts
pub mod CountReading
pub mod CountPositions
pub mod CountAnswers
pub use CountAnswers.{accepted, cells-back, listed, refused-back}
