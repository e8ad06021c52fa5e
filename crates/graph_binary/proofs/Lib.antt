-- `BinaryGates`: a number less a difference, and an AND, as the crate model reads them. `BinaryPasses`: the loops, a step at a time.
-- `BinaryReading`: a pass is the model's reading of its lines, of the inputs and the ANDs. `BinaryOutputs`: so are the output lines.
-- `BinaryLoads`: the three passes are the model's reading of the text, and what `load_binary` leaves.
pub mod BinaryGates
pub mod BinaryPasses
pub mod BinaryReading
pub mod BinaryOutputs
pub mod BinaryLoads
pub use BinaryLoads.{binary_law, header-fit}
