-- `HeaderReading`: the header line of either form, as the crate model says it. `LineValidation`: the tests of an expected line, and the loops over the lines.
-- `ExpectedGraphLines`: the expected lines of the ASCII form, as the crate model says them. `LineLoading`: a step of the loop is a line of the model's.
-- `DefinedUses`: what is defined, as the words have it. `GraphLoads`: the passes are the model's reading, and what `load_ascii` leaves.
pub mod HeaderReading
pub mod LineValidation
pub mod ExpectedGraphLines
pub mod LineLoading
pub mod DefinedUses
pub mod GraphLoads
pub use HeaderReading.{header_read_lem}
pub use GraphLoads.{load_law, order_asks}
