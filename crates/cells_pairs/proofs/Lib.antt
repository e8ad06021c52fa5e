-- `RecordLookup`: what stands where in a list of cell records.
-- `PairJoins`: which cells join, and the numbers of pairs one after the other. `PairCells`: the cell of a number.
pub mod RecordLookup
pub mod PairJoins
pub mod PairCells
pub mod PairFormation
pub use RecordLookup.{booked_area, booked_name, booked_pins, id_is, id_within, line-is, line-within, listed-length}
unfoldable pub use RecordLookup.{booked}
pub use PairCells.{by_length, by_listed_lem, by_pair, joined-pins}
pub use PairFormation.{coded-all, coded_none, ids-few, numbered-all, numbered-none, with_all, with_none}
