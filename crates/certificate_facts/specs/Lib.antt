-- `FactRows`: the rows that lent words hold.
pub mod FactRows
unfoldable pub use FactRows.{rows_in}
