-- `ComputedTables`: a test over the numbers below a bound. `Tables`: rows and bits. `VariantTables`: a cell under an order and a mask. `PinNets`: the nets of its pins. `RowDescent`: a table made from its last row down. `PairTables`: a pair of cells.
pub mod ComputedTables
pub mod Tables
pub mod VariantTables
pub mod PinNets
pub mod RowDescent
pub mod PermutedTables
pub mod PairTables
pub use ComputedTables.{at}
pub use Tables.{one_bit, one-small, power, table-small, tables_same, tabulate-same, tabulate-small, tabulate-value, value-and}
pub use Tables.{value_complement, value_or, value_pattern, value_shift, value-tabulate}
pub use VariantTables.{place-small, places-fit, places-four, rows_agree_lem}
pub use PinNets.{literal-one, nets_get, nets-length, nets_taken, place-below}
pub use PermutedTables.{or_out, permuted_variant}
