-- `Variant`: the table of a cell under an order and a mask, and of a leaf; the net of a pin. `Pair`: a row of a pair of cells.
pub mod Variant
pub mod Pair
pub use Variant.{pin_net, places_of}
unfoldable pub use Variant.{crossed, crossed_at, leaf_table, places_below, permuted, variant_table}
unfoldable pub use Pair.{root_bit, root_row}
