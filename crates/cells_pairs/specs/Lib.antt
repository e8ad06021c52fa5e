-- `CellRecords`: a list of cell records's bytes, and what stands in them.
-- `PairIds`: pairs as numbers, and all of a library's in their order.
pub mod CellRecords
pub mod PairIds
pub use CellRecords.{cell_records_of, id_bytes, id_in, id_place, count_in, line_cell, listed_bytes}
unfoldable pub use CellRecords.{cell_bytes, cell_from, name_from}
pub use PairIds.{Coded, Joinable, id_of, id_of_pair, pair_cells, pair_of_id}
unfoldable pub use PairIds.{cells_by, id_for, inner_ids, pair_ids, pin_ids, root_ids}
