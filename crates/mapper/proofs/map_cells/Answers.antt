-- `mapper::map_cells` meets its contract: with pairs, or with the listed cells alone.
use Rattle.base.specs.{false, [], arith}
use Rattle.cells_pairs.proofs.{with_none}
use Rattle.mapper.proofs.CallEnds.{left_as, cells_go}
use Rattle.mapper.proofs.LibraryBounds.{joinable_of, all-few, plain_ok, blank-listed}
use Rattle.mapper.proofs.map_cells.Goals as goal

pub returns-then-paired : goal.returns-then-paired
returns-then-paired c = rw c.if-paired.true c.map_pairs.ensures

pub map_header-requires : goal.map_header-requires
map_header-requires c =
    (plain_ok c.args.lib c.requires, blank-listed c.args.lib c.requires (c.empty_match_table-matches.ensures 32 (omega arith)))

pub returns : goal.returns
returns c =
    rw c.if-paired.false
    (left_as (cells_go _ _ _ _ c.args.work.now c.args.text.now false [] (with_none _ (joinable_of _ c.requires)) (all-few _ [] (plain_ok _ c.requires))) c.map_header.ensures)
