-- `mapper_two::map_listed` meets its contract: the listed cells alone.
use Rattle.base.specs.{false, [], arith}
use Rattle.model.specs.{channel_of}
use Rattle.cells_pairs.proofs.{with_none}
use Rattle.mapper.proofs.{joinable_of, all-few, plain_ok, blank-listed}
use Rattle.mapper_two.proofs.ChannelMemory.{two-done}
use Rattle.mapper_two.proofs.map_listed.Goals as goal

pub map_headers-requires : goal.map_headers-requires
map_headers-requires c =
    (plain_ok c.args.lib c.requires, blank-listed c.args.lib c.requires (c.empty_match_table-matches.ensures 32 (omega arith)))

pub returns : goal.returns
returns c =
    let a = c.args in
    let x = channel_of a.c1.graph.now a.c1.arrivals.now a.t1.now in
    let y = channel_of a.c2.graph.now a.c2.arrivals.now a.t2.now in
    two-done false a.ranged a.lib [] (with_none a.lib (joinable_of a.lib c.requires)) x y a.work.now a.t1.now a.t2.now _
    (all-few a.lib [] (plain_ok a.lib c.requires)) _ _ _ c.map_headers.ensures
