-- `mapper_two::map_cells` meets its contract: with pairs, or with the listed cells alone.
use Rattle.base.specs.{sym, subst, Bool}
use Rattle.model.specs.{channel_of}
use Rattle.mapper_two.specs.{told, TwoLeft}
use Rattle.mapper_two.proofs.map_cells.Goals as goal

pub returns-then-paired : goal.returns-then-paired
returns-then-paired c =
    let a = c.args in
    let x = channel_of a.c1.graph.now a.c1.arrivals.now a.t1.now in
    let y = channel_of a.c2.graph.now a.c2.arrivals.now a.t2.now in
    subst (λ (b : Bool). TwoLeft b a.ranged a.lib x y a.work.now a.t1.now a.t2.now (told c.map_pairs.result) c.map_pairs.new.work c.map_pairs.new.t1 c.map_pairs.new.t2)
    (sym c.if-paired.true) c.map_pairs.ensures

pub returns : goal.returns
returns c =
    let a = c.args in
    let x = channel_of a.c1.graph.now a.c1.arrivals.now a.t1.now in
    let y = channel_of a.c2.graph.now a.c2.arrivals.now a.t2.now in
    subst (λ (b : Bool). TwoLeft b a.ranged a.lib x y a.work.now a.t1.now a.t2.now (told c.map_listed.result) c.map_listed.new.work c.map_listed.new.t1 c.map_listed.new.t2)
    (sym c.if-paired.false) c.map_listed.ensures
