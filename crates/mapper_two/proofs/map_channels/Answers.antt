-- `mapper_two::map_channels` meets its contract: demand 1 from the functions below it, what is promised of the definitions from their laws.
use Rattle.base.specs.{arith, refl, subst, Bool}
use Rattle.model.specs.{channel_of}
use Rattle.model.proofs.{handed_on}
use Rattle.mapper_two.specs.{told, TwoLeft}
use Rattle.mapper_two.proofs.TwoChannelLaws.{mapping_of, long-text, library-stops, library-heard}
use Rattle.mapper_two.proofs.map_channels.Goals as goal
use Rattle.mapper_two.proofs.map_channels.Goals.{then-cells-gt65536-via-then-cells-gt65536}
use Rattle.mapper_two.proofs.map_channels.Goals.{then-cells-gt65536-via-else-cells-gt65536+then-c1-gt65536}
use Rattle.mapper_two.proofs.map_channels.Goals.{then-cells-gt65536-via-else-cells-gt65536+else-c1-gt65536+then-c1-gt65536-2}

pub returns-then-cells-gt65536 : goal.returns-then-cells-gt65536
returns-then-cells-gt65536 c = mapping_of
    (long-text _ _ _ _ _ _ _ (λ x y z. elim c.then-cells-gt65536.branch [
      | then-cells-gt65536-via-then-cells-gt65536 w ↦ omega arith
      | then-cells-gt65536-via-else-cells-gt65536+then-c1-gt65536 w ↦ omega arith
      | then-cells-gt65536-via-else-cells-gt65536+else-c1-gt65536+then-c1-gt65536-2 w ↦ omega arith
    ])
    _ refl)

pub map_cells-requires : goal.map_cells-requires
map_cells-requires c =
    let s = c.args in
    let a = channel_of s.c1.graph.now s.c1.arrivals.now s.t1.now in
    let b = channel_of s.c2.graph.now s.c2.arrivals.now s.t2.now in
    (library-heard s.paired s.cells.now a b s.work.now s.t1.now s.t2.now (omega arith) (omega arith) (omega arith) c.read.result c.read.ensures.answer
    _ c.in_ok-lib.was).ok

pub returns : goal.returns
returns c =
    let h = c.map_cells in
    let s = c.args in
    let a = channel_of s.c1.graph.now s.c1.arrivals.now s.t1.now in
    let b = channel_of s.c2.graph.now s.c2.arrivals.now s.t2.now in
    let r = library-heard s.paired s.cells.now a b s.work.now s.t1.now s.t2.now (omega arith) (omega arith) (omega arith) c.read.result
    c.read.ensures.answer _ c.in_ok-lib.was in
    mapping_of
    (r.goes (told h.result) h.new.work h.new.t1 h.new.t2
    (subst (λ (x : Bool). TwoLeft s.paired x c.in_ok-lib.lib a b s.work.now s.t1.now s.t2.now (told h.result) h.new.work h.new.t1 h.new.t2)
    c.is_ranged.ensures h.ensures))

pub returns-in_err-lib : goal.returns-in_err-lib
returns-in_err-lib c =
    rw (handed_on _ _ c.from_residual.ensures.1)
    (mapping_of (library-stops _ _ _ _ _ _ _ (omega arith) (omega arith) (omega arith) _ c.read.ensures.answer _ _ c.in_err-lib.was _ refl))
