-- `tally_counting::count_in` meets its contract: 28, then 29.
use Rattle.base.specs.{sym, subst, ◌∙◌}
use Rattle.model.specs.{cells_of}
use Rattle.std.specs.Prelude.{Ok}
use Rattle.tally_counting.specs.{count_read, Handed}
use Rattle.tally_counting.proofs.CountAnswers.{count-many, count-over, count-broken, count-whole, nothing_added}
use Rattle.tally_counting.proofs.count_in.Goals as goal
use Rattle.tally_counting.proofs.count_in.Goals.{then-t-ge64-via-then-t-ge64, then-t-ge64-via-else-t-ge64+then-not-in_width}

pub returns-then-t-ge64 : goal.returns-then-t-ge64
returns-then-t-ge64 c =
    let a = c.args in
    let t = a.t.now in
    nothing_added t (elim c.then-t-ge64.branch [
      | then-t-ge64-via-then-t-ge64 y ↦ count-many t a.ranged (cells_of a.lib) a.s.now y.if-t-ge64.true
      | then-t-ge64-via-else-t-ge64+then-not-in_width y ↦
          count-over t a.ranged (cells_of a.lib) a.s.now (sym y.in_width.ensures.0 ∙ y.if-not-in_width.true)
    ])

pub add_netlist-requires : goal.add_netlist-requires
add_netlist-requires c =
    (c.in_width.ensures.1 c.if-not-in_width.false, c.if-t-ge64.false)

pub returns-in-Ok : goal.returns-in-Ok
returns-in-Ok c =
    let w = c.in_width in
    let a = c.args in
    let t = a.t.now in
    let i = c.if-not-in_width.false in
    subst (Handed t (count_read t a.ranged (cells_of a.lib) a.s.now) (Ok tt)) (sym c.add_netlist.ensures)
    (count-whole t a.ranged a.lib c.requires.2 a.s.now (w.ensures.1 i) c.in-Ok.counts (c.read_netlist.ensures.whole _ c.in-Ok.is) c.if-t-ge64.false (sym w.ensures.0 ∙ i))

pub returns-in-Err : goal.returns-in-Err
returns-in-Err c =
    let w = c.in_width in
    let a = c.args in
    let t = a.t.now in
    let i = c.if-not-in_width.false in
    nothing_added t (count-broken t a.ranged (cells_of a.lib) a.s.now c.if-t-ge64.false (sym w.ensures.0 ∙ i) c.in-Err.at (c.read_netlist.ensures.broken _ c.in-Err.is))
