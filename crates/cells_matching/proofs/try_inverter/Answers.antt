-- `cells_matching::try_inverter` meets its contract, by the three tests.
use Rattle.base.specs.{sym, ◌∙◌}
use Rattle.cells_matching.proofs.InverterChoice.{tried-inverter, tried-pins, tried-table, tried_nameless}
use Rattle.cells_matching.proofs.try_inverter.Goals as goal
use Rattle.cells_matching.proofs.try_inverter.Goals.{else-c-eq1-via-then-c-eq1+then-c-eq1-2+else-c-gt0, else-c-eq1-via-then-c-eq1+else-c-eq1-2, else-c-eq1-via-else-c-eq1}

pub returns-then-c-gt0 : goal.returns-then-c-gt0
returns-then-c-gt0 c =
    let a = c.args in
    c.sooner.ensures ∙ sym (tried-inverter a.best a.c a.line c.if-c-eq1.true c.if-c-eq1-2.true c.if-c-gt0.true)

pub returns-else-c-eq1 : goal.returns-else-c-eq1
returns-else-c-eq1 c =
    let a = c.args in
    elim c.else-c-eq1.branch [
      | else-c-eq1-via-then-c-eq1+then-c-eq1-2+else-c-gt0 w ↦ sym (tried_nameless a.best a.c a.line w.if-c-eq1.true w.if-c-eq1-2.true w.if-c-gt0.false)
      | else-c-eq1-via-then-c-eq1+else-c-eq1-2 w ↦ sym (tried-table a.best a.c a.line w.if-c-eq1.true w.if-c-eq1-2.false)
      | else-c-eq1-via-else-c-eq1 w ↦ sym (tried-pins a.best a.c a.line w.if-c-eq1.false)
    ]
