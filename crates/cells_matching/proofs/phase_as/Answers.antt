-- `cells_matching::phase_as` meets its contract, by the test.
use Rattle.base.specs.{lt-ltb, le-ltb}
use Rattle.model.specs.{no_phase}
use Rattle.cells_matching.specs.{phase_as, infinite}
use Rattle.cells_matching.proofs.phase_as.Goals as goal

pub returns-then-b-lt-INFINITE : goal.returns-then-b-lt-INFINITE
unfolding phase_as
returns-then-b-lt-INFINITE c =
    let a = c.args in
    rw (lt-ltb a.b.arrival infinite c.if-b-lt-INFINITE.true, c.match_of-m.ensures)

pub returns-else-b-lt-INFINITE : goal.returns-else-b-lt-INFINITE
unfolding phase_as no_phase
returns-else-b-lt-INFINITE c =
    let a = c.args in
    rw (le-ltb a.b.arrival infinite c.if-b-lt-INFINITE.false)
