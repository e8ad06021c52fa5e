-- `net_gates::pair_gates` meets its contract.
use Rattle.base.specs.{ap, ◌∙◌, ◌/◌, ◌%◌, arith}
use Rattle.model.specs.declared.Cell.{Cell}
use Rattle.net_gates.specs.{two_driver}
use Rattle.net_gates.proofs.pair_gates.Goals as goal

pub two_gates-requires : goal.two_gates-requires
two_gates-requires c =
    (omega arith, omega (arith, ap (λ (x : Cell). x.pins) c.cell_at-b.ensures, c.requires.0.inner.pins), c.requires.1)

pub returns : goal.returns
returns c =
    let a = c.args in
    c.two_gates.ensures ∙ (λ i. two_driver (c.cell_at-a.ensures i) (a.id / 32 % 4) (c.cell_at-b.ensures i) a.nets a.l)
