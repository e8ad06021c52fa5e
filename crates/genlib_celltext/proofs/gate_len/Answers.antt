-- `genlib_celltext::gate_len` meets its contract.
use Rattle.base.specs.{arith}
use Rattle.genlib_celltext.proofs.CellTextLength.{gate-length}
use Rattle.genlib_celltext.proofs.gate_len.Goals as goal

pub returns : goal.returns
returns c =
    let g = c.args.g in (
      (λ t h. omega (arith, gate-length t g (c.requires.0, h), c.field_len.ensures.0, c.field_len-2.ensures.0, c.delays_len.ensures.0, c.requires.0)),
      omega (arith, c.field_len.ensures.1, c.field_len-2.ensures.1, c.delays_len.ensures.1, c.requires.0, c.requires.1),
    )
