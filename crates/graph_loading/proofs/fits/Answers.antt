-- `graph_loading::fits` meets its contract.
use Rattle.base.specs.{sym, ◌∙◌, arith, lt-leb}
use Rattle.graph_loading.proofs.LineTestLaws.{fit-first, fit-left, fit-right}
use Rattle.graph_loading.proofs.fits.Goals as goal

pub returns-then-l-m-2 : goal.returns-then-l-m-2
returns-then-l-m-2 c = sym (fit-right c.args.m c.args.l (omega arith) (omega arith))

pub returns-else-l-m-2 : goal.returns-else-l-m-2
returns-else-l-m-2 c =
    lt-leb _ _ c.if-l-m-2.false ∙ sym (fit-left c.args.m c.args.l (omega arith) (omega arith))

pub returns-else-l-m : goal.returns-else-l-m
returns-else-l-m c = lt-leb _ _ c.if-l-m.false ∙ sym (fit-first c.args.m c.args.l (omega arith))
