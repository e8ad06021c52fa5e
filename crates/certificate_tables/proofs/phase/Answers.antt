-- `certificate_tables::phase` meets its contract, in either phase.
use Rattle.base.specs.{arith}
use Rattle.certificate_tables.proofs.TableRows.{kept, permuted}
use Rattle.certificate_tables.proofs.phase.Goals as goal

pub returns-then-neg : goal.returns-then-neg
returns-then-neg c = (rw c.if-neg.true (permuted c.args.t), omega arith)

pub returns-else-neg : goal.returns-else-neg
returns-else-neg c = (rw c.if-neg.false (kept c.args.t), omega arith)
