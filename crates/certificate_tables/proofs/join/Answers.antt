-- `certificate_tables::join` meets its contract: row by row.
use Rattle.base.specs.{arith}
use Rattle.certificate_tables.proofs.TableRows.{joined}
use Rattle.certificate_tables.proofs.join.Goals as goal

pub returns : goal.returns
returns c = (joined c.args.s c.args.t, omega arith)
