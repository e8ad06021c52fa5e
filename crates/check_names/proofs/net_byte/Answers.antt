-- `check_names::net_byte` meets its contract: a byte of a cell's name that is no underscore.
use Rattle.base.specs.{sym, ◌∙◌, ap}
use Rattle.check_names.specs.{is_net_byte}
use Rattle.check_names.proofs.NetNames.{net-line, net_other}
use Rattle.check_names.proofs.net_byte.Goals as goal

pub returns : goal.returns
returns c = c.is_name_byte.ensures ∙ net_other c.args.b c.if-b-eq95.false

pub returns-then-b-eq95 : goal.returns-then-b-eq95
returns-then-b-eq95 c = sym (ap is_net_byte c.if-b-eq95.true ∙ net-line)
