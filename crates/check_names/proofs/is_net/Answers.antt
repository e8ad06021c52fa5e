-- `check_names::is_net` meets its contract: each return knows what was met.
use Rattle.base.specs.{sym, ◌∙◌}
use Rattle.check_names.proofs.NetNames.{net-empty, net-long, net-bytes}
use Rattle.check_names.proofs.is_net.Goals as goal

pub returns : goal.returns
returns c = c.net_bytes.ensures ∙ sym (net-bytes _ c.if-w-eq0.false c.if-w-gt8.false)

pub returns-then-w-eq0 : goal.returns-then-w-eq0
returns-then-w-eq0 c = sym (net-empty _ c.if-w-eq0.true)

pub returns-then-w-gt8 : goal.returns-then-w-gt8
returns-then-w-gt8 c = sym (net-long _ c.if-w-gt8.true)
