-- `check_names::net_code` meets its contract.
use Rattle.base.specs.{sym, ◌∙◌, ap, Some}
use Rattle.check_names.proofs.NetNames.{net-short, code-net, code-none}
use Rattle.check_names.proofs.net_code.Goals as goal

pub returns-then-is_net : goal.returns-then-is_net
returns-then-is_net c = ap Some c.code_of.ensures ∙ sym (code-net _ (sym c.is_net.ensures ∙ c.if-is_net.true))

pub code_of-requires : goal.code_of-requires
code_of-requires c = net-short _ (sym c.is_net.ensures ∙ c.if-is_net.true)

pub returns-else-is_net : goal.returns-else-is_net
returns-else-is_net c = sym (code-none _ (sym c.is_net.ensures ∙ c.if-is_net.false))
