-- `net_gates::root_net` meets its contract.
use Rattle.base.specs.{sym, ◌∙◌, ℕ, get_or}
use Rattle.net_gates.proofs.GateFeeds.{root_before, root-behind, root-fed}
use Rattle.net_gates.proofs.root_net.Goals as goal

pub returns-then-j-pin : goal.returns-then-j-pin
returns-then-j-pin c =
    let a = c.args in
    c.net_at.ensures ∙ sym (root_before (λ (k : ℕ). get_or a.nets k 0) a.inside a.pin a.n a.j c.if-j-pin.true)

pub returns-then-pin-j : goal.returns-then-pin-j
returns-then-pin-j c =
    let a = c.args in
    c.net_at-then-pin-j.ensures ∙ sym (root-behind (λ (k : ℕ). get_or a.nets k 0) a.inside a.pin a.n a.j c.if-pin-j.true)

pub returns : goal.returns
returns c =
    let a = c.args in
    sym (root-fed (λ (k : ℕ). get_or a.nets k 0) a.inside a.pin a.n a.j c.if-j-pin.false c.if-pin-j.false)
