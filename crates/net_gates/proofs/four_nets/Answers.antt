-- `net_gates::four_nets` meets its contract.
use Rattle.base.specs.{◌∷◌, [], ◌*◌}
use Rattle.net_gates.proofs.four_nets.Goals as goal

pub returns : goal.returns
returns c =
    λ i.
    2 * c.pin_net-a.ensures.0 i ∷ 2 * c.pin_net-b.ensures.0 i ∷ 2 * c.pin_net-c.ensures.0 i ∷ 2 * c.pin_net-d.ensures.0 i ∷ []
