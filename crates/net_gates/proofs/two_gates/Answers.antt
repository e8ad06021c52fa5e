-- `net_gates::two_gates` meets its contract.
use Rattle.net_gates.proofs.two_gates.Goals as goal

pub returns : goal.returns
returns c =
    let a = c.args in
    rw (c.inner_nets-fed.ensures, c.root_nets-feeds.ensures, c.from-n.ensures, c.from.ensures)
