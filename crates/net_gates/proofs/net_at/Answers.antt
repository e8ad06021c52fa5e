-- `net_gates::net_at` meets its contract: an array of four has no fifth.
use Rattle.base.specs.{◌≡◌, sym, arith, length, get_or-eq_default, rules}
use Rattle.net_gates.proofs.net_at.Goals as goal

pub returns-else-j-lt4 : goal.returns-else-j-lt4
returns-else-j-lt4 c =
    let a = c.args in
    let four : length a.nets ≡ 4 = search rules in
    sym (get_or-eq_default a.nets 0 {n = a.j} (omega (arith, c.if-j-lt4.false)))
