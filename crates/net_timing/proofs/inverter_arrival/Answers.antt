-- `net_timing::inverter_arrival` meets its contract: an inverter to map with, or what the phase has of its own.
use Rattle.base.specs.{◌≡◌, ap, subst, ◌∙◌, ℕ, ◌+◌, ◌*◌, ◌<◌, arith, get_or}
use Rattle.net_timing.specs.{after, inverter_min, InverterIn}
use Rattle.net_timing.proofs.inverter_arrival.Goals as goal
use Rattle.net_timing.proofs.inverter_arrival.Goals.{In-Inverter}

-- an inverter is one of the numbers
few : (c : In-Inverter) → c.in-Inverter.k < 256
few c = (subst (InverterIn c.requires.0) c.in-Inverter.is c.requires.1).1

pub overflow_mul-k : goal.overflow_mul-k
overflow_mul-k c = omega (arith, few (goal.at.overflow_mul-k c).In-Inverter)

pub returns-in-Inverter : goal.returns-in-Inverter
unfolding inverter_min
returns-in-Inverter c cells i mins =
    let n : ℕ = c.in-Inverter.k in
    let h = (subst (InverterIn cells) c.in-Inverter.is i).0 in
    let z : 4 * n ≡ 4 * n + 0 = omega arith in
    rw c.in-Inverter.is
    (c.later.ensures ∙ ap (after c.args.other) (ap (λ (y : ℕ). get_or c.args.mins.now y 0) z ∙ mins.listed n 0 h (omega arith)))

pub returns-in-Input : goal.returns-in-Input
unfolding inverter_min
returns-in-Input c cells i mins = rw c.in-Input.is

pub returns-in-Cell : goal.returns-in-Cell
unfolding inverter_min
returns-in-Cell c cells i mins = rw c.in-Cell.is

pub returns-in-Nothing : goal.returns-in-Nothing
unfolding inverter_min
returns-in-Nothing c cells i mins = rw c.in-Nothing.is
