-- `cells_matching::run_of` meets its contract: by the number of pins.
use Rattle.base.specs.{ℕ, zero, suc, ◌<◌, ◌≡◌, refl, sym, ap, arith}
use Rattle.cells_matching.specs.{run_of}
use Rattle.cells_matching.proofs.run_of.Goals as goal

many : (pins : ℕ) → 2 < pins → 1 ≡ run_of pins
unfolding run_of
many zero h = absurd (omega arith)
many (suc zero) h = absurd (omega arith)
many (suc (suc zero)) h = absurd (omega arith)
many (suc (suc (suc pins))) h = refl

pub returns-in-0 : goal.returns-in-0
unfolding run_of
returns-in-0 c = sym (ap run_of c.in-0.is)

pub returns-in-1 : goal.returns-in-1
unfolding run_of
returns-in-1 c = sym (ap run_of c.in-1.is)

pub returns-in-2 : goal.returns-in-2
unfolding run_of
returns-in-2 c = sym (ap run_of c.in-2.is)

pub returns-in_default : goal.returns-in_default
returns-in_default c = many c.args.pins (omega arith)
