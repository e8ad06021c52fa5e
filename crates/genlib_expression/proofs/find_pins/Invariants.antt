-- `genlib_expression::find_pins` meets its contract. The invariant: what the tokens that are left add to the list at hand is the whole list; the measure is what is left of the line.
use Rattle.base.specs.{◌≡◌, ◌-◌, ◌≤◌, length}
use Rattle.model.specs.{add_pins, pins_of}
use Rattle.genlib_expression.specs.{rest_at, names_at, pins_from, no_pins}
use Rattle.genlib_expression.proofs.PinNumbering.{PinsOn}
use Rattle.genlib_expression.proofs.find_pins.Given as goal

abbrev pub invariant-loop-at : goal.invariant-loop-at
invariant-loop-at l = (l.at ≤ length l.w) × (length l.p.at ≡ 4) × (l.p.n ≤ 4) × (pins_of (rest_at l.w l.from) ≡ add_pins (names_at l.w l.p) (rest_at l.w l.at)) × PinsOn l.w l.p l.at (pins_from (length l.w) l.w no_pins l.from)

abbrev pub decreases-loop-at : goal.decreases-loop-at
decreases-loop-at l = length l.w - l.at
