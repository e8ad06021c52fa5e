-- `cells_matching::pick_pin` meets its contract: by whether there is such a pin.
use Rattle.base.specs.{◌≡◌, ap, ◌∙◌, ℕ, ◌*◌, arith}
use Rattle.base_truth.specs.{places_of}
use Rattle.base_truth.proofs.{place-small}
use Rattle.cells_matching.specs.{pick_pin}
use Rattle.cells_matching.proofs.BucketWalk.{pick_first, pick_absent, pick_small}
use Rattle.cells_matching.proofs.pick_pin.Goals as goal

pub overflow_mul-result : goal.overflow_mul-result
overflow_mul-result c =
    omega (arith, c.place.ensures, place-small c.args.order c.args.j c.requires.0 c.requires.1)

pub returns-then-j-from : goal.returns-then-j-from
returns-then-j-from c =
    let a = c.args in
    let e : 2 * c.place.result ≡ pick_pin a.pins (places_of a.order) 0 a.j =
    ap (λ (p : ℕ). 2 * p) c.place.ensures ∙ pick_first a.pins (places_of a.order) a.j (omega (arith, c.if-j-from.true, c.from.ensures)) c.requires.1 in
    (e, omega (arith, e, pick_small a.pins a.order 0 a.j c.requires.0 c.requires.1))

pub returns-else-j-from : goal.returns-else-j-from
returns-else-j-from c = let a = c.args in (pick_absent a.pins (places_of a.order) 0 a.j (omega (arith, c.if-j-from.false, c.from.ensures)), omega arith)
