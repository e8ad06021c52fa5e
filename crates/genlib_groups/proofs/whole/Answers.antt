-- `genlib_groups::whole` meets its contract. The invariant: the number so far is that of the digits passed.
use Rattle.base.specs.{◌≡◌, sym, ap, ◌∙◌, arith, ℕ, min, List, take, get_or, refl, length, take-length}
use Rattle.model.specs.{as_digits, is_digit}
use Rattle.genlib_groups.proofs.GenlibFigures.{cap_digit, take_more, digit_bounds, all-at}
use Rattle.genlib_groups.proofs.whole.Goals as goal

pub loop-b-init : goal.loop-b-init
unfolding as_digits
loop-b-init c = refl

pub add_digit-n-requires : goal.add_digit-n-requires
add_digit-n-requires c =
    let l = c.loop-b in
    let b = digit_bounds _ (all-at is_digit c.args.digits.now l.b-index 0 c.requires c.loop-b-test.true) in
    (omega (arith, l.invariant), b.0, b.1)

pub loop-b-preserved : goal.loop-b-preserved
loop-b-preserved c =
    let l = c.loop-b in
    let w = c.args.digits.now in
    c.add_digit-n.ensures ∙ cap_digit 0 (take l.b-index w) (get_or w l.b-index 0) l.n l.invariant ∙ ap (λ (x : List ℕ). min 65536 (as_digits 0 x)) (sym (take_more w l.b-index c.loop-b-test.true))

pub returns : goal.returns
returns c = c.loop-b.invariant ∙ ap (λ (x : List ℕ). min 65536 (as_digits 0 x)) (let e : c.loop-b.b-index ≡ length c.args.digits.now = omega arith in ap (λ (k : ℕ). take k c.args.digits.now) e ∙ take-length c.args.digits.now)
