-- `base_truth::crossed_at` meets its contract: by the mask's bit.
use Rattle.base.specs.{◌≡◌, sym, ap, ◌∙◌, Bool, cond, ℕ, ◌/◌, ◌%◌, ◌^◌, arith, get_or, eqb, eq-eqb, ne_eqb}
use Rattle.model.specs.{bit, value}
use Rattle.base_truth.specs.{places_of, crossed, crossed_at}
use Rattle.base_truth.proofs.Tables.{value_shift}
use Rattle.base_truth.proofs.VariantTables.{place-small}
use Rattle.base_truth.proofs.crossed_at.Goals as goal

-- a bit by a shift
bit-by : (mask j : ℕ) → bit mask j ≡ eqb (mask / 2 ^ j % 2) 1
unfolding value
bit-by mask j = value_shift j mask

pub crossed-requires : goal.crossed-requires
crossed-requires c =
    omega (arith, c.place.ensures, place-small c.args.order c.args.j c.requires.0 c.requires.1)

pub returns-then-mask-j-eq1 : goal.returns-then-mask-j-eq1
unfolding crossed_at
returns-then-mask-j-eq1 c =
    let a = c.args in
    c.crossed.ensures ∙ ap (crossed a.t) c.place.ensures
    ∙ sym (ap (λ (b : Bool). cond b (crossed a.t (get_or (places_of a.order) a.j 0)) a.t) (bit-by a.mask a.j ∙ eq-eqb (a.mask / 2 ^ a.j % 2) 1 c.if-mask-j-eq1.true))

pub returns-else-mask-j-eq1 : goal.returns-else-mask-j-eq1
unfolding crossed_at
returns-else-mask-j-eq1 c =
    let a = c.args in
    sym (ap (λ (b : Bool). cond b (crossed a.t (get_or (places_of a.order) a.j 0)) a.t) (bit-by a.mask a.j ∙ ne_eqb (a.mask / 2 ^ a.j % 2) 1 c.if-mask-j-eq1.false))
