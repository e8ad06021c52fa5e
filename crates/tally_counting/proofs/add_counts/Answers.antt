-- `tally_counting::add_counts` meets its contract. The invariant: the places before this one are added.
use Rattle.base.specs.{arith, ◌≡◌, refl, ap, ◌∙◌, ℕ}
use Rattle.tally_counting.specs.{add_up_to, added_up_to}
use Rattle.tally_counting.proofs.CountPositions.{tally_low, tally_step}
use Rattle.tally_counting.proofs.add_counts.Goals as goal

pub loop-i-init : goal.loop-i-init
unfolding add_up_to
loop-i-init c = refl

pub add_place-requires : goal.add_place-requires
add_place-requires c =
    let p = c.loop-i in
    let low = tally_low c.args.lib c.args.c c.args.t.now c.requires p.i p.t p.invariant in
    (omega arith, low.0, low.1, low.2)

pub loop-i-preserved : goal.loop-i-preserved
loop-i-preserved c =
    let p = c.loop-i in
    tally_step c.args.lib c.args.c c.args.t.now c.requires p.i p.t p.invariant (omega arith) _ _ c.add_place.new.t refl refl c.add_place.ensures

pub returns : goal.returns
returns c =
    let p = c.loop-i in
    let e : p.i ≡ 32 = omega arith in
    p.invariant ∙ ap (λ (k : ℕ). added_up_to k c.args.lib c.args.c c.args.t.now) e
