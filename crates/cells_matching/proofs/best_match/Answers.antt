-- `cells_matching::best_match` meets its contract. The invariant: what is left of the bucket leads from b to the answer, of whichever cells the match table is.
-- The measure is how far h is from the end.
use Rattle.base.specs.{sym, subst, ◌-◌, arith, get_or}
use Rattle.cells_matching.specs.declared.Best.{Best}
use Rattle.cells_matching.specs.{VariantInBounds, link_addr, best_under}
use Rattle.cells_matching.proofs.BucketWalk.{Walking, walking_within, walking_falls, walking_next, walking_end}
use Rattle.cells_matching.proofs.BucketWalk.{walking_first}
use Rattle.cells_matching.proofs.best_match.Goals as goal
use Rattle.cells_matching.proofs.best_match.Goals.{In-loop-h}

-- the variant that the head names may be tried
ready : (c : In-loop-h) → VariantInBounds c.args.matches.now (c.loop-h.h - 1)
ready c =
    let a = c.args in
    let l = c.loop-h in
    let k = c.requires.0 in
    walking_within k.0 a.times.now (best_under k.0 a.f a.times.now a.bound) a.matches.now k.1 l.h l.b (l.invariant k.0 k.1) c.loop-h-test.true

pub loop-h-init : goal.loop-h-init
loop-h-init c =
    let a = c.args in
    λ cells matches. rw c.from.ensures (walking_first cells a.matches.now a.f a.times.now a.bound matches (omega (arith, c.ranges.f)))

pub try_variant-b-requires : goal.try_variant-b-requires
try_variant-b-requires c = (ready (goal.at.try_variant-b-requires c).In-loop-h, c.requires.1)

pub overflow_mul-h : goal.overflow_mul-h
overflow_mul-h c = let w = ready (goal.at.overflow_mul-h c).In-loop-h in omega (arith, w.within, w.there)

pub overflow_add-h : goal.overflow_add-h
overflow_add-h c = let w = ready (goal.at.overflow_add-h c).In-loop-h in omega (arith, w.within, w.there)

pub offset_bounds-matches-x : goal.offset_bounds-matches-x
offset_bounds-matches-x c = let w = ready (goal.at.offset_bounds-matches-x c).In-loop-h in omega (arith, w.within, w.there)

pub bounds-matches-x : goal.bounds-matches-x
bounds-matches-x c = let w = ready (goal.at.bounds-matches-x c).In-loop-h in omega (arith, w.within, w.there)

pub loop-h-smaller : goal.loop-h-smaller
loop-h-smaller c =
    let a = c.args in
    let l = c.loop-h in
    let k = c.requires.0 in
    walking_falls k.0 a.times.now (best_under k.0 a.f a.times.now a.bound) a.matches.now k.1 l.h l.b (l.invariant k.0 k.1) c.loop-h-test.true

pub loop-h-preserved : goal.loop-h-preserved
loop-h-preserved c =
    let a = c.args in
    let l = c.loop-h in
    let k = c.requires.0 in
    λ cells matches. subst (λ (x : Best). Walking cells a.times.now (best_under cells a.f a.times.now a.bound) a.matches.now (get_or a.matches.now (link_addr (l.h - 1)) 0) x) (sym c.try_variant-b.ensures)
    (walking_next cells a.times.now (best_under cells a.f a.times.now a.bound) a.matches.now matches c.requires.1 l.h l.b (l.invariant cells matches) c.loop-h-test.true)

pub returns : goal.returns
returns c =
    let a = c.args in
    let l = c.loop-h in
    λ cells matches. walking_end cells a.times.now (best_under cells a.f a.times.now a.bound) a.matches.now matches l.h l.b (l.invariant cells matches) c.loop-h-test.false
