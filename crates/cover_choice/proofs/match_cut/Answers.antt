-- `cover_choice::match_cut` meets its contract: the best of either bucket is the choice.
use Rattle.base.specs.{◌≡◌, sym, ap, subst, ◌∙◌, true, List, ℕ, ◌≤◌, ◌<◌, arith}
use Rattle.model.specs.{earlier, phase_table}
use Rattle.model.specs.declared.Cut.{Cut}
use Rattle.base_words.specs.{count_at, cut_of, leaves_of, leaves_at}
use Rattle.base_words.proofs.{four-leaves}
use Rattle.cells_matching.specs.{ArrivalsBounded, best_of, phase_as}
use Rattle.cover_choice.specs.{LeavesIn, CutsIn, times_at, found_phase}
use Rattle.cover_choice.proofs.LeafTimes.{times-bounded}
use Rattle.cover_choice.proofs.CoveredOutputs.{few-leaves, table-small, on_best}
use Rattle.cover_choice.proofs.match_cut.Goals as goal
use Rattle.cover_choice.proofs.match_cut.Goals.{After-times-t}

-- the cut that is loaded
loaded : (w : List ℕ) (m v k : ℕ) → CutsIn w m → v ≤ m → k < count_at w m v → LeavesIn w m (cut_of w m v k)
loaded w m v k r inside low = record { capacity = r.capacity; four = four-leaves w m v k; within = λ j i. r.within v k j inside low i }

-- the arrivals of its leaves
are : (c : After-times-t) → let a = c.args in c.times-t.result ≡ times_at a.work.now a.m (leaves_at a.work.now a.m a.v a.k)
are c =
    let a = c.args in
    c.times-t.ensures ∙ ap (λ (x : Cut). times_at a.work.now a.m (leaves_of x)) c.load_cut.ensures

bounded : (c : After-times-t) → ArrivalsBounded c.times-t.result
bounded c =
    let a = c.args in
    subst ArrivalsBounded (sym (are c))
    (times-bounded a.work.now a.m (leaves_at a.work.now a.m a.v a.k) 1073741823 c.requires.1.early (omega arith)
    (λ j i. c.requires.1.cuts.within a.v a.k j c.requires.2 c.requires.3 i))

pub times-t-requires : goal.times-t-requires
times-t-requires c =
    let a = c.args in
    subst (LeavesIn a.work.now a.m) (sym c.load_cut.ensures) (loaded a.work.now a.m a.v a.k c.requires.1.cuts c.requires.2 c.requires.3)

pub match_phase-positive-requires : goal.match_phase-positive-requires
match_phase-positive-requires c = (c.requires.0, bounded (goal.at.match_phase-positive-requires c).After-times-t)

pub match_phase-negative-requires : goal.match_phase-negative-requires
match_phase-negative-requires c = (c.requires.0, bounded (goal.at.match_phase-negative-requires c).After-times-t)

pub returns : goal.returns
returns c =
    let a = c.args in
    let w : List ℕ = a.work.now in
    let few = few-leaves w a.m a.v a.k in
    let t = are (goal.at.returns c).After-times-t in
    λ cells matches. (
      c.match_phase-positive.ensures cells matches
          ∙ ap (earlier (found_phase a.former.positive)) (ap (λ (x : List ℕ). phase_as a.k (best_of cells a.f x)) t
          ∙ on_best cells a.matches.now matches w a.m 1073741823 c.requires.1.early (omega arith) (leaves_at w a.m a.v a.k) few
          (λ j i. c.requires.1.cuts.within a.v a.k j c.requires.2 c.requires.3 i) a.k a.f (omega (arith, c.ranges.f))),
      c.match_phase-negative.ensures cells matches
          ∙ ap (earlier (found_phase a.former.negative)) ((λ i. phase_as a.k (best_of cells (c.in_phase.ensures i) (t i)))
          ∙ on_best cells a.matches.now matches w a.m 1073741823 c.requires.1.early (omega arith) (leaves_at w a.m a.v a.k) few
          (λ j i. c.requires.1.cuts.within a.v a.k j c.requires.2 c.requires.3 i) a.k (phase_table true a.f) (table-small a.f)),
    )
