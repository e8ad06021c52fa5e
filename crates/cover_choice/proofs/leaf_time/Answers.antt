-- `cover_choice::leaf_time` meets its contract: by whether there is such a leaf.
use Rattle.base.specs.{◌≡◌, ap, subst, ◌∙◌, ℕ, ◌≤◌, ◌<◌, arith, eqb, length, get_or, length-take, get_or-take}
use Rattle.base_words.specs.{leaves_of}
use Rattle.cells_matching.specs.{time_of}
use Rattle.cover_choice.proofs.LeafTimes.{leaf_there, leaf_past}
use Rattle.cover_choice.proofs.leaf_time.Goals as goal

pub phase-requires : goal.phase-requires
phase-requires c =
    let a = c.args in
    let h : a.i < length (leaves_of a.cut) = subst (λ (n : ℕ). a.i < n) c.size.ensures c.if-i-size.true in
    let l : get_or (leaves_of a.cut) a.i 0 ≡ get_or a.cut.leaves a.i 0 =
    get_or-take a.cut.count a.cut.leaves a.i 0 (omega (arith, length-take a.cut.count a.cut.leaves)) in
    (c.requires.0.capacity, omega (arith, c.from.ensures, l, c.requires.0.within a.i h, c.requires.2))

pub returns-then-i-size : goal.returns-then-i-size
returns-then-i-size c =
    let a = c.args in
    let h : a.i < length (leaves_of a.cut) = subst (λ (n : ℕ). a.i < n) c.size.ensures c.if-i-size.true in
    c.time.ensures
    ∙ ap time_of c.phase.ensures
    ∙ leaf_there a.work.now a.m a.cut a.i a.neg c.from.result h c.requires.2 c.from.ensures

pub returns-else-i-size : goal.returns-else-i-size
returns-else-i-size c =
    let a = c.args in
    leaf_past a.work.now a.m a.cut a.i (eqb a.neg 1) (subst (λ (n : ℕ). n ≤ a.i) c.size.ensures c.if-i-size.false)
