-- `cut_functions::note_leaves` meets its contract.
use Rattle.base.specs.{◌≡◌, sym, ◌∙◌, List, ℕ, ◌-◌, ◌≤◌, arith, rules, length, take, drop, get_or, length-take-le, get_or-take}
use Rattle.cut_functions.specs.{leaf_notes}
use Rattle.cut_functions.proofs.LeafNotes.{leaf_begin, leaf_step}
use Rattle.cut_functions.proofs.note_leaves.Goals as goal

counted : (n : ℕ) (leaves : List ℕ) → length leaves ≡ 4 → n ≤ 4 → length (take n leaves) ≡ n
counted n leaves four few = length-take-le n leaves (omega arith)

pub loop-i-init : goal.loop-i-init
loop-i-init c =
    let a = c.args in
    let four : length a.leaves ≡ 4 = search rules in
    let n : length (take a.n a.leaves) ≡ a.n = counted a.n a.leaves four c.requires.0 in
    leaf_begin (take a.n a.leaves) 4 a.base a.notes.now (omega arith)

pub loop-i-preserved-then-i-n : goal.loop-i-preserved-then-i-n
loop-i-preserved-then-i-n c =
    let a = c.args in
    let l = c.loop-i in
    let j = l.i - 1 in
    let four : length a.leaves ≡ 4 = search rules in
    let n : length (take a.n a.leaves) ≡ a.n = counted a.n a.leaves four c.requires.0 in
    let e : get_or (take a.n a.leaves) j 0 ≡ get_or a.leaves j 0 = get_or-take a.n a.leaves j 0 c.if-i-n.true in
    leaf_step (take a.n a.leaves) l.i j a.base a.notes.now l.notes _ _
    (omega (arith, c.loop-i-test.true)) (omega (arith, c.if-i-n.true)) l.invariant (c.from-then-i-n.ensures ∙ sym e)
    (c.from.ensures ∙ c.pattern.ensures)

-- a leaf that the cut has not
pub loop-i-preserved : goal.loop-i-preserved
loop-i-preserved c =
    let a = c.args in
    let l = c.loop-i in
    let four : length a.leaves ≡ 4 = search rules in
    let n : length (take a.n a.leaves) ≡ a.n = counted a.n a.leaves four c.requires.0 in
    l.invariant
    ∙ sym (leaf_begin (take a.n a.leaves) l.i a.base a.notes.now (omega (arith, c.if-i-n.false)))
    ∙ leaf_begin (take a.n a.leaves) (l.i - 1) a.base a.notes.now (omega (arith, c.if-i-n.false))

pub returns : goal.returns
returns c =
    let a = c.args in
    let l = c.loop-i in
    let none : l.i ≡ 0 = omega (arith, c.loop-i-test.false) in
    l.invariant ∙ (λ q. leaf_notes (drop (none q) (take a.n a.leaves)) (none q) a.base a.notes.now)
