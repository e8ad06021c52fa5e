-- `cut_lists::insert_position` meets its contract.
use Rattle.base.specs.{◌≡◌, sym, ap, ◌∙◌, List, ◌++◌, ℕ, ◌<◌, compare, arith, length, take, drop, get_or}
use Rattle.model.specs.{insert}
use Rattle.cut_lists.proofs.KeyInsertion.{none_between, rejoin, passed, stopped, same, ended}
use Rattle.cut_lists.proofs.insert_position.Goals as goal

-- what follows the keys that are passed
behind : (L X Z : List ℕ) (from i k : ℕ) → insert compare k (drop from L) ≡ drop from (take i L) ++ X → X ≡ Z → insert compare k (drop from L) ≡ drop from (take i L) ++ Z
behind L X Z from i k a e = a ∙ ap (λ (s : List ℕ). drop from (take i L) ++ s) e

pub loop-i-init : goal.loop-i-init
loop-i-init c =
    let L : List ℕ = c.args.keys.now in
    ap (λ (s : List ℕ). s ++ insert compare c.args.k (drop c.args.from L)) (sym (none_between L c.args.from))

pub returns-then-k-y : goal.returns-then-k-y
returns-then-k-y c =
    let a = c.args in
    let l = c.loop-i in
    let short : l.i < length a.keys.now = omega (arith, c.requires.capacity) in
    (l.auto.i, omega arith, behind a.keys.now _ _ a.from l.i a.k l.invariant (stopped a.keys.now a.from l.i l.auto.i short a.k c.if-k-y.true))

pub returns-then-k-y-2 : goal.returns-then-k-y-2
returns-then-k-y-2 c =
    let a = c.args in
    let l = c.loop-i in
    let short : l.i < length a.keys.now = omega (arith, c.requires.capacity) in
    behind a.keys.now _ _ a.from l.i a.k l.invariant (same a.keys.now a.from l.i l.auto.i short a.k c.if-k-y-2.true)
    ∙ rejoin a.keys.now a.from l.i l.auto.i (omega (arith, short))

pub loop-i-preserved : goal.loop-i-preserved
loop-i-preserved c =
    let a = c.args in
    let l = c.loop-i in
    let below : get_or a.keys.now l.i 0 < a.k = omega (arith, c.if-k-y.false, c.if-k-y-2.false) in
    l.invariant ∙ passed a.keys.now a.from l.i l.auto.i (omega (arith, c.requires.capacity)) a.k below

pub returns : goal.returns
returns c =
    let a = c.args in
    let l = c.loop-i in
    let last : l.i ≡ 19 = omega (arith, l.auto.i-end, c.requires.fits) in
    let passed_all = rw last at l.invariant in
    (c.requires.fits, omega arith, behind a.keys.now _ _ a.from 19 a.k passed_all (ended a.keys.now 19 a.k (omega (arith, c.requires.capacity))))
