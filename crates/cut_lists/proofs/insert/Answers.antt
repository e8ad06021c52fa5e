-- `cut_lists::insert` meets its contract.
use Rattle.base.specs.{◌≡◌, sym, ap, ◌∙◌, List, ◌∷◌, ◌++◌, ℕ, suc, ◌-◌, ◌<◌, arith, length, drop, length-drop}
use Rattle.cut_lists.specs.{key_capacity}
use Rattle.cut_lists.proofs.KeyInsertion.{put-at, added-capacity, added_full}
use Rattle.cut_lists.proofs.insert.Goals as goal

pub returns-then-from-eq0 : goal.returns-then-from-eq0
returns-then-from-eq0 c =
    let L : List ℕ = c.args.keys.now in
    let f : ℕ = c.args.from in
    let e = added_full c.args.k (drop f L) (omega (arith, length-drop f L, c.requires.capacity, c.if-from-eq0.true)) in
    (ap (λ (n : ℕ). drop n L) (sym c.if-from-eq0.true) ∙ sym e, omega arith)

pub returns-in_default : goal.returns-in_default
returns-in_default c =
    let L : List ℕ = c.args.keys.now in
    let f : ℕ = c.args.from in
    let e = added-capacity c.args.k (drop f L) (omega (arith, length-drop f L, c.requires.capacity, c.if-from-eq0.false)) in
    (sym (e ∙ c.in_default.ensures), c.requires.fits)

pub returns : goal.returns
returns c =
    let L : List ℕ = c.args.keys.now in
    let f : ℕ = c.args.from in
    let r : ℕ = c.in-Some.at in
    let k : ℕ = c.args.k in
    let out : List ℕ = c.move_up.new.keys in
    let moved = c.move_up.ensures in
    let free = c.in-Some.ensures in
    let long : length out ≡ key_capacity = c.move_up.auto.keys ∙ c.requires.capacity in
    let short : length (drop f L) < key_capacity = omega (arith, length-drop f L, c.requires.capacity, c.if-from-eq0.false) in
    let e : suc (r - 1) ≡ r = omega (arith, free.0, c.if-from-eq0.false) in (
      put-at out (f - 1) (r - 1) (omega (arith, free)) (omega (arith, free, long, e)) k
          ∙ (λ z. moved.ahead z ++ (k ∷ (ap (λ (n : ℕ). drop n out) e ∙ moved.behind) z))
          ∙ sym (added-capacity k (drop f L) short ∙ free.2),
      omega (arith, c.requires.fits),
    )
