-- A cut of the words: how many leaves, whether it is the variable alone, and the arrivals of its leaves.
--     size_least, trivial_one, trivial_not       by the word of its size
--     leaf_there, leaf_past                           the arrival of a leaf
--     times_of_lem, times-bounded                          those of all are what matching asks for
use Rattle.base.specs.{ℕ, zero, suc, min, ◌+◌, ◌*◌, ◌≤◌, ◌<◌, arith, ◌≡◌, refl, sym, ap, ◌∙◌, Bool, true, false, cond, ◌&&◌, List, [], ◌∷◌, eqb}
use Rattle.base.specs.{ltb, length, take, get_or, length-take, get_or-take, eqb-true, eqb-false, ltb-true, lt-ltb, le-ltb}
use Rattle.model.specs.{same, literal, absent}
use Rattle.model.specs.declared.Cut.{Cut}
use Rattle.model.specs.declared.Phase.{Phase}
use Rattle.base_words.specs.{leaves_of, phases_at, phase_at}
use Rattle.cells_matching.specs.{infinite, last_time, time_of, ArrivalsBounded, TimesOf, Quick}
use Rattle.cover_choice.specs.{leaf_time, times_at, Early}

pub size_least : (c : Cut) → length c.leaves ≡ 4 → min c.count 4 ≡ length (leaves_of c)
size_least c e = omega (arith, length-take c.count c.leaves)

-- ---- the variable alone

and-true : (b : Bool) → (b && true) ≡ b
and-true true = refl
and-true false = refl

and-false : (b : Bool) → (b && false) ≡ false
and-false true = refl
and-false false = refl

one_leaf : (xs : List ℕ) (v : ℕ) → length xs ≡ 4 → eqb (get_or xs 0 0) v ≡ same (take 1 xs) (v ∷ [])
unfolding same
one_leaf [] v h = absurd (omega arith)
one_leaf (x ∷ xs) v h = sym (and-true (eqb x v))

other_leaves : (xs : List ℕ) (n v : ℕ) → length xs ≡ 4 → (n ≡ 1 → ⊥) → false ≡ same (take n xs) (v ∷ [])
unfolding same
other_leaves [] n v h d = absurd (omega arith)
other_leaves (x ∷ []) n v h d = absurd (omega arith)
other_leaves (x ∷ y ∷ xs) zero v h d = refl
other_leaves (x ∷ y ∷ xs) (suc zero) v h d = absurd (d refl)
other_leaves (x ∷ y ∷ xs) (suc (suc n)) v h d = sym (and-false (eqb x v))

pub trivial_one : (c : Cut) (v : ℕ) → length c.leaves ≡ 4 → c.count ≡ 1 → eqb (get_or c.leaves 0 0) v ≡ same (leaves_of c) (v ∷ [])
trivial_one c v h e = one_leaf c.leaves v h ∙ sym (ap (λ (n : ℕ). same (take n c.leaves) (v ∷ [])) e)

pub trivial_not : (c : Cut) (v : ℕ) → length c.leaves ≡ 4 → (c.count ≡ 1 → ⊥) → false ≡ same (leaves_of c) (v ∷ [])
trivial_not c v h d = other_leaves c.leaves c.count v h d

-- ---- arrivals

-- a literal by the number of its phase
pub literal-is : (neg x : ℕ) → neg < 2 → 2 * x + neg ≡ literal (eqb neg 1) x
unfolding literal
literal-is neg x h = go (eqb neg 1) refl
  where
    go : (t : Bool) → eqb neg 1 ≡ t → 2 * x + neg ≡ cond t (2 * x + 1) (2 * x)
    go true e = omega (arith, eqb-true neg 1 e)
    go false e = let n : neg ≡ 1 → ⊥ = eqb-false neg 1 e in omega arith

pub literal-small : (b : Bool) (x m : ℕ) → x ≤ m → literal b x ≤ 2 * m + 1
unfolding literal
literal-small true x m h = omega arith
literal-small false x m h = omega arith

pub leaf_there : (w : List ℕ) (m : ℕ) (c : Cut) (i neg x : ℕ) → i < length (leaves_of c) → neg < 2 → x ≡ get_or c.leaves i 0
    → time_of (phase_at w m (2 * x + neg)) ≡ leaf_time w m (leaves_of c) i (eqb neg 1)
unfolding leaf_time
leaf_there w m c i neg x h b e =
    let l : get_or (leaves_of c) i 0 ≡ get_or c.leaves i 0 = get_or-take c.count c.leaves i 0 (omega (arith, length-take c.count c.leaves)) in
    ap (λ (y : ℕ). time_of (phase_at w m y)) (literal-is neg x b ∙ ap (literal (eqb neg 1)) (e ∙ sym l))
    ∙ sym (ap (λ (t : Bool). cond t (time_of (phase_at w m (literal (eqb neg 1) (get_or (leaves_of c) i 0)))) infinite) (lt-ltb i (length (leaves_of c)) h))

pub leaf_past : (w : List ℕ) (m : ℕ) (c : Cut) (i : ℕ) (neg : Bool) → length (leaves_of c) ≤ i → infinite ≡ leaf_time w m (leaves_of c) i neg
unfolding leaf_time
leaf_past w m c i neg h = sym (ap (λ (t : Bool). cond t (time_of (phase_at w m (literal neg (get_or (leaves_of c) i 0)))) infinite) (le-ltb i (length (leaves_of c)) h))

-- past the leaves there are zeros
none : (i : ℕ) → get_or (0 ∷ 0 ∷ 0 ∷ 0 ∷ 0 ∷ 0 ∷ 0 ∷ 0 ∷ []) i 0 ≤ infinite
none zero = omega arith
none (suc zero) = omega arith
none (suc (suc zero)) = omega arith
none (suc (suc (suc zero))) = omega arith
none (suc (suc (suc (suc zero)))) = omega arith
none (suc (suc (suc (suc (suc zero))))) = omega arith
none (suc (suc (suc (suc (suc (suc zero)))))) = omega arith
none (suc (suc (suc (suc (suc (suc (suc zero))))))) = omega arith
none (suc (suc (suc (suc (suc (suc (suc (suc i)))))))) = omega arith

module _ (w : List ℕ) (m : ℕ) (cut : List ℕ) where
  there : (i : ℕ) (neg : Bool) → i < length cut → leaf_time w m cut i neg ≡ time_of (phase_at w m (literal neg (get_or cut i 0)))
  unfolding leaf_time
  there i neg h = ap (λ (t : Bool). cond t (time_of (phase_at w m (literal neg (get_or cut i 0)))) infinite) (lt-ltb i (length cut) h)

  times_get : (i : ℕ) (neg : Bool) → i < 4 → get_or (times_at w m cut) (literal neg i) 0 ≡ leaf_time w m cut i neg
  unfolding times_at literal
  times_get zero false h = refl
  times_get zero true h = refl
  times_get (suc zero) false h = refl
  times_get (suc zero) true h = refl
  times_get (suc (suc zero)) false h = refl
  times_get (suc (suc zero)) true h = refl
  times_get (suc (suc (suc zero))) false h = refl
  times_get (suc (suc (suc zero))) true h = refl
  times_get (suc (suc (suc (suc i)))) neg h = absurd (omega arith)

  beyond : (i : ℕ) (neg : Bool) → length cut ≤ i → leaf_time w m cut i neg ≡ infinite
  unfolding leaf_time
  beyond i neg h = ap (λ (t : Bool). cond t (time_of (phase_at w m (literal neg (get_or cut i 0)))) infinite) (le-ltb i (length cut) h)

  pub times_of_lem : length cut ≤ 4 → TimesOf (phases_at w m) cut (times_at w m cut)
  times_of_lem few = record { there = λ i neg h. times_get i neg (omega arith) ∙ there i neg h; past = λ i neg h f. times_get i neg f ∙ beyond i neg h }

  module _ (t : ℕ) (e : Early w m t) (small : t ≤ last_time) (inside : (j : ℕ) → j < length cut → get_or cut j 0 ≤ m) where
    of_phase_lem : (p : Phase) → p.arrival ≤ t → time_of p ≤ infinite
    unfolding time_of
    of_phase_lem p h = go (absent p.source)
      where
        go : (b : Bool) → cond b infinite p.arrival ≤ infinite
        go true = omega arith
        go false = omega arith

    leaf_early : (i : ℕ) (neg : Bool) → i < length cut → (phase_at w m (literal neg (get_or cut i 0))).arrival ≤ t
    leaf_early i neg h = e.early (literal neg (get_or cut i 0)) (literal-small neg (get_or cut i 0) m (inside i h))

    leaf_bounded : (i : ℕ) (neg : Bool) → leaf_time w m cut i neg ≤ infinite
    unfolding leaf_time
    leaf_bounded i neg = go (ltb i (length cut)) refl
      where
        go : (b : Bool) → ltb i (length cut) ≡ b → cond b (time_of (phase_at w m (literal neg (get_or cut i 0)))) infinite ≤ infinite
        go true q = of_phase_lem (phase_at w m (literal neg (get_or cut i 0))) (leaf_early i neg (ltb-true i (length cut) q))
        go false q = omega arith

    bounded : (i : ℕ) → get_or (times_at w m cut) i 0 ≤ infinite
    unfolding times_at
    bounded zero = leaf_bounded 0 false
    bounded (suc zero) = leaf_bounded 0 true
    bounded (suc (suc zero)) = leaf_bounded 1 false
    bounded (suc (suc (suc zero))) = leaf_bounded 1 true
    bounded (suc (suc (suc (suc zero)))) = leaf_bounded 2 false
    bounded (suc (suc (suc (suc (suc zero))))) = leaf_bounded 2 true
    bounded (suc (suc (suc (suc (suc (suc zero)))))) = leaf_bounded 3 false
    bounded (suc (suc (suc (suc (suc (suc (suc zero))))))) = leaf_bounded 3 true
    bounded (suc (suc (suc (suc (suc (suc (suc (suc i)))))))) = none i

    pub times-bounded : ArrivalsBounded (times_at w m cut)
    unfolding times_at
    times-bounded = record { bounded = bounded; still = refl }

    pub times_quick : Quick (phases_at w m) cut
    unfolding Quick
    times_quick i neg h = omega (arith, leaf_early i neg h)
