-- The first of the earliest.
--     earlier_assoc       `earlier` is associative
--     choose_append       the choice of two lists is the earlier of their choices
--     choose-kept         what is not listed counts as a phase with no source
use Rattle.base.specs.{ℕ, ◌<◌, ◌≤◌, ◌≡◌, refl, sym, ap, ◌∙◌, Bool, true, false, cond, List, [], ◌∷◌, ◌++◌, map, arith, ltb, ltb-true}
use Rattle.base.specs.{ltb-false, lt-ltb, le-ltb}
use Rattle.model.specs.{keep, absent, earlier, choose, no_phase}
use Rattle.model.specs.declared.Phase.{Phase}

-- ---- the cases of `earlier`

pub earlier-second : (a b : Phase) → absent a.source ≡ true → earlier a b ≡ b
unfolding earlier
earlier-second a b e = rw e

pub earlier-first : (a b : Phase) → absent a.source ≡ false → absent b.source ≡ true → earlier a b ≡ a
unfolding earlier
earlier-first a b e f = rw (e, f)

pub earlier_strict : (a b : Phase) → absent a.source ≡ false → absent b.source ≡ false → b.arrival < a.arrival → earlier a b ≡ b
unfolding earlier
earlier_strict a b e f h = rw (e, f, lt-ltb b.arrival a.arrival h)

pub earlier_tie : (a b : Phase) → absent a.source ≡ false → absent b.source ≡ false → a.arrival ≤ b.arrival → earlier a b ≡ a
unfolding earlier
earlier_tie a b e f h = rw (e, f, le-ltb b.arrival a.arrival h)

-- a test with its equation
pub by_bool {ℓ} : {X : Type ℓ} (b : Bool) → (b ≡ true → X) → (b ≡ false → X) → X
by_bool true t f = t refl
by_bool false t f = f refl

-- an order with its proof
pub by_less {ℓ} : {X : Type ℓ} (a b : ℕ) → (a < b → X) → (b ≤ a → X) → X
by_less a b t f = by_bool (ltb a b) (λ e. t (ltb-true a b e)) (λ e. f (ltb-false a b e))

module _ (a b c : Phase) where
  -- all three have a source
  present : absent a.source ≡ false → absent b.source ≡ false → absent c.source ≡ false
      → earlier (earlier a b) c ≡ earlier a (earlier b c)
  present ea eb ec = by_less b.arrival a.arrival
      (λ h. by_less c.arrival b.arrival
      (λ k. ap (λ (z : Phase). earlier z c) (earlier_strict a b ea eb h) ∙ earlier_strict b c eb ec k ∙ sym (ap (earlier a) (earlier_strict b c eb ec k) ∙ earlier_strict a c ea ec (omega arith)))
      (λ k. ap (λ (z : Phase). earlier z c) (earlier_strict a b ea eb h) ∙ earlier_tie b c eb ec k ∙ sym (ap (earlier a) (earlier_tie b c eb ec k) ∙ earlier_strict a b ea eb h)))
      (λ h. by_less c.arrival b.arrival
      (λ k. ap (λ (z : Phase). earlier z c) (earlier_tie a b ea eb h) ∙ sym (ap (earlier a) (earlier_strict b c eb ec k)))
      (λ k. ap (λ (z : Phase). earlier z c) (earlier_tie a b ea eb h) ∙ earlier_tie a c ea ec (omega arith) ∙ sym (ap (earlier a) (earlier_tie b c eb ec k) ∙ earlier_tie a b ea eb h)))

  -- the earlier of two that have a source has one
  still : absent a.source ≡ false → absent b.source ≡ false → absent (earlier a b).source ≡ false
  still ea eb = by_less b.arrival a.arrival
      (λ h. ap (λ (z : Phase). absent z.source) (earlier_strict a b ea eb h) ∙ eb)
      (λ h. ap (λ (z : Phase). absent z.source) (earlier_tie a b ea eb h) ∙ ea)

  pub earlier_assoc : earlier (earlier a b) c ≡ earlier a (earlier b c)
  earlier_assoc = by_bool (absent a.source)
      (λ ea. ap (λ (z : Phase). earlier z c) (earlier-second a b ea) ∙ sym (earlier-second a (earlier b c) ea))
      (λ ea. by_bool (absent b.source)
      (λ eb. ap (λ (z : Phase). earlier z c) (earlier-first a b ea eb) ∙ sym (ap (earlier a) (earlier-second b c eb)))
      (λ eb. by_bool (absent c.source)
      (λ ec. earlier-first (earlier a b) c (still ea eb) ec ∙ sym (ap (earlier a) (earlier-first b c eb ec)))
      (λ ec. present ea eb ec)))

-- ---- `choose`

pub earlier-none : (p : Phase) → earlier no_phase p ≡ p
unfolding earlier no_phase
earlier-none p = refl

pub none-absent : absent no_phase.source ≡ true
unfolding no_phase absent
none-absent = refl

pub choose_append : (xs ys : List Phase) → choose (xs ++ ys) ≡ earlier (choose xs) (choose ys)
unfolding choose
choose_append [] ys = sym (earlier-none (choose ys))
choose_append (x ∷ xs) ys = ap (earlier x) (choose_append xs ys) ∙ sym (earlier_assoc x (choose xs) (choose ys))

module _ {A : Type 0} where
  -- what is not kept counts as none
  pub choose-kept : (f : A → Phase) (p : A → Bool) (xs : List A) → choose (map f (keep p xs)) ≡ choose (map (λ (x : A). cond (p x) (f x) no_phase) xs)
  unfolding keep choose
  choose-kept f p [] = refl
  choose-kept f p (x ∷ xs) = go (p x) (choose-kept f p xs)
    where
      go : (b : Bool) → choose (map f (keep p xs)) ≡ choose (map (λ (x : A). cond (p x) (f x) no_phase) xs)
          → choose (map f (cond b (x ∷ keep p xs) (keep p xs))) ≡ earlier (cond b (f x) no_phase) (choose (map (λ (x : A). cond (p x) (f x) no_phase) xs))
      go true e = ap (earlier (f x)) e
      go false e = e ∙ sym (earlier-none (choose (map (λ (x : A). cond (p x) (f x) no_phase) xs)))
