-- The first line of each part of 33.
use Rattle.base.specs.{ℕ, zero, suc, ◌<◌, not-suc-le-zero, le_of_suc-le-suc, arith, ◌≡◌, refl, sym, ap, subst, ◌∙◌, ◌⊎◌, inl, inr, Bool}
use Rattle.base.specs.{true, false, cond, ◌||◌, Option, None, Some, List, [], ◌∷◌, Memᴰ, Memᴰ-head, Memᴰ-tail, T, length}
use Rattle.base.specs.{get_or}
use Rattle.model.specs.{any, holds, fault, Driver, among, first_line, driven_twice, undriven, on_cycle, unless_at, validate_nets}
use Rattle.theory_check.proofs.{among_in, among_out}
use Rattle.check_nets.specs.{no_driver}

-- the place of an element
pub mem-at : {A : Type 0} (x d : A) (xs : List A) → Memᴰ x xs → (k : ℕ) × (k < length xs) × (get_or xs k d ≡ x)
mem-at x d (y ∷ xs) (Memᴰ-head e) = (0, omega arith, sym e)
mem-at x d (y ∷ xs) (Memᴰ-tail m) = let r = mem-at x d xs m in (suc r.0, omega (arith, r.1), r.2)
mem-at {A = A} x d [] x'' = elim x'' [ ]

-- a test is passed, or not
test : (b : Bool) → (b ≡ true → ⊥) → b ≡ false
test true h = absurd (h refl)
test false h = refl

-- ---- the first line that passes a test

pub first_some : (p : Driver → Bool) (ds : List Driver) (r : ℕ) → r < length ds → ((i : ℕ) → i < r → p (get_or ds i no_driver) ≡ true → ⊥) → p (get_or ds r no_driver) ≡ true
    → first_line p ds ≡ Some (get_or ds r no_driver).offset
unfolding first_line
first_some p [] r h f e = absurd (not-suc-le-zero h)
first_some p (d ∷ ds) zero h f e = ap (λ (b : Bool). cond b (Some d.offset) (first_line p ds)) e
first_some p (d ∷ ds) (suc r) h f e =
    ap (λ (b : Bool). cond b (Some d.offset) (first_line p ds)) (test (p d) (f 0 (omega arith)))
    ∙ first_some p ds r (le_of_suc-le-suc h) (λ i q. f (suc i) (omega arith)) e

pub first-none : (p : Driver → Bool) (ds : List Driver) → ((i : ℕ) → i < length ds → p (get_or ds i no_driver) ≡ true → ⊥) → first_line p ds ≡ None
unfolding first_line
first-none p [] f = refl
first-none p (d ∷ ds) f =
    ap (λ (b : Bool). cond b (Some d.offset) (first_line p ds)) (test (p d) (f 0 (omega arith))) ∙ first-none p ds (λ i q. f (suc i) (omega arith))

-- ---- "a net already driven"

-- line i's net is known, or that of a line before
abbrev pub Before : List (List ℕ) → List Driver → ℕ → Type 0
Before known ds i = Memᴰ (get_or ds i no_driver).net known ⊎ ((k : ℕ) × (k < i) × ((get_or ds k no_driver).net ≡ (get_or ds i no_driver).net))

module _ (known : List (List ℕ)) (d : Driver) (ds : List Driver) where
  outward : (i : ℕ) → Before (d.net ∷ known) ds i → Before known (d ∷ ds) (suc i)
  outward i (inl (Memᴰ-head e)) = inr (0, omega arith, sym e)
  outward i (inl (Memᴰ-tail m)) = inl m
  outward i (inr q) = inr (suc q.0, omega (arith, q.1), q.2)

  inward : (i : ℕ) → Before known (d ∷ ds) (suc i) → Before (d.net ∷ known) ds i
  inward i (inl m) = inl (Memᴰ-tail m)
  inward i (inr q) = go q.0 q.1 q.2
    where
      go : (k : ℕ) → k < suc i → (get_or (d ∷ ds) k no_driver).net ≡ (get_or ds i no_driver).net → Before (d.net ∷ known) ds i
      go zero h e = inl (Memᴰ-head (sym e))
      go (suc k) h e = inr (k, le_of_suc-le-suc h, e)

first-fresh : (known : List (List ℕ)) (d : Driver) (ds : List Driver) → (Before known (d ∷ ds) 0 → ⊥) → among d.net known ≡ false
first-fresh known d ds f = test (among d.net known) (λ e. f (inl (among_out d.net known (subst T (sym e) tt))))

pub twice-some : (known : List (List ℕ)) (ds : List Driver) (r : ℕ) → r < length ds → ((i : ℕ) → i < r → Before known ds i → ⊥) → Before known ds r
    → driven_twice known ds ≡ Some (get_or ds r no_driver).offset
unfolding driven_twice
twice-some known [] r h f b = absurd (not-suc-le-zero h)
twice-some known (d ∷ ds) zero h f (inl m) = ap (λ (b : Bool). cond b (Some d.offset) (driven_twice (d.net ∷ known) ds)) (among_in d.net known m)
twice-some known (d ∷ ds) zero h f (inr q) = absurd (not-suc-le-zero q.1)
twice-some known (d ∷ ds) (suc r) h f b =
    ap (λ (x : Bool). cond x (Some d.offset) (driven_twice (d.net ∷ known) ds)) (first-fresh known d ds (f 0 (omega arith)))
    ∙ twice-some (d.net ∷ known) ds r (le_of_suc-le-suc h) (λ i q s. f (suc i) (omega arith) (outward known d ds i s)) (inward known d ds r b)

pub twice-none : (known : List (List ℕ)) (ds : List Driver) → ((i : ℕ) → i < length ds → Before known ds i → ⊥) → driven_twice known ds ≡ None
unfolding driven_twice
twice-none known [] f = refl
twice-none known (d ∷ ds) f =
    ap (λ (x : Bool). cond x (Some d.offset) (driven_twice (d.net ∷ known) ds)) (first-fresh known d ds (f 0 (omega arith)))
    ∙ twice-none (d.net ∷ known) ds (λ i q s. f (suc i) (omega arith) (outward known d ds i s))

-- ---- one of several

pub any-true : {A : Type 0} (p : A → Bool) (x : A) (xs : List A) → Memᴰ x xs → p x ≡ true → any p xs ≡ true
unfolding any
any-true p x (y ∷ xs) (Memᴰ-head e) t = ap (λ (b : Bool). b || any p xs) (ap p (sym e) ∙ t)
any-true p x (y ∷ xs) (Memᴰ-tail m) t = go (p y) (any-true p x xs m t)
  where
    go : (b : Bool) → any p xs ≡ true → (b || any p xs) ≡ true
    go true q = refl
    go false q = q
any-true {A = A} p x [] x3 t = elim x3 [ ]

-- ---- the three parts

module _ (inputs : List (List ℕ)) (ds : List Driver) where
  pub validated-twice : (k : ℕ) → driven_twice inputs ds ≡ Some k → validate_nets inputs ds ≡ fault 33 k
  unfolding validate_nets unless_at
  validated-twice k a = ap (λ (o : Option ℕ). unless_at o 33 (unless_at (undriven inputs ds) 33 (unless_at (first_line (on_cycle ds) ds) 33 (holds ds)))) a

  pub validated-undriven : (k : ℕ) → driven_twice inputs ds ≡ None → undriven inputs ds ≡ Some k → validate_nets inputs ds ≡ fault 33 k
  unfolding validate_nets unless_at
  validated-undriven k a b =
      ap (λ (o : Option ℕ). unless_at o 33 (unless_at (undriven inputs ds) 33 (unless_at (first_line (on_cycle ds) ds) 33 (holds ds)))) a
      ∙ ap (λ (o : Option ℕ). unless_at o 33 (unless_at (first_line (on_cycle ds) ds) 33 (holds ds))) b

  pub validated-cycle : (k : ℕ) → driven_twice inputs ds ≡ None → undriven inputs ds ≡ None → first_line (on_cycle ds) ds ≡ Some k → validate_nets inputs ds ≡ fault 33 k
  unfolding validate_nets unless_at
  validated-cycle k a b c =
      ap (λ (o : Option ℕ). unless_at o 33 (unless_at (undriven inputs ds) 33 (unless_at (first_line (on_cycle ds) ds) 33 (holds ds)))) a
      ∙ ap (λ (o : Option ℕ). unless_at o 33 (unless_at (first_line (on_cycle ds) ds) 33 (holds ds))) b
      ∙ ap (λ (o : Option ℕ). unless_at o 33 (holds ds)) c

  pub validated-holds : driven_twice inputs ds ≡ None → undriven inputs ds ≡ None → first_line (on_cycle ds) ds ≡ None → validate_nets inputs ds ≡ holds ds
  unfolding validate_nets unless_at
  validated-holds a b c =
      ap (λ (o : Option ℕ). unless_at o 33 (unless_at (undriven inputs ds) 33 (unless_at (first_line (on_cycle ds) ds) 33 (holds ds)))) a
      ∙ ap (λ (o : Option ℕ). unless_at o 33 (unless_at (first_line (on_cycle ds) ds) 33 (holds ds))) b
      ∙ ap (λ (o : Option ℕ). unless_at o 33 (holds ds)) c
