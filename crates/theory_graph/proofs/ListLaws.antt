-- Laws of the list functions of `model`: what `map`, `keep`, `each`, `below`, `elem` and `lowest` hold, and look-ups.
use Rattle.base.specs.{ℕ, zero, suc, ◌+◌, ◌<◌, le_of_suc-le-suc, not-suc-le-zero, add-zero, add-suc, suc-add, zero-add, ◌≡◌, refl, sym, ◌∙◌}
use Rattle.base.specs.{ap, ap₂, subst, Option, None, Some, ⊎_elim, arith, or-true, Bool, true, false, not, cond, ◌||◌, true≢false}
use Rattle.base.specs.{false≢true, List, [], ◌∷◌, ◌++◌, map, Memᴰ, Memᴰ-head, Memᴰ-tail, Memᴰ-not-nil}
use Rattle.base.specs.{Memᴰ-append_cases, Memᴰ-append_left, Memᴰ-append_right, T, eqb, eqb→eq, eqb_refl, leb, length, get_or, eqb_no}
use Rattle.base.specs.{and_yes, yes_and, yes_eqb}
use Rattle.model.specs.{all, any, keep, each, from, below, elem, same, lowest, smaller}
use Rattle.theory_graph.proofs.ListSplits.{by_bool}

module _ {A B : Type 0} where
  pub map_in : (f : A → B) {a : A} {xs : List A} → Memᴰ a xs → Memᴰ (f a) (map f xs)
  map_in f (Memᴰ-head e) = Memᴰ-head (ap f e)
  map_in f (Memᴰ-tail m) = Memᴰ-tail (map_in f m)

  pub map_out : (f : A → B) {b : B} (xs : List A) → Memᴰ b (map f xs) → (a : A) × Memᴰ a xs × (b ≡ f a)
  map_out f [] m = absurd (Memᴰ-not-nil m)
  map_out f (x ∷ xs) (Memᴰ-head e) = (x, Memᴰ-head refl, e)
  map_out f (x ∷ xs) (Memᴰ-tail m) = let r = map_out f xs m in (r.0, Memᴰ-tail r.1, r.2)

  pub each_in : (f : A → List B) {a : A} {b : B} {xs : List A} → Memᴰ a xs → Memᴰ b (f a) → Memᴰ b (each f xs)
  unfolding each
  each_in f {b = b} {xs = x ∷ xs} (Memᴰ-head e) n = Memᴰ-append_left (each f xs) (subst (λ (y : A). Memᴰ b (f y)) e n)
  each_in f {xs = x ∷ xs} (Memᴰ-tail m) n = Memᴰ-append_right (f x) (each_in f m n)
  each_in f {a = a} {b = b} {xs = []} x5 n = elim x5 [ ]

  pub each_out : (f : A → List B) {b : B} (xs : List A) → Memᴰ b (each f xs) → (a : A) × Memᴰ a xs × Memᴰ b (f a)
  unfolding each
  each_out f [] m = absurd (Memᴰ-not-nil m)
  each_out f {b} (x ∷ xs) m = ⊎_elim (λ n. (x, Memᴰ-head refl, n))
      (λ q. let r = (each_out f xs) q in (r.0, Memᴰ-tail r.1, r.2)) (Memᴰ-append_cases (f x) m)

module _ {A : Type 0} (p : A → Bool) where
  pub keep_in : {a : A} {xs : List A} → Memᴰ a xs → T (p a) → Memᴰ a (keep p xs)
  unfolding keep
  keep_in {a} {xs = x ∷ xs} (Memᴰ-head e) t = by_bool (p x) (λ q. rw q (Memᴰ-head e)) (λ r. rw r (absurd (rw r at (rw e at t))))
  keep_in {a} {xs = x ∷ xs} (Memᴰ-tail m) t = by_bool (p x) (λ e. rw e (Memᴰ-tail (keep_in m t))) (λ q. rw q (keep_in m t))
  keep_in {a = a} {xs = []} x5 t = elim x5 [ ]

  pub keep_out : {a : A} (xs : List A) → Memᴰ a (keep p xs) → Memᴰ a xs × T (p a)
  unfolding keep
  keep_out [] m = absurd (Memᴰ-not-nil m)
  keep_out {a} (x ∷ xs) m = go (p x) (λ t. t) m (keep_out xs)
    where
      further : Memᴰ a xs × T (p a) → Memᴰ a (x ∷ xs) × T (p a)
      further r = (Memᴰ-tail r.0, r.1)

      go : (b : Bool) → (T b → T (p x)) → Memᴰ a (cond b (x ∷ keep p xs) (keep p xs)) → (Memᴰ a (keep p xs) → Memᴰ a xs × T (p a))
          → Memᴰ a (x ∷ xs) × T (p a)
      go true t (Memᴰ-head e) back = (Memᴰ-head e, subst (λ (y : A). T (p y)) (sym e) (t tt))
      go true t (Memᴰ-tail n) back = further (back n)
      go false t n back = further (back n)

  -- a test that fails at every element fails at some
  pub any_none : (xs : List A) → ((a : A) → Memᴰ a xs → p a ≡ false) → any p xs ≡ false
  unfolding any
  any_none [] h = refl
  any_none (x ∷ xs) h = ap (λ (b : Bool). b || any p xs) (h x (Memᴰ-head refl)) ∙ any_none xs (λ a m. h a (Memᴰ-tail m))

  -- a test that fails at some fails at each
  pub any-each : (xs : List A) → any p xs ≡ false → (a : A) → Memᴰ a xs → p a ≡ false
  unfolding any
  any-each [] h a m = absurd (Memᴰ-not-nil m)
  any-each (x ∷ xs) h a m = by_bool (p x) (λ e. absurd (true≢false (rw e at h)))
      (λ q. elim m [ Memᴰ-head r ↦ ap p r ∙ q | Memᴰ-tail n ↦ (any-each xs (rw q at h) a) n ])

-- i, i + 1 .. of which there are n
pub from_in : (n i k : ℕ) → k < n → Memᴰ (i + k) (from i n)
unfolding from
from_in zero i k h = absurd (not-suc-le-zero h)
from_in (suc n) i zero h = Memᴰ-head (add-zero i)
from_in (suc n) i (suc k) h = Memᴰ-tail (subst (λ (j : ℕ). Memᴰ j (from (suc i) n)) (suc-add i k ∙ sym (add-suc i k)) (from_in n (suc i) k (le_of_suc-le-suc h)))

pub from-high : (n i k : ℕ) → Memᴰ k (from i n) → k < i + n
unfolding from
from-high zero i k m = absurd (Memᴰ-not-nil m)
from-high (suc n) i k (Memᴰ-head e) = omega arith
from-high (suc n) i k (Memᴰ-tail m) = let h : k < suc i + n = from-high n (suc i) k m in omega arith

pub below_out : (n k : ℕ) → Memᴰ k (below n) → k < n
unfolding below
below_out n k m = let h : k < 0 + n = from-high n 0 k m in omega arith

pub below_in : (n k : ℕ) → k < n → Memᴰ k (below n)
unfolding below
below_in n k h = subst (λ (j : ℕ). Memᴰ j (from 0 n)) (zero-add k) (from_in n 0 k h)

module _ {A : Type 0} where
  pub get_or_in : (xs : List A) (k : ℕ) (d : A) → k < length xs → Memᴰ (get_or xs k d) xs
  get_or_in [] k d h = absurd (not-suc-le-zero h)
  get_or_in (x ∷ xs) zero d h = Memᴰ-head refl
  get_or_in (x ∷ xs) (suc k) d h = Memᴰ-tail (get_or_in xs k d (le_of_suc-le-suc h))

-- two numbers are the same or not, by the test
pub by_eqb {ℓ} : {X : Type ℓ} (a b : ℕ) → (a ≡ b → X) → (¬ (a ≡ b) → X) → X
by_eqb {X} a b same other = go (eqb a b) (eqb→eq a b) eqb_no
  where
    go : (t : Bool) → (T t → a ≡ b) → (T (not t) → ¬ (a ≡ b)) → X
    go true y n = same (y tt)
    go false y n = other (n tt)

pub map-map : {A B C : Type 0} (f : B → C) (h : A → B) (xs : List A) → map f (map h xs) ≡ map (λ (x : A). f (h x)) xs
map-map f h [] = refl
map-map f h (x ∷ xs) = ap (λ r. f (h x) ∷ r) (map-map f h xs)

pub same-eq : (xs ys : List ℕ) → T (same xs ys) → xs ≡ ys
unfolding same
same-eq [] [] t = refl
same-eq [] (y ∷ ys) t = absurd t
same-eq (x ∷ xs) [] t = absurd t
same-eq (x ∷ xs) (y ∷ ys) t = let p = and_yes (eqb x y) (same xs ys) t in cc (eqb→eq x y p.0, same-eq xs ys p.1)

pub elem_in : (v : ℕ) (xs : List ℕ) → Memᴰ v xs → elem v xs ≡ true
unfolding elem any
elem_in v (x ∷ xs) (Memᴰ-head e) = by_bool (eqb v x) (λ q. rw q) (λ p. rw p (absurd (rw p at (yes_eqb e))))
elem_in v (x ∷ xs) (Memᴰ-tail m) = ap (◌||◌ (eqb v x)) (elem_in v xs m) ∙ or-true (eqb v x)
elem_in v [] x' = elim x' [ ]

pub same_refl : (xs : List ℕ) → T (same xs xs)
unfolding same
same_refl [] = tt
same_refl (x ∷ xs) = yes_and (eqb x x) (same xs xs) (eqb_refl x) (same_refl xs)

pub elem_out : (v : ℕ) (xs : List ℕ) → elem v xs ≡ true → Memᴰ v xs
unfolding elem any
elem_out v [] h = absurd (false≢true h)
elem_out v (x ∷ xs) h = by_bool (eqb v x) (λ e. Memᴰ-head ((rw e at (eqb→eq v x)) tt))
    (λ q. Memᴰ-tail ((elem_out v xs) (rw q at h)))

pub map_same : {A B : Type 0} (f h : A → B) (xs : List A) → ((x : A) → Memᴰ x xs → f x ≡ h x) → map f xs ≡ map h xs
map_same f h [] e = refl
map_same f h (x ∷ xs) e = ap₂ (λ a b. a ∷ b) (e x (Memᴰ-head refl)) (map_same f h xs (λ y m. e y (Memᴰ-tail m)))

pub elem-T : (v : ℕ) (xs : List ℕ) → Memᴰ v xs → T (elem v xs)
elem-T v xs m = subst T (sym (elem_in v xs m)) tt

smaller_in : (x v : ℕ) (o : Option ℕ) (xs : List ℕ) → ((u : ℕ) → o ≡ Some u → Memᴰ u xs) → smaller x o ≡ Some v → Memᴰ v (x ∷ xs)
unfolding smaller
smaller_in x v None xs h e = let q : v ≡ x = cc in Memᴰ-head q
smaller_in x v (Some y) xs h e = by_bool (leb x y) (λ q. let r : v ≡ x = cc in Memᴰ-head r)
    (λ p. let r : y ≡ v = cc in Memᴰ-tail (h v (ap Some r)))

-- the lowest is one of them
pub lowest_in_lem : (xs : List ℕ) (v : ℕ) → lowest xs ≡ Some v → Memᴰ v xs
unfolding lowest
lowest_in_lem [] v e = let z : ◌≡◌ {A = ℕ} 0 1 = cc in absurd (native.Mathlib.Nat.not-suc-le-zero (native.Mathlib.Nat.le_of_eq (sym z)))
lowest_in_lem (x ∷ xs) v e = smaller_in x v (lowest xs) xs (lowest_in_lem xs) e

-- each element passes a test that all pass
pub all_of {ℓ} : {A : Type ℓ} (p : A → Bool) (xs : List A) → T (all p xs) → (x : A) → Memᴰ x xs → T (p x)
unfolding all
all_of p (y ∷ ys) t x (Memᴰ-head e) = subst (λ z. T (p z)) (sym e) (and_yes (p y) (all p ys) t).0
all_of p (y ∷ ys) t x (Memᴰ-tail m) = all_of p ys (and_yes (p y) (all p ys) t).1 x m
all_of {A = A} p [] t x x4 = elim x4 [ ]

pub is_true : (b : Bool) → T b → b ≡ true
is_true true t = refl
is_true false t = absurd t

pub is_false : (b : Bool) → T (not b) → b ≡ false
is_false true t = absurd t
is_false false t = refl

-- all pass a test that each element passes
pub all_in : {A : Type 0} (p : A → Bool) (xs : List A) → ((x : A) → Memᴰ x xs → T (p x)) → T (all p xs)
unfolding all
all_in p [] h = tt
all_in p (x ∷ xs) h = yes_and (p x) (all p xs) (h x (Memᴰ-head refl)) (all_in p xs (λ y m. h y (Memᴰ-tail m)))

-- what is kept of two lists, one after the other
pub keep_append : {A : Type 0} (p : A → Bool) (xs ys : List A) → keep p (xs ++ ys) ≡ keep p xs ++ keep p ys
unfolding keep
keep_append p [] ys = refl
keep_append {A} p (x ∷ xs) ys = by_bool (p x) (λ e. cc (keep_append p xs ys)) (λ q. cc (keep_append p xs ys))
