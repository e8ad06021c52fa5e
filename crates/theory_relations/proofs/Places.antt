-- Elements by their number in a list, against `get_or` and membership.
use Rattle.base.specs.{ℕ, zero, suc, ◌<◌, le_of_suc-le-suc, not-suc-le-zero, arith, ◌≡◌, refl, ap, subst, Bool, true, false, cond, List, [], ◌∷◌, map, Memᴰ}
use Rattle.base.specs.{Memᴰ-cast, Memᴰ-head, Memᴰ-tail, sym, T, length, get_or}
use Rattle.model.specs.{same, Distinct}
use Rattle.promises.specs.Covers.{At, first, later}
use Rattle.theory_graph.proofs.{same-eq, same_refl}

module _ {A : Type 0} where
  pub at-below : {xs : List A} {i : ℕ} {x : A} → At xs i x → i < length xs
  at-below first = omega arith
  at-below (later a) = let h = at-below a in omega arith

  pub at_get : {xs : List A} {i : ℕ} {x : A} (d : A) → At xs i x → get_or xs i d ≡ x
  at_get d first = refl
  at_get d (later a) = at_get d a

  pub get_at : (xs : List A) (i : ℕ) (d : A) → i < length xs → At xs i (get_or xs i d)
  get_at [] i d h = absurd (not-suc-le-zero h)
  get_at (x ∷ xs) zero d h = first
  get_at (x ∷ xs) (suc i) d h = later (get_at xs i d (le_of_suc-le-suc h))

  pub at_in : {xs : List A} {i : ℕ} {x : A} → At xs i x → Memᴰ x xs
  at_in first = Memᴰ-head refl
  at_in (later a) = Memᴰ-tail (at_in a)

  pub in_at : {x : A} {xs : List A} → Memᴰ x xs → (i : ℕ) × At xs i x
  in_at {x} {xs = y ∷ xs} (Memᴰ-head e) = (0, subst (λ (z : A). At (z ∷ xs) 0 x) e first)
  in_at {xs = y ∷ xs} (Memᴰ-tail m) = let a = in_at m in (suc a.0, later a.1)
  in_at {x = x} {xs = []} x3 = elim x3 [ ]

  -- what stands nowhere twice has one number
  at-same : {xs : List A} {i j : ℕ} {x y : A} → Distinct xs → At xs i x → At xs j y → x ≡ y → i ≡ j
  at-same h first first e = refl
  at-same h first (later b) e = absurd (h.0 (Memᴰ-cast e (at_in b)))
  at-same h (later a) first e = absurd (h.0 (Memᴰ-cast (sym e) (at_in a)))
  at-same h (later a) (later b) e = ap suc (at-same h.1 a b e)

  pub at_once : {xs : List A} {i j : ℕ} {x : A} → Distinct xs → At xs i x → At xs j x → i ≡ j
  at_once h a b = at-same h a b refl

  pub map_at : {B : Type 0} (f : A → B) {xs : List A} {i : ℕ} {x : A} → At xs i x → At (map f xs) i (f x)
  map_at f first = first
  map_at f (later a) = later (map_at f a)

  pub at_map : {B : Type 0} (f : A → B) (xs : List A) {i : ℕ} {y : B} → At (map f xs) i y → (x : A) × At xs i x × (y ≡ f x)
  at_map f (x ∷ xs) first = (x, first, refl)
  at_map f (x ∷ xs) (later a) = let o = at_map f xs a in (o.0, later o.1, o.2)
  at_map {B = B} f [] {i = i} {y = y} x' = elim x' [ ]

-- the number of a list in a list of lists
pub index_of : List ℕ → List (List ℕ) → ℕ
index_of c [] = 0
index_of c (d ∷ ds) = cond (same c d) 0 (suc (index_of c ds))

pub index_at : (c : List ℕ) (ds : List (List ℕ)) → Memᴰ c ds → At ds (index_of c ds) c
unfolding index_of
index_at c (d ∷ ds) m = go (same c d) (same-eq c d) (λ e. subst (λ (x : List ℕ). T (same c x)) e (same_refl c)) m (λ k. index_at c ds k)
  where
    go : (b : Bool) → (T b → c ≡ d) → (c ≡ d → T b) → Memᴰ c (d ∷ ds) → (Memᴰ c ds → At ds (index_of c ds) c) → At (d ∷ ds) (cond b 0 (suc (index_of c ds))) c
    go true e f k rest = subst (λ (x : List ℕ). At (x ∷ ds) 0 c) (e tt) first
    go false e f (Memᴰ-head q) rest = absurd (f q)
    go false e f (Memᴰ-tail k) rest = later (rest k)
index_at c [] m = elim m [ ]
