-- Lists without repetition, and lengths of lists.
use Rattle.base.specs.{ℕ, zero, suc, ◌≤◌, le_refl, le_of_eq, arith, ◌≡◌, refl, sym, ap, ⊎_elim, Bool, List, [], ◌∷◌, ◌++◌, map, Memᴰ}
use Rattle.base.specs.{Memᴰ-head, Memᴰ-tail, Memᴰ-not-nil, Memᴰ-append_cases, Memᴰ-append_left, Memᴰ-cast, length}
use Rattle.model.specs.{keep, from, below, Distinct}
use Rattle.theory_graph.proofs.ListLaws.{map_out, keep_out}
use Rattle.theory_graph.proofs.ListSplits.{by_bool}

pub map-distinct : {A B : Type 0} (f : A → B) (xs : List A) → ((x y : A) → f x ≡ f y → x ≡ y) → Distinct xs → Distinct (map f xs)
map-distinct f [] once d = tt
map-distinct f (x ∷ xs) once d =
    ((λ m. let o = map_out f xs m in d.0 (Memᴰ-cast (once x o.0 o.2) o.1)), map-distinct f xs once d.1)

pub keep-distinct : (p : ℕ → Bool) (xs : List ℕ) → Distinct xs → Distinct (keep p xs)
unfolding keep
keep-distinct p [] d = tt
keep-distinct p (x ∷ xs) d = by_bool (p x) (λ e. rw e ((λ m. d.0 (keep_out p xs m).0), (keep-distinct p xs d.1)))
    (λ q. rw q (keep-distinct p xs d.1))

pub from_low : (n i k : ℕ) → Memᴰ k (from i n) → i ≤ k
unfolding from
from_low zero i k m = absurd (Memᴰ-not-nil m)
from_low (suc n) i k (Memᴰ-head e) = le_of_eq (sym e)
from_low (suc n) i k (Memᴰ-tail m) = let h : suc i ≤ k = from_low n (suc i) k m in omega arith

pub from-distinct : (n i : ℕ) → Distinct (from i n)
unfolding from
from-distinct zero i = tt
from-distinct (suc n) i = ((λ m. let h : suc i ≤ i = from_low n (suc i) i m in omega arith), from-distinct n (suc i))

pub below-distinct : (n : ℕ) → Distinct (below n)
unfolding below
below-distinct n = from-distinct n 0

pub append_distinct : {A : Type 0} (xs ys : List A) → Distinct xs → Distinct ys → ((x : A) → Memᴰ x xs → ¬ Memᴰ x ys) → Distinct (xs ++ ys)
append_distinct [] ys a b h = b
append_distinct (x ∷ xs) ys a b h = (
  (λ m. ⊎_elim (λ q. a.0 q) (h x (Memᴰ-head refl)) (Memᴰ-append_cases xs m)),
  append_distinct xs ys a.1 b (λ y m. h y
      (Memᴰ-tail m)),
)

pub front-distinct : {A : Type 0} (xs ys : List A) → Distinct (xs ++ ys) → Distinct xs
front-distinct [] ys d = tt
front-distinct (x ∷ xs) ys d = ((λ m. d.0 (Memᴰ-append_left ys m)), front-distinct xs ys d.1)

-- ---- lengths

pub length-map : {A B : Type 0} (h : A → B) (xs : List A) → length (map h xs) ≡ length xs
length-map h [] = refl
length-map h (x ∷ xs) = ap suc (length-map h xs)

pub length-keep : (p : ℕ → Bool) (xs : List ℕ) → length (keep p xs) ≤ length xs
unfolding keep
length-keep p [] = le_refl 0
length-keep p (x ∷ xs) = by_bool (p x) (λ e. rw e (omega (arith, length-keep p xs))) (λ q. rw q (omega (arith, length-keep p xs)))

pub length_from : (n i : ℕ) → length (from i n) ≡ n
unfolding from
length_from zero i = refl
length_from (suc n) i = ap suc (length_from n (suc i))
