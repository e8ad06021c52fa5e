-- The order in which cuts and orders are listed, as a relation, and the numbers that follow from it.
--     cuts_in_order               "Cuts are listed by size, then by ascending leaves compared left to right"
--     cut-number, order-number    what stands before another has the lower number
use Rattle.base.specs.{ℕ, ◌<◌, compare, Ordering, Ordering-lt, Ordering-eq, Ordering-gt, arith, ◌≡◌, refl, ap, subst, true, false, true≢false, false≢true}
use Rattle.base.specs.{List, [], ◌∷◌, is_le, compare_is_eq, length, lt-leb, eq-eqb}
use Rattle.model.specs.{after, compare_leaves, compare_cuts, cuts_of, orders, Distinct, Ascending}
use Rattle.model.specs.Graph.{Graph}
use Rattle.promises.specs.Covers.{At, first, later, Smaller, here, alike, Before, by_size, by_leaves}
use Rattle.theory_graph.specs.AcceptedGraph.{Accepted}
use Rattle.theory_graph.proofs.{compare-found}
use Rattle.theory_order.proofs.AscendingCuts.{compare_less, ascending_once}
use Rattle.theory_order.proofs.CutRecursion.{cuts-listed}
use Rattle.theory_relations.proofs.Places.{at_in}
use Rattle.theory_relations.proofs.Orders.{orders_ascend}

-- ---- compared left to right

leaves-smaller : (c d : List ℕ) → length c ≡ length d → compare_leaves c d ≡ Ordering-lt → Smaller c d
unfolding compare_leaves after
leaves-smaller [] [] h e = absurd (true≢false (ap compare_is_eq e))
leaves-smaller [] (y ∷ ys) h e = absurd (omega arith)
leaves-smaller (x ∷ xs) [] h e = absurd (omega arith)
leaves-smaller (x ∷ xs) (y ∷ ys) h e = go (compare x y) refl e (leaves-smaller xs ys (omega arith))
  where
    go : (o : Ordering) → compare x y ≡ o → after o (compare_leaves xs ys) ≡ Ordering-lt → (compare_leaves xs ys ≡ Ordering-lt → Smaller xs ys) → Smaller (x ∷ xs) (y ∷ ys)
    go Ordering-lt q k rest = here (compare_less x y q)
    go Ordering-eq q k rest = subst (λ (z : ℕ). Smaller (x ∷ xs) (z ∷ ys)) (compare-found x y q) (alike (rest k))
    go Ordering-gt q k rest = absurd (false≢true (ap is_le k))

pub smaller-more : {c d : List ℕ} → Smaller c d → compare_leaves d c ≡ Ordering-gt
unfolding compare_leaves after
smaller-more (here {x = x} {y = y} {xs = xs} {ys = ys} h) = go (compare y x) (lt-leb y x h)
  where
    go : (o : Ordering) → is_le o ≡ false → after o (compare_leaves ys xs) ≡ Ordering-gt
    go Ordering-lt e = absurd (true≢false e)
    go Ordering-eq e = absurd (true≢false e)
    go Ordering-gt e = refl
smaller-more (alike {x = x} {xs = xs} {ys = ys} s) = go (compare x x) (eq-eqb x x refl) (smaller-more s)
  where
    go : (o : Ordering) → compare_is_eq o ≡ true → compare_leaves ys xs ≡ Ordering-gt → after o (compare_leaves ys xs) ≡ Ordering-gt
    go Ordering-lt e r = absurd (false≢true e)
    go Ordering-eq e r = r
    go Ordering-gt e r = absurd (false≢true e)

-- four lists and two equations in place of two lists, so that the two relations have no index in common
smaller-apart : {c d e f : List ℕ} → Smaller c d → Smaller e f → d ≡ e → ¬ (c ≡ f)
smaller-apart (here {x = x} {y = y} h) (here {x = z} {y = w} k) p q = let r : y ≡ z = cc in let s : x ≡ w = cc in omega arith
smaller-apart (here {x = x} {y = y} h) (alike {x = z} s) p q = let r : y ≡ z = cc in let t : x ≡ z = cc in omega arith
smaller-apart (alike {x = x} s) (here {x = z} {y = w} k) p q = let r : x ≡ z = cc in let t : x ≡ w = cc in omega arith
smaller-apart (alike {ys = d} s) (alike {xs = e} r) p q = smaller-apart s r (let t : d ≡ e = cc in t) cc

smaller-once : {c d : List ℕ} → Smaller c d → ¬ Smaller d c
smaller-once s r = smaller-apart s r refl refl

-- ---- cuts

cuts-before : (c d : List ℕ) → compare_cuts c d ≡ Ordering-lt → Before c d
unfolding compare_cuts after
cuts-before c d e = go (compare (length c) (length d)) refl e
  where
    go : (o : Ordering) → compare (length c) (length d) ≡ o → after o (compare_leaves c d) ≡ Ordering-lt → Before c d
    go Ordering-lt q k = by_size (compare_less (length c) (length d) q)
    go Ordering-eq q k = let h = compare-found (length c) (length d) q in by_leaves h (leaves-smaller c d h k)
    go Ordering-gt q k = absurd (false≢true (ap is_le k))

before-once : {c d : List ℕ} → Before c d → ¬ Before d c
before-once (by_size h) (by_size k) = omega arith
before-once (by_size h) (by_leaves e s) = omega arith
before-once (by_leaves e s) (by_size h) = omega arith
before-once (by_leaves e s) (by_leaves f r) = smaller-once s r

ascending_as : {A : Type 0} {R S : A → A → Type 0} → ((x y : A) → R x y → S x y) → (xs : List A) → Ascending R xs → Ascending S xs
ascending_as f [] h = tt
ascending_as f (x ∷ xs) h = ((λ y m. f x y (h.0 y m)), ascending_as f xs h.1)

-- "Cuts are listed by size, then by ascending leaves compared left to right."
pub cuts_in_order : (g : Graph) → Accepted g → (v : ℕ) → Ascending Before (cuts_of g v)
cuts_in_order g ok v = ascending_as cuts-before (cuts_of g v) (cuts-listed g ok v)

-- ---- numbers

number_less : {A : Type 0} {R : A → A → Type 0} → ((x y : A) → R x y → ¬ R y x) → (xs : List A) → Ascending R xs → {i j : ℕ} {x y : A} → At xs i x → At xs j y → R x y → i < j
number_less once (x ∷ xs) h first first r = absurd (once x x r r)
number_less once (x ∷ xs) h first (later b) r = omega arith
number_less once (x ∷ xs) h (later {x = y} a) first r = absurd (once y x r (h.0 y (at_in a)))
number_less once (x ∷ xs) h (later a) (later b) r = let k = number_less once xs h.1 a b r in omega arith
number_less {A = A} {R = R} once [] h {i = i} {j = j} {y = y} x6 _ r = elim x6 [ ]

pub cut-number : (g : Graph) → Accepted g → (v : ℕ) {i j : ℕ} {c d : List ℕ} → At (cuts_of g v) i c → At (cuts_of g v) j d → Before c d → i < j
cut-number g ok v = number_less (λ c d. before-once) (cuts_of g v) (cuts_in_order g ok v)

pub order-number : {i j : ℕ} {c d : List ℕ} → At orders i c → At orders j d → Smaller c d → i < j
order-number = number_less (λ c d. smaller-once) orders orders_ascend

-- and the orders are apart
pub orders-once : Distinct orders
orders-once = ascending_once Smaller (λ c s. smaller-once s s) orders orders_ascend
