-- The first number that passes a test, and the lowest of a list:
--     in_graph-.., some_in, none_in     a number that is a variable of the graph, or none
--     seek-here, seek-past, seek-end     a step of the loop that seeks
--     seek-from, seek_to, seek_found, seek-before, seek-under, seek_is     what is known of the number that is found
--     below-first, below_on, below_skip     what does not pass may be skipped
--     seek-lowest, seek-nothing     it is the lowest of a list that the test describes
use Rattle.base.specs.{◌≡◌, refl, ap, ◌∙◌, Bool, true, false, cond, Option, None, Some, List, ◌∷◌, Memᴰ, Memᴰ-head}
use Rattle.base.specs.{Memᴰ-tail, ℕ, zero, suc, ◌+◌, ◌-◌, ◌≤◌, ◌<◌, arith, leb, leb-true, leb-false, le-leb, lt-leb}
use Rattle.model.specs.{lowest, smaller}
use Rattle.theory_graph.proofs.{by_eqb, lowest_in_lem}
use Rattle.base_bitset.proofs.{by_leb}
use Rattle.graph_order.specs.{in_graph, pick_n, seek}

-- a test, by its answer
pub by_truth {ℓ} : {X : Type ℓ} (b : Bool) → (b ≡ true → X) → (b ≡ false → X) → X
by_truth true y n = y refl
by_truth false y n = n refl

pub true-false : {b : Bool} → b ≡ true → b ≡ false → ⊥
true-false {b} p q = let z : ◌≡◌ {A = ℕ} 0 1 = cc in omega arith

-- ---- a variable of the graph, or none

pub in_graph-some : (m r : ℕ) → r ≤ m → Some r ≡ in_graph m r
in_graph-some m r l = rw (le-leb r m l)

pub in_graph-none : (m r : ℕ) → m < r → None ≡ in_graph m r
in_graph-none m r l = rw (lt-leb r m l)

pub some_in : (m r v : ℕ) → in_graph m r ≡ Some v → (r ≡ v) × (r ≤ m)
some_in m r v e = go (leb r m) refl e
  where
    go : (t : Bool) → leb r m ≡ t → cond t (Some r) None ≡ Some v → (r ≡ v) × (r ≤ m)
    go true q x = (cc, leb-true r m q)
    go false q x = let z : ◌≡◌ {A = ℕ} 0 1 = cc in absurd (omega arith)

pub none_in : (m r : ℕ) → in_graph m r ≡ None → m < r
none_in m r e = go (leb r m) refl e
  where
    go : (t : Bool) → leb r m ≡ t → cond t (Some r) None ≡ None → m < r
    go true q x = let z : ◌≡◌ {A = ℕ} 0 1 = cc in absurd (omega arith)
    go false q x = leb-false r m q

-- ---- the first number that passes

module _ (p : ℕ → Bool) where
  -- a step of the loop
  pub seek-here : (j n i : ℕ) → j ≡ suc n → p i ≡ true → seek p j i ≡ i
  unfolding seek
  seek-here j n i e h = ap (λ (x : ℕ). seek p x i) e ∙ rw h

  pub seek-past : (j n i : ℕ) → j ≡ suc n → p i ≡ false → seek p j i ≡ seek p n (i + 1)
  unfolding seek
  seek-past j n i e h = ap (λ (x : ℕ). seek p x i) e ∙ rw h

  pub seek-end : (j i : ℕ) → j ≡ 0 → seek p j i ≡ i
  unfolding seek
  seek-end j i e = ap (λ (x : ℕ). seek p x i) e

  -- where it is
  pub seek-from : (n i : ℕ) → i ≤ seek p n i
  unfolding seek
  seek-from zero i = omega arith
  seek-from (suc n) i = go (p i) (seek-from n (i + 1))
    where
      go : (t : Bool) → i + 1 ≤ seek p n (i + 1) → i ≤ pick_n t i (seek p n (i + 1))
      go true h = omega arith
      go false h = omega arith

  pub seek_to : (n i : ℕ) → seek p n i ≤ i + n
  unfolding seek
  seek_to zero i = omega arith
  seek_to (suc n) i = go (p i) (seek_to n (i + 1))
    where
      go : (t : Bool) → seek p n (i + 1) ≤ i + 1 + n → pick_n t i (seek p n (i + 1)) ≤ i + suc n
      go true h = omega arith
      go false h = omega arith

  -- it passes, and none before it does
  pub seek_found : (n i : ℕ) → seek p n i < i + n → p (seek p n i) ≡ true
  unfolding seek
  seek_found zero i h = absurd (omega arith)
  seek_found (suc n) i h = go (p i) refl h (seek_found n (i + 1))
    where
      go : (t : Bool) → p i ≡ t → pick_n t i (seek p n (i + 1)) < i + suc n → (seek p n (i + 1) < i + 1 + n → p (seek p n (i + 1)) ≡ true) → p (pick_n t i (seek p n (i + 1))) ≡ true
      go true e l more = e
      go false e l more = more (omega arith)

  pub seek-before : (n i u : ℕ) → i ≤ u → u < seek p n i → p u ≡ false
  unfolding seek
  seek-before zero i u a b = absurd (omega arith)
  seek-before (suc n) i u a b = go (p i) refl b (seek-before n (i + 1) u)
    where
      go : (t : Bool) → p i ≡ t → u < pick_n t i (seek p n (i + 1)) → (i + 1 ≤ u → u < seek p n (i + 1) → p u ≡ false) → p u ≡ false
      go true e l more = absurd (omega arith)
      go false e l more = by_eqb u i (λ q. ap p q ∙ e) (λ d. more (omega arith) l)

  pub seek-under : (n i u : ℕ) → (u < i → p u ≡ false) → u < seek p n i → p u ≡ false
  seek-under n i u below l = by_leb i u (λ a. seek-before n i u a l) below

  -- what does not pass may be skipped
  skip : (d j n i k : ℕ) → j ≡ n + d → k ≡ i + d → ((u : ℕ) → i ≤ u → u < k → p u ≡ false) → seek p j i ≡ seek p n k
  skip zero j n i k e f h = let a : j ≡ n = omega arith in let b : i ≡ k = omega arith in rw (a, b)
  skip (suc d) j n i k e f h = seek-past j (n + d) i (omega arith) (h i (omega arith) (omega arith)) ∙ skip d (n + d) n (i + 1) k refl (omega arith) (λ u a. h u (omega arith))

  -- the first that passes is found
  pub seek_is : (n i v : ℕ) → i ≤ v → v < i + n → p v ≡ true → ((u : ℕ) → i ≤ u → u < v → p u ≡ false) → seek p n i ≡ v
  seek_is n i v a b e f = skip (v - i) n (n - (v - i)) i v (omega arith) (omega arith) f ∙ seek-here (n - (v - i)) (n - (v - i) - 1) v (omega arith) e

-- no variable below `low` passes, variable 0 aside
pub record Below (p : ℕ → Bool) (m low : ℕ) : Type 0 where
  pub first : 1 ≤ low
  pub under : low ≤ m + 1
  pub below : (u : ℕ) → 1 ≤ u → u < low → p u ≡ false

pub below-first : (p : ℕ → Bool) (m : ℕ) → Below p m 1
below-first p m = record { first = omega arith; under = omega arith; below = λ u a b. absurd (omega arith) }

module _ (p : ℕ → Bool) (m low : ℕ) (b : Below p m low) where
  pub below_on : Below p m (seek p (m + 1 - low) low)
  below_on = record {
    first = omega (arith, b.first, seek-from p (m + 1 - low) low);
    under = omega (arith, b.under, seek_to p (m + 1 - low) low);
    below = λ u a. seek-under p (m + 1 - low) low u (b.below u a);
  }

  pub below_skip : seek p (m + 1 - 1) 1 ≡ seek p (m + 1 - low) low
  below_skip = skip p (low - 1) (m + 1 - 1) (m + 1 - low) 1 low (omega (arith, b.first, b.under)) (omega (arith, b.first)) b.below

-- ---- the lowest of a list

smaller_le : (x y u : ℕ) (o : Option ℕ) → smaller x o ≡ Some y → (u ≡ x) → y ≤ u
unfolding smaller
smaller_le x y u None e q = let i : x ≡ y = cc in omega arith
smaller_le x y u (Some z) e q = go (leb x z) refl e
  where
    go : (t : Bool) → leb x z ≡ t → Some (cond t x z) ≡ Some y → y ≤ u
    go true f s = let i : x ≡ y = cc in omega arith
    go false f s = let i : z ≡ y = cc in omega (arith, leb-false x z f)

smaller-rest : (x y z u : ℕ) → smaller x (Some z) ≡ Some y → z ≤ u → y ≤ u
unfolding smaller
smaller-rest x y z u e l = go (leb x z) refl e
  where
    go : (t : Bool) → leb x z ≡ t → Some (cond t x z) ≡ Some y → y ≤ u
    go true f s = let i : x ≡ y = cc in omega (arith, leb-true x z f)
    go false f s = let i : z ≡ y = cc in omega arith

smaller-some : (x : ℕ) (o : Option ℕ) → smaller x o ≡ None → ⊥
unfolding smaller
smaller-some x None e = let z : ◌≡◌ {A = ℕ} 0 1 = cc in omega arith
smaller-some x (Some y) e = let z : ◌≡◌ {A = ℕ} 0 1 = cc in omega arith

lowest-none : (xs : List ℕ) (u : ℕ) → Memᴰ u xs → lowest xs ≡ None → ⊥
unfolding lowest
lowest-none (x ∷ xs) u (Memᴰ-head q) e = smaller-some x (lowest xs) e
lowest-none (x ∷ xs) u (Memᴰ-tail n) e = smaller-some x (lowest xs) e
lowest-none mathlib.Core.List.[] u x'' e = elim x'' [ ]

lowest_le : (xs : List ℕ) (y u : ℕ) → lowest xs ≡ Some y → Memᴰ u xs → y ≤ u
unfolding lowest
lowest_le (x ∷ xs) y u e (Memᴰ-head q) = smaller_le x y u (lowest xs) e q
lowest_le (x ∷ xs) y u e (Memᴰ-tail n) = go (lowest xs) refl (lowest_le xs) e
  where
    go : (o : Option ℕ) → lowest xs ≡ o → ((z v : ℕ) → lowest xs ≡ Some z → Memᴰ v xs → z ≤ v) → smaller x o ≡ Some y → y ≤ u
    go None q more f = absurd (lowest-none xs u n q)
    go (Some z) q more f = smaller-rest x y z u f (more z u q n)
lowest_le mathlib.Core.List.[] y u e x'' = elim x'' [ ]

lowest-is : (xs : List ℕ) (v : ℕ) → Memᴰ v xs → ((u : ℕ) → Memᴰ u xs → v ≤ u) → lowest xs ≡ Some v
lowest-is xs v m least = go (lowest xs) refl
  where
    go : (o : Option ℕ) → lowest xs ≡ o → lowest xs ≡ Some v
    go None e = absurd (lowest-none xs v m e)
    go (Some y) e = let i : y ≡ v = omega (arith, lowest_le xs y v e m, least y (lowest_in_lem xs y e)) in e ∙ ap Some i

lowest-empty : (xs : List ℕ) → ((u : ℕ) → Memᴰ u xs → ⊥) → lowest xs ≡ None
lowest-empty xs h = go (lowest xs) refl
  where
    go : (o : Option ℕ) → lowest xs ≡ o → lowest xs ≡ None
    go None e = e
    go (Some y) e = absurd (h y (lowest_in_lem xs y e))

-- ---- both

module _ (p : ℕ → Bool) (xs : List ℕ) (m low : ℕ) (inside : (u : ℕ) → Memᴰ u xs → (u ≤ m) × (p u ≡ true)) (outside : (u : ℕ) → u ≤ m → p u ≡ true → Memᴰ u xs)
    (below : (u : ℕ) → u < low → p u ≡ false) (capacity : low ≤ m + 1) where
  first_le : (u : ℕ) → Memᴰ u xs → seek p (m + 1 - low) low ≤ u
  first_le u n =
      by_leb (seek p (m + 1 - low) low) u (λ l. l)
      (λ l. absurd (true-false (inside u n).1 (seek-under p (m + 1 - low) low u (below u) l)))

  pub seek-lowest : seek p (m + 1 - low) low ≤ m → lowest xs ≡ Some (seek p (m + 1 - low) low)
  seek-lowest l = lowest-is xs (seek p (m + 1 - low) low) (outside (seek p (m + 1 - low) low) l (seek_found p (m + 1 - low) low (omega arith))) first_le

  pub seek-nothing : m < seek p (m + 1 - low) low → lowest xs ≡ None
  seek-nothing l = lowest-empty xs (λ u n. let a = first_le u n in let b = (inside u n).0 in omega arith)
