-- An order grown, and swept.
use Rattle.base.specs.{ℕ, ◌+◌, ◌-◌, ◌*◌, ◌≤◌, ◌<◌, le_refl, arith, ◌≡◌, refl, sym, ap, subst, ◌∙◌, true, false, cond, not, true≢false}
use Rattle.base.specs.{false≢true, List, eqb, ltb, length, get_or, set, replicate, get_or-set_same, get_or-set_other, lt-ltb, le-ltb, eq-eqb}
use Rattle.base.specs.{ne_eqb}
use Rattle.theory_graph.proofs.{by_eqb}
use Rattle.check_order.specs.{fed_by, Pinned, FeedsAt, Ready, Stuck, Fed, Sorted, ListAttempted, SweepResult, Stable}
use Rattle.check_order.proofs.DriverLists.{listed-none, listed-capacity, listed_next}

-- ---- a pin

-- what feeds a driver is one
pub feeder_below : (refs : List ℕ) (n : ℕ) → Pinned refs n → (i j k : ℕ) → i < n → FeedsAt refs i j k → k < n
feeder_below refs n p i j k h f = omega (arith, f.0, f.1, p.most (4 * i + j) (omega (arith, f.0)))

module _ (refs flags : List ℕ) (i j x : ℕ) (lt : j < 4) (e : x ≡ get_or refs (4 * i + j) 0) where
  as_is : fed_by refs flags i j ≡ cond (ltb x 12) true (not (eqb (get_or flags (x - 12) 0) 0))
  unfolding fed_by
  as_is = ap (λ (y : ℕ). cond (ltb y 12) true (not (eqb (get_or flags (y - 12) 0) 0))) (sym e)

  pub fed-input : x < 12 → Fed refs flags i j true
  fed-input h = record { is = sym (as_is ∙ rw (lt-ltb x 12 h)); fed = λ q k f z. absurd (omega (arith, f.1)); waits = λ q. absurd (true≢false q) }

  pub fed-marked : 12 ≤ x → (get_or flags (x - 12) 0 ≡ 0 → ⊥) → Fed refs flags i j true
  fed-marked h ne = record { is = sym (as_is ∙ rw (le-ltb x 12 h, ne_eqb (get_or flags (x - 12) 0) 0 ne)); fed = λ q k f z. ne (ap (λ (y : ℕ). get_or flags y 0) (let s : x - 12 ≡ k = omega (arith, f.1) in s) ∙ z); waits = λ q. absurd (true≢false q) }

  pub fed-waits : 12 ≤ x → get_or flags (x - 12) 0 ≡ 0 → Fed refs flags i j false
  fed-waits h z = record { is = sym (as_is ∙ rw (le-ltb x 12 h, eq-eqb (get_or flags (x - 12) 0) 0 z)); fed = λ q. absurd (false≢true q); waits = λ q. (j, x - 12, (lt, omega arith), z) }

-- ---- the order

module _ (refs : List ℕ) (n : ℕ) (pinned : Pinned refs n) where
  pub sorted_none : (k : ℕ) (order : List ℕ) → k ≡ 10923 → length order ≡ 10923 → Sorted refs n (replicate k 0) order 0
  sorted_none k order e long = record { listed = listed-none n k order e long; behind = λ p j y h. absurd (omega arith) }

  pub sorted-next : (flags order : List ℕ) (m i : ℕ) → Sorted refs n flags order m → i < n → get_or flags i 0 ≡ 0 → Ready refs flags i → Sorted refs n (set flags i 1) (set order m i) (m + 1)
  sorted-next flags order m i a h z ready = record {
    listed = listed_next n flags order m pinned.few a.listed i h z;
    behind = λ p j k q f. by_eqb p m
        (λ e. new p j k e (subst (λ (x : ℕ). FeedsAt refs x j k) (ap (λ (x : ℕ). get_or (set order m i) x 0) e ∙ get_or-set_same order m i 0 inside) f))
        (λ ne. old p j k (omega arith) (subst (λ (x : ℕ). FeedsAt refs x j k) (get_or-set_other order m p i 0 ne) f));
  }
    where
      inside : m < length order
      inside = omega (arith, a.listed.long, pinned.few, listed-capacity n flags order m pinned.few a.listed i h z)

      new : (p j k : ℕ) → p ≡ m → FeedsAt refs i j k → (q : ℕ) × (q < p) × (get_or (set order m i) q 0 ≡ k)
      new p j k e f =
          let r = a.listed.has k (feeder_below refs n pinned i j k h f) (ready j k f) in
          (r.0, omega (arith, r.1), get_or-set_other order m r.0 i 0 (λ s. omega (arith, r.1)) ∙ r.2)

      old : (p j k : ℕ) → p < m → FeedsAt refs (get_or order p 0) j k → (q : ℕ) × (q < p) × (get_or (set order m i) q 0 ≡ k)
      old p j k q f =
          let r = a.behind p j k q f in
          (r.0, r.1, get_or-set_other order m r.0 i 0 (λ s. omega (arith, r.1)) ∙ r.2)

  -- a driver tried
  pub attempted_marked : (flags order : List ℕ) (m i : ℕ) → Sorted refs n flags order m → (get_or flags i 0 ≡ 0 → ⊥) → ListAttempted refs n i m flags m flags order
  attempted_marked flags order m i a ne = record { sorted = a; more = le_refl m; same = λ e. refl; stuck = λ e z. absurd (ne z) }

  pub attempted_stuck : (flags order : List ℕ) (m i : ℕ) → Sorted refs n flags order m → Stuck refs flags i → ListAttempted refs n i m flags m flags order
  attempted_stuck flags order m i a s = record { sorted = a; more = le_refl m; same = λ e. refl; stuck = λ e z. s }

  pub attempted_next : (flags order : List ℕ) (m i : ℕ) → Sorted refs n flags order m → i < n → get_or flags i 0 ≡ 0 → Ready refs flags i → (flags' order' : List ℕ)
      → flags' ≡ set flags i 1 → order' ≡ set order m i → ListAttempted refs n i m flags (m + 1) flags' order'
  attempted_next flags order m i a h z ready flags' order' e f = record {
    sorted = subst (λ (x : List ℕ). Sorted refs n flags' x (m + 1)) (sym f) (subst (λ (x : List ℕ). Sorted refs n x (set order m i) (m + 1)) (sym e) (sorted-next flags order m i a h z ready));
    more = omega arith;
    same = λ q. absurd (omega arith);
    stuck = λ q. absurd (omega arith);
  }

  -- drivers tried one by one
  pub sweep_none : (flags order : List ℕ) (m : ℕ) → Sorted refs n flags order m → SweepResult refs n 0 m flags m flags order
  sweep_none flags order m a = record { sorted = a; more = le_refl m; same = λ e. refl; stuck = λ e i h. absurd (omega arith) }

  pub sweep_next : (t m : ℕ) (before : List ℕ) (r : ℕ) (flags order : List ℕ) (r' : ℕ) (flags' order' : List ℕ) → SweepResult refs n t m before r flags order → ListAttempted refs n t r flags r' flags' order'
      → SweepResult refs n (t + 1) m before r' flags' order'
  sweep_next t m before r flags order r' flags' order' s p = record {
    sorted = p.sorted;
    more = omega (arith, s.more, p.more);
    same = λ e. p.same (still e) ∙ s.same (first e);
    stuck = λ e i h z. by_eqb i t
        (λ q. subst (Stuck refs before) (sym q)
        (subst (λ (w : List ℕ). Stuck refs w t) (s.same (first e))
        (p.stuck (still e) (ap (λ (w : List ℕ). get_or w t 0) (s.same (first e)) ∙ ap (λ (x : ℕ). get_or before x 0) (sym q) ∙ z))))
        (λ ne. s.stuck (first e) i (omega arith) z);
  }
    where
      first : r' ≡ m → r ≡ m
      first e = omega (arith, s.more, p.more)

      still : r' ≡ m → r' ≡ r
      still e = omega (arith, s.more, p.more)

  -- a sweep that listed none
  pub sweep_stable : (m : ℕ) (before : List ℕ) (r : ℕ) (flags order : List ℕ) → SweepResult refs n n m before r flags order → r ≤ m → Stable refs n r flags order
  sweep_stable m before r flags order s le = record {
    sorted = s.sorted;
    stuck = λ i h z.
        subst (λ (w : List ℕ). Stuck refs w i) (sym (s.same none))
        (s.stuck none i h (ap (λ (w : List ℕ). get_or w i 0) (sym (s.same none)) ∙ z));
  }
    where
      none : r ≡ m
      none = omega (arith, s.more)
