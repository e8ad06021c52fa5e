-- The walk back from a driver.
use Rattle.base.specs.{ℕ, ◌+◌, ◌-◌, ◌*◌, ◌≤◌, ◌<◌, le_refl, arith, ◌≡◌, refl, sym, ap, subst, ◌∙◌, inl, inr, List, length, get_or, set}
use Rattle.base.specs.{replicate, length-replicate, get_or-set_same, get_or-set_other}
use Rattle.theory_graph.proofs.{by_eqb}
use Rattle.check_order.specs.{Pinned, FeedsAt, Back, one, more, Listed, Behind, Reached, Passed, Stepped, Spread}
use Rattle.check_order.proofs.DriverLists.{zeros, listed-none, listed-few, listed-capacity, listed_next}
use Rattle.check_order.proofs.ReadyDrivers.{feeder_below}

-- what feeds a driver feeds what that feeds
further : (refs : List ℕ) (k i j y : ℕ) → FeedsAt refs k j y → Back refs k i → Back refs y i
further refs k i j y g (one a f) = more a k f (one j g)
further refs k i j y g (more a m f b) = more a m f (further refs k m j y g b)

pub behind_then : (refs : List ℕ) (i j k y : ℕ) → Behind refs i k → FeedsAt refs k j y → Back refs y i
behind_then refs i j k y (inl e) f = one j (subst (λ (x : ℕ). FeedsAt refs x j y) e f)
behind_then refs i j k y (inr b) f = further refs k i j y f b

-- ---- a pin

module _ (refs : List ℕ) (n i k j m x : ℕ) (seen queue : List ℕ) (pinned : Pinned refs n) (r : Reached refs n i seen queue m) (some : 0 < m) (kn : k < n) (lt : j < 4) (behind : Behind refs i k)
    (e : x ≡ get_or refs (4 * k + j) 0) where
  feeder : (y : ℕ) → FeedsAt refs k j y → y ≡ x - 12
  feeder y f = omega (arith, f.1)

  feeds : 12 ≤ x → FeedsAt refs k j (x - 12)
  feeds h = (lt, omega arith)

  pub stepped_found : 12 ≤ x → x - 12 ≡ i → (seen' queue' : List ℕ) → Stepped refs n i k j m seen queue 0 seen' queue'
  stepped_found h q seen' queue' = record {
    found = λ z. subst (FeedsAt refs k j) q (feeds h);
    reached = λ z. absurd (z refl);
    grown = λ z. absurd (z refl);
    passed = λ z. absurd (z refl);
  }

  pub stepped_seen : 12 ≤ x → (x - 12 ≡ i → ⊥) → (get_or seen (x - 12) 0 ≡ 0 → ⊥) → Stepped refs n i k j m seen queue m seen queue
  stepped_seen h q s = record {
    found = λ z. absurd (omega arith);
    reached = λ z. r;
    grown = λ z. record { more = le_refl m; marked = λ y ne. ne; unchanged = λ p q. refl };
    passed = λ z y f. ((λ w. s (ap (λ (v : ℕ). get_or seen v 0) (sym (feeder y f)) ∙ w)), (λ w. q (sym (feeder y f) ∙ w)));
  }

  pub stepped_next : 12 ≤ x → (x - 12 ≡ i → ⊥) → get_or seen (x - 12) 0 ≡ 0 → Stepped refs n i k j m seen queue (m + 1) (set seen (x - 12) 1) (set queue m (x - 12))
  stepped_next h q s = record {
    found = λ z. absurd (omega arith);
    reached = λ z. record {
      listed = listed_next n seen queue m pinned.few r.listed (x - 12) inside s;
      back = λ p w. by_eqb p m
          (λ d. subst (Behind refs i) (sym (ap (λ (v : ℕ). get_or (set queue m (x - 12)) v 0) d ∙ get_or-set_same queue m (x - 12) 0 capacity)) (inr (behind_then refs i j k (x - 12) behind (feeds h))))
          (λ ne. subst (Behind refs i) (sym (get_or-set_other queue m p (x - 12) 0 ne)) (r.back p (omega arith)));
    };
    grown = λ z. record {
      more = omega arith;
      marked = λ y ne. marked y ne;
      unchanged = λ p w. get_or-set_other queue m p (x - 12) 0 (λ d. omega arith);
    };
    passed = λ z y f. ((λ w. omega (arith, now y (feeder y f), w)), (λ w. q (sym (feeder y f) ∙ w)));
  }
    where
      inside : x - 12 < n
      inside = feeder_below refs n pinned k j (x - 12) kn (feeds h)

      capacity : m < length queue
      capacity = omega (arith, r.listed.long, pinned.few, listed-capacity n seen queue m pinned.few r.listed (x - 12) inside s)

      now : (y : ℕ) → y ≡ x - 12 → get_or (set seen (x - 12) 1) y 0 ≡ 1
      now y d = ap (λ (v : ℕ). get_or (set seen (x - 12) 1) v 0) d ∙ get_or-set_same seen (x - 12) 1 0 (omega (arith, r.listed.many, pinned.few, inside))

      marked : (y : ℕ) → (get_or seen y 0 ≡ 0 → ⊥) → get_or (set seen (x - 12) 1) y 0 ≡ 0 → ⊥
      marked y ne w = by_eqb y (x - 12) (λ d. omega (arith, now y d, w)) (λ nd. ne (sym (get_or-set_other seen (x - 12) y 1 0 nd) ∙ w))

  -- listed and marked
  pub stepped_append : 12 ≤ x → (x - 12 ≡ i → ⊥) → get_or seen (x - 12) 0 ≡ 0 → (seen' queue' : List ℕ) → seen' ≡ set seen (x - 12) 1 → queue' ≡ set queue m (x - 12)
      → Stepped refs n i k j m seen queue (m + 1) seen' queue'
  stepped_append h q s seen' queue' a b =
      subst (λ (w : List ℕ). Stepped refs n i k j m seen queue (m + 1) seen' w) (sym b)
      (subst (λ (w : List ℕ). Stepped refs n i k j m seen queue (m + 1) w (set queue m (x - 12))) (sym a) (stepped_next h q s))

  pub stepped_capacity : 12 ≤ x → get_or seen (x - 12) 0 ≡ 0 → (m < 10923) × (x - 12 < 10923)
  stepped_capacity h s =
      let inside : x - 12 < n = feeder_below refs n pinned k j (x - 12) kn (feeds h) in
      (omega (arith, pinned.few, listed-capacity n seen queue m pinned.few r.listed (x - 12) inside s), omega (arith, pinned.few))

-- ---- the pins of a driver

module _ (refs : List ℕ) (n i k m : ℕ) (seen queue : List ℕ) where
  pub spread_none : Reached refs n i seen queue m → 0 < m → Spread refs n i k 0 m seen queue m seen queue
  spread_none r some = record {
    found = λ z. absurd (omega arith);
    reached = λ z. r;
    grown = λ z. record { more = le_refl m; marked = λ y ne. ne; unchanged = λ p q. refl };
    passed = λ z j h. absurd (omega arith);
  }

  pub spread-next : (j r : ℕ) (seen₁ queue₁ : List ℕ) (r' : ℕ) (seen₂ queue₂ : List ℕ) → Spread refs n i k j m seen queue r seen₁ queue₁ → 0 < r
      → Stepped refs n i k j r seen₁ queue₁ r' seen₂ queue₂ → Spread refs n i k (j + 1) m seen queue r' seen₂ queue₂
  spread-next j r seen₁ queue₁ r' seen₂ queue₂ s some t = record {
    found = λ z. (j, t.found z);
    reached = t.reached;
    grown = λ z.
        let a = s.grown here in
        let b = t.grown z in
        record {
          more = omega (arith, a.more, b.more);
          marked = λ y ne. b.marked y (a.marked y ne);
          unchanged = λ p h. b.unchanged p (omega (arith, a.more)) ∙ a.unchanged p h;
        };
    passed = λ z v h. by_eqb v j
        (λ e. subst (Passed refs i seen₂ k) (sym e) (t.passed z))
        (λ ne y f. let o = s.passed here v (omega arith) y f in ((t.grown z).marked y o.0, o.1));
  }
    where
      here : r ≡ 0 → ⊥
      here z = omega arith

  pub spread-found : (j r : ℕ) (seen₁ queue₁ : List ℕ) (r' : ℕ) (seen₂ queue₂ : List ℕ) → Stepped refs n i k j r seen₁ queue₁ r' seen₂ queue₂ → r' ≡ 0
      → Spread refs n i k 4 m seen queue 0 seen₂ queue₂
  spread-found j r seen₁ queue₁ r' seen₂ queue₂ t z = record { found = λ e. (j, t.found z); reached = λ e. absurd (e refl); grown = λ e. absurd (e refl); passed = λ e. absurd (e refl) }

-- ---- the walk

-- the first p of the queue are passed
pub record Walked (refs : List ℕ) (n i p m : ℕ) (seen queue : List ℕ) : Type 0 where
  pub reached : Reached refs n i seen queue m
  pub some : 0 < m
  pub own : get_or seen i 0 ≡ 0 → ⊥
  pub passed : (q j : ℕ) → q < p → j < 4 → Passed refs i seen (get_or queue q 0) j

-- driver i alone
pub reached-first : (refs : List ℕ) (n i a b : ℕ) → Pinned refs n → i < n → a ≡ 10923 → b ≡ 10923 → Reached refs n i (set (replicate a 0) i 1) (set (replicate b 0) 0 i) 1
reached-first refs n i a b pinned h ea eb = record {
  listed = subst (Listed n (set (replicate a 0) i 1) (set (replicate b 0) 0 i)) one_more_lem (listed_next n (replicate a 0) (replicate b 0) 0 pinned.few none i h (zero-at i));
  back = λ p q. inl (ap (λ (v : ℕ). get_or (set (replicate b 0) 0 i) v 0) (let s : p ≡ 0 = omega arith in s) ∙ get_or-set_same (replicate b 0) 0 i 0 (omega (arith, length-replicate {A = ℕ} b 0)));
}
  where
    none : Listed n (replicate a 0) (replicate b 0) 0
    none = listed-none n a (replicate b 0) ea (length-replicate b 0 ∙ eb)

    one_more_lem : 0 + 1 ≡ 1
    one_more_lem = omega arith

    zero-at : (y : ℕ) → get_or {A = ℕ} (replicate a 0) y 0 ≡ 0
    zero-at y = zeros a y

pub reached-start : (refs : List ℕ) (n i a b : ℕ) (seen queue : List ℕ) → Pinned refs n → i < n → a ≡ 10923 → b ≡ 10923 → seen ≡ set (replicate a 0) i 1 → queue ≡ set (replicate b 0) 0 i
    → Reached refs n i seen queue 1 × (get_or seen i 0 ≡ 1)
reached-start refs n i a b seen queue pinned h ea eb es eq = (
  subst (λ (w : List ℕ). Reached refs n i seen w 1) (sym eq) (subst (λ (w : List ℕ). Reached refs n i w (set (replicate b 0) 0 i) 1) (sym es) (reached-first refs n i a b pinned h ea eb)),
  ap (λ (w : List ℕ). get_or w i 0) es ∙ get_or-set_same (replicate a 0) i 1 0 (omega (arith, pinned.few, length-replicate {A = ℕ} a 0)),
)

pub walked-first : (refs : List ℕ) (n i : ℕ) (seen queue : List ℕ) → Reached refs n i seen queue 1 → get_or seen i 0 ≡ 1 → Walked refs n i 0 1 seen queue
walked-first refs n i seen queue r e = record { reached = r; some = omega arith; own = λ z. omega arith; passed = λ q j h. absurd (omega arith) }

module _ (refs : List ℕ) (n i p m : ℕ) (seen queue : List ℕ) (pinned : Pinned refs n) (w : Walked refs n i p m seen queue) where
  pub walked_next : (k r : ℕ) (seen' queue' : List ℕ) → p < m → k ≡ get_or queue p 0 → Spread refs n i k 4 m seen queue r seen' queue' → (r ≡ 0 → ⊥) → Walked refs n i (p + 1) r seen' queue'
  walked_next k r seen' queue' h ek s z = record {
    reached = s.reached z;
    some = omega arith;
    own = (s.grown z).marked i w.own;
    passed = λ q j lt four. subst (λ (v : ℕ). Passed refs i seen' v j) (sym ((s.grown z).unchanged q (omega arith))) (by_eqb q p
        (λ e. subst (λ (v : ℕ). Passed refs i seen' v j) (ek ∙ ap (λ (v : ℕ). get_or queue v 0) (sym e)) (s.passed z j four))
        (λ ne y f. let o = w.passed q j (omega arith) four y f in ((s.grown z).marked y o.0, o.1)));
  }

  pub walked-found : (k r : ℕ) (seen' queue' : List ℕ) → p < m → k ≡ get_or queue p 0 → Spread refs n i k 4 m seen queue r seen' queue' → r ≡ 0 → Back refs i i
  walked-found k r seen' queue' h ek s z = let f = s.found z in behind_then refs i f.0 k i (subst (Behind refs i) (sym ek) (w.reached.back p h)) f.1

  -- what is listed and passed does not lead to driver i
  apart : m ≤ p → (k : ℕ) → k < n → (get_or seen k 0 ≡ 0 → ⊥) → Back refs i k → ⊥
  apart h k kn ne (one j f) =
      let r = w.reached.listed.has k kn ne in
      (w.passed r.0 j (omega (arith, r.1)) f.0 i (subst (λ (v : ℕ). FeedsAt refs v j i) (sym r.2) f)).1 refl
  apart h k kn ne (more j y f b) =
      let r = w.reached.listed.has k kn ne in
      apart h y (feeder_below refs n pinned k j y kn f) (w.passed r.0 j (omega (arith, r.1)) f.0 y (subst (λ (v : ℕ). FeedsAt refs v j y) (sym r.2) f)).0 b

  pub walked_end : m ≤ p → i < n → Back refs i i → ⊥
  walked_end h kn b = apart h i kn w.own b

  pub walked-few : m ≤ n
  walked-few = listed-few n seen queue m pinned.few w.reached.listed
