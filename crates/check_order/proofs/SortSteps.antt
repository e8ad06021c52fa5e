-- What is made is what is computed, step by step.
use Rattle.base.specs.{ℕ, zero, suc, ◌+◌, ◌-◌, ◌*◌, ◌≤◌, ◌<◌, arith, ◌≡◌, refl, sym, ap, ap₂, ◌∙◌, Bool, true, false, cond, ◌&&◌, List, eqb}
use Rattle.base.specs.{ltb, get_or, set, lt-ltb, le-ltb, eq-eqb, ne_eqb}
use Rattle.check_order.specs.{Made, made, fed_by, ready_from, list_if_ready, sweep_from, sweep_until_stable, Down, down, flat, push_fanin_of, step_of}
use Rattle.check_order.specs.{walk_from, visit_of, dives_from}

module _ (refs : List ℕ) where
  -- ---- the pins of a driver

  module _ (flags : List ℕ) (i j : ℕ) where
    pub ready-stops : j < 4 → fed_by refs flags i j ≡ false → ready_from refs flags i j (4 - j) ≡ false
    unfolding ready_from
    ready-stops h e = ap (ready_from refs flags i j) (let z : 4 - j ≡ suc (3 - j) = omega arith in z) ∙ ap (λ (b : Bool). b && ready_from refs flags i (suc j) (3 - j)) e

    pub ready_goes : j < 4 → fed_by refs flags i j ≡ true → ready_from refs flags i j (4 - j) ≡ ready_from refs flags i (j + 1) (4 - (j + 1))
    unfolding ready_from
    ready_goes h e =
        ap (ready_from refs flags i j) (let z : 4 - j ≡ suc (3 - j) = omega arith in z)
        ∙ ap (λ (b : Bool). b && ready_from refs flags i (suc j) (3 - j)) e
        ∙ ap₂ (ready_from refs flags i) (let z : suc j ≡ j + 1 = omega arith in z) (let z : 3 - j ≡ 4 - (j + 1) = omega arith in z)

    pub ready-ends : 4 ≤ j → ready_from refs flags i j (4 - j) ≡ true
    unfolding ready_from
    ready-ends h = ap (ready_from refs flags i j) (let z : 4 - j ≡ 0 = omega arith in z)

  -- ---- a driver tried

  module _ (flags order : List ℕ) (m i : ℕ) where
    pub list_marked : (get_or flags i 0 ≡ 0 → ⊥) → made m flags order ≡ list_if_ready refs (made m flags order) i
    unfolding list_if_ready
    list_marked ne = sym (rw (ne_eqb (get_or flags i 0) 0 ne))

    module _ (z : get_or flags i 0 ≡ 0) where
      pub list_waits : false ≡ ready_from refs flags i 0 4 → made m flags order ≡ list_if_ready refs (made m flags order) i
      unfolding list_if_ready
      list_waits e = sym (rw (eq-eqb (get_or flags i 0) 0 z, ← e))

      pub list_listed : true ≡ ready_from refs flags i 0 4 → (flags' order' : List ℕ) → flags' ≡ set flags i 1 → order' ≡ set order m i
          → made (m + 1) flags' order' ≡ list_if_ready refs (made m flags order) i
      unfolding list_if_ready
      list_listed e flags' order' p q = ap₂ (λ (x y : List ℕ). made (m + 1) x y) p q ∙ sym (rw (eq-eqb (get_or flags i 0) 0 z, ← e))

  -- ---- sweeps

  pub sweep_goes : (n i : ℕ) (st next : Made) → i < n → next ≡ list_if_ready refs st i → sweep_from refs i (n - i) st ≡ sweep_from refs (i + 1) (n - (i + 1)) next
  unfolding sweep_from
  sweep_goes n i st next h e =
      ap (λ (k : ℕ). sweep_from refs i k st) (let z : n - i ≡ suc (n - (i + 1)) = omega arith in z)
      ∙ ap₂ (λ (j : ℕ) (s : Made). sweep_from refs j (n - (i + 1)) s) (let z : suc i ≡ i + 1 = omega arith in z) (sym e)

  pub sweep_ends : (n i : ℕ) (st : Made) → n ≤ i → sweep_from refs i (n - i) st ≡ st
  unfolding sweep_from
  sweep_ends n i st h = ap (λ (k : ℕ). sweep_from refs i k st) (let z : n - i ≡ 0 = omega arith in z)

  -- sweeps so far, of which the last came from `from` listed drivers to `now`
  abbrev pub Settling : ℕ → ℕ → Made → Made → Type 0
  Settling n from now last = (p : Made) × (p.count ≡ from) × (now ≡ sweep_from refs 0 n p) × (f : ℕ) × (n ≤ from + f) × (last ≡ sweep_until_stable refs n (suc f) p)

  -- the sweeps behind one
  abbrev pub behind : ℕ → ℕ → ℕ → Made → Made
  behind n f from now = cond (ltb from now.count) (sweep_until_stable refs n f now) now

  pub by_sweep : (n f : ℕ) (p now : Made) → now ≡ sweep_from refs 0 n p → sweep_until_stable refs n (suc f) p ≡ behind n f p.count now
  unfolding sweep_until_stable
  by_sweep n f p now s = ap (λ (t : Made). cond (ltb p.count t.count) (sweep_until_stable refs n f t) t) (sym s)

  pub settling_first : (n : ℕ) (st now : Made) → now ≡ sweep_from refs 0 n st → Settling n st.count now (behind n n st.count now)
  settling_first n st now e = (st, refl, e, n, omega arith, sym (by_sweep n n st now e))

  module _ (n from : ℕ) (now last : Made) where
    pub settling_again : from < now.count → now.count ≤ n → Settling n from now last → (next : Made) → next ≡ sweep_from refs 0 n now → Settling n now.count next last
    settling_again lt le (p, e, s, zero, m, t) next q = absurd (omega arith)
    settling_again lt le (p, e, s, suc f, m, t) next q =
        (now, refl, q, f, omega arith, t ∙ by_sweep n (suc f) p now s ∙ ap (λ (b : Bool). cond b (sweep_until_stable refs n (suc f) now) now) (lt-ltb p.count now.count (omega arith)))

    pub settling_ends : now.count ≤ from → Settling n from now last → now ≡ last
    settling_ends le (p, e, s, f, m, t) =
        sym (t ∙ by_sweep n f p now s ∙ ap (λ (b : Bool). cond b (sweep_until_stable refs n f now) now) (le-ltb p.count now.count (omega arith)))

  -- ---- walks down

  module _ (n depth at x : ℕ) (passed stack : List ℕ) (is : x ≡ get_or refs at 0) (l : Made) where
    by_pin_lem : push_fanin_of refs n (down depth l passed stack) at
        ≡ cond (ltb x 12) (down depth l passed stack) (cond (eqb (get_or passed (x - 12) 0) 0) (cond (ltb depth n) (down (depth + 1) l passed (set stack depth (x - 12))) (down depth l passed stack)) (down depth l passed stack))
    unfolding push_fanin_of
    by_pin_lem =
        ap (λ (y : ℕ). cond (ltb y 12) (down depth l passed stack)
        (cond (eqb (get_or passed (y - 12) 0) 0) (cond (ltb depth n) (down (depth + 1) l passed (set stack depth (y - 12))) (down depth l passed stack)) (down depth l passed stack))) (sym is)

    pub push_fanin_input : x < 12 → down depth l passed stack ≡ push_fanin_of refs n (down depth l passed stack) at
    push_fanin_input h = sym (by_pin_lem ∙ rw (lt-ltb x 12 h))

    module _ (h : 12 ≤ x) where
      pub push_fanin_met : (get_or passed (x - 12) 0 ≡ 0 → ⊥) → down depth l passed stack ≡ push_fanin_of refs n (down depth l passed stack) at
      push_fanin_met ne = sym (by_pin_lem ∙ rw (le-ltb x 12 h, ne_eqb (get_or passed (x - 12) 0) 0 ne))

      module _ (z : get_or passed (x - 12) 0 ≡ 0) where
        pub push_fanin_full : n ≤ depth → down depth l passed stack ≡ push_fanin_of refs n (down depth l passed stack) at
        push_fanin_full le = sym (by_pin_lem ∙ rw (le-ltb x 12 h, eq-eqb (get_or passed (x - 12) 0) 0 z, le-ltb depth n le))

        pub push_fanin_next : depth < n → down (depth + 1) l passed (set stack depth (x - 12)) ≡ push_fanin_of refs n (down depth l passed stack) at
        push_fanin_next lt = sym (by_pin_lem ∙ rw (le-ltb x 12 h, eq-eqb (get_or passed (x - 12) 0) 0 z, lt-ltb depth n lt))

  -- a step at the driver on top
  module _ (n depth top : ℕ) (l : Made) (passed stack : List ℕ) (is : top ≡ get_or stack (depth - 1) 0) where
    by_top : step_of refs n (down depth l passed stack)
        ≡ cond (ltb top n)
        (cond (ltb (get_or passed top 0) 4) (push_fanin_of refs n (down depth l (set passed top (get_or passed top 0 + 1)) stack) (4 * top + get_or passed top 0)) (down (depth - 1) (list_if_ready refs l top) passed stack))
        (down 0 l passed stack)
    unfolding step_of
    by_top =
        ap (λ (t : ℕ). cond (ltb t n)
        (cond (ltb (get_or passed t 0) 4) (push_fanin_of refs n (down depth l (set passed t (get_or passed t 0 + 1)) stack) (4 * t + get_or passed t 0)) (down (depth - 1) (list_if_ready refs l t) passed stack))
        (down 0 l passed stack)) (sym is)

    pub step_out : n ≤ top → down 0 l passed stack ≡ step_of refs n (down depth l passed stack)
    step_out le = sym (by_top ∙ rw (le-ltb top n le))

    module _ (lt : top < n) where
      pub step-under : get_or passed top 0 < 4 → push_fanin_of refs n (down depth l (set passed top (get_or passed top 0 + 1)) stack) (4 * top + get_or passed top 0) ≡ step_of refs n (down depth l passed stack)
      step-under h = sym (by_top ∙ rw (lt-ltb top n lt, lt-ltb (get_or passed top 0) 4 h))

      pub step_up : 4 ≤ get_or passed top 0 → down (depth - 1) (list_if_ready refs l top) passed stack ≡ step_of refs n (down depth l passed stack)
      step_up h = sym (by_top ∙ rw (lt-ltb top n lt, le-ltb (get_or passed top 0) 4 h))

  -- steps until the walk is up
  pub walk_goes : (n left : ℕ) (w next : Down) → (w.depth ≡ 0 → ⊥) → next ≡ step_of refs n w → 0 < left → walk_from refs n left w ≡ walk_from refs n (left - 1) next
  unfolding walk_from
  walk_goes n zero w next ne e h = absurd (omega arith)
  walk_goes n (suc left) w next ne e h =
      ap (λ (b : Bool). cond b w (walk_from refs n left (step_of refs n w))) (ne_eqb w.depth 0 ne)
      ∙ ap₂ (λ (k : ℕ) (v : Down). walk_from refs n k v) (let z : left ≡ suc left - 1 = omega arith in z) (sym e)

  pub walk_ends : (n left : ℕ) (w : Down) → w.depth ≡ 0 → walk_from refs n left w ≡ w
  unfolding walk_from
  walk_ends n zero w e = refl
  walk_ends n (suc left) w e = ap (λ (b : Bool). cond b w (walk_from refs n left (step_of refs n w))) (eq-eqb w.depth 0 e)

  pub walk_none : (n left : ℕ) (w : Down) → left ≡ 0 → walk_from refs n left w ≡ w
  unfolding walk_from
  walk_none n left w e = ap (λ (k : ℕ). walk_from refs n k w) e

  module _ (n i m : ℕ) (flags order passed stack : List ℕ) where
    pub visit_met : (get_or passed i 0 ≡ 0 → ⊥) → down 0 (made m flags order) passed stack ≡ flat (visit_of refs n (down 0 (made m flags order) passed stack) i)
    unfolding visit_of
    visit_met ne = sym (rw (ne_eqb (get_or passed i 0) 0 ne))

    pub visit_walks : get_or passed i 0 ≡ 0 → (w : Down) → w ≡ walk_from refs n (5 * n) (down 1 (made m flags order) passed (set stack 0 i))
        → flat w ≡ flat (visit_of refs n (down 0 (made m flags order) passed stack) i)
    unfolding visit_of
    visit_walks z w e = ap flat e ∙ sym (rw (eq-eqb (get_or passed i 0) 0 z))

  pub dives_go : (n i : ℕ) (w next : Down) → i < n → next ≡ flat (visit_of refs n w i) → dives_from refs n i (n - i) w ≡ dives_from refs n (i + 1) (n - (i + 1)) next
  unfolding dives_from
  dives_go n i w next h e =
      ap (λ (k : ℕ). dives_from refs n i k w) (let z : n - i ≡ suc (n - (i + 1)) = omega arith in z)
      ∙ ap₂ (λ (j : ℕ) (v : Down). dives_from refs n j (n - (i + 1)) v) (let z : suc i ≡ i + 1 = omega arith in z) (sym e)

  pub dives_end : (n i : ℕ) (w : Down) → n ≤ i → dives_from refs n i (n - i) w ≡ w
  unfolding dives_from
  dives_end n i w h = ap (λ (k : ℕ). dives_from refs n i k w) (let z : n - i ≡ 0 = omega arith in z)
