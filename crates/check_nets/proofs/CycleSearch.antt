-- Cycles and the order, of the numbers and of the nets.
use Rattle.base.specs.{ℕ, zero, suc, ◌+◌, ◌-◌, ◌*◌, ◌/◌, ◌%◌, ◌≤◌, ◌<◌, lt_of_not-le, not-suc-le-zero, div-add-mod', mod-lt, dec_le, arith}
use Rattle.base.specs.{◌≡◌, refl, sym, ap, subst, ◌∙◌, Bool, true, None, Some, List, [], map, Memᴰ, Memᴰ-cast, T, eqb, eqb→eq, lit<}
use Rattle.base.specs.{length, get_or, eq-eqb}
use Rattle.model.specs.{keep, below, Driver, first_line, on_cycle}
use Rattle.theory_graph.proofs.{map_in, map_out, get_or_in, keep_in, keep_out, below_in, below_out, by_eqb}
use Rattle.theory_check.proofs.{FeedsNet, directly, through, NoCycle, Fed, none_left, cycle-found, found-cycle}
use Rattle.check_names.specs.{code}
use Rattle.check_wires.specs.{own_at, Pin, Once, Rows}
use Rattle.check_order.specs.{Pinned, FeedsAt, Back, one, more, Sorted, Stable, Cyclic}
use Rattle.check_order.proofs.{left-any, left-some}
use Rattle.check_nets.specs.{no_driver, Ordered, Stored}
use Rattle.check_nets.proofs.FirstLines.{mem-at, first_some, first-none}
use Rattle.check_nets.proofs.DrivenNets.{net_at, uses_at, is-driver, own_code, nets-same, pins_are, pin-input, pin-driver}

-- ---- an order has no cycle

module _ (refs : List ℕ) (n : ℕ) (flags order : List ℕ) (m : ℕ) (a : Sorted refs n flags order m) where
  -- what feeds a listed driver is listed before it
  down : (k p i : ℕ) → p < m → get_or order p 0 ≡ i → Back refs k i → (q : ℕ) × (q < p) × (get_or order q 0 ≡ k)
  down k p i h e (one j f) = a.behind p j k h (subst (λ (x : ℕ). FeedsAt refs x j k) (sym e) f)
  down k p i h e (more j y f b) =
      let r = a.behind p j y h (subst (λ (x : ℕ). FeedsAt refs x j y) (sym e) f) in
      let t = down k r.0 y (omega (arith, r.1)) r.2 b in
      (t.0, omega (arith, r.1, t.1), t.2)

  pub never : (fuel p i : ℕ) → p < fuel → p < m → get_or order p 0 ≡ i → Back refs i i → ⊥
  never zero p i f h e b = not-suc-le-zero f
  never (suc fuel) p i f h e b = let r = down i p i h e b in never fuel r.0 i (omega (arith, r.1)) (omega (arith, r.1)) r.2 b

module _ (inputs : List (List ℕ)) (ds : List Driver) (nets ins : List ℕ) (n count : ℕ) (st : Stored inputs ds nets ins n count) (refs : List ℕ) (o : Once nets ins count n n)
    (rows : Rows nets ins count n n refs) where
  pub pinned : Pinned refs n
  pinned = record {
    few = st.few;
    most = λ x h.
        let e = div-add-mod' x 4 in
        let lt : x % 4 < 4 = mod-lt x (lit< tt) in
        subst (λ (y : ℕ). get_or refs y 0 < 12 + n) (let z : 4 * (x / 4) + x % 4 ≡ x = omega arith in z) (rows.rows (x / 4) (omega arith) (x % 4) lt).most;
  }

  -- no two drivers of one net
  nets-once : (i k : ℕ) → i < n → k < n → net_at ds i ≡ net_at ds k → i ≡ k
  nets-once i k h q e = elim (dec_le i k) [
    | yes le ↦ elim (dec_le k i) [
      | yes ge ↦ omega arith
      | no nge ↦ absurd ((o.fresh k q).no_driver i (lt_of_not-le nge) (nets-same inputs ds nets ins n count st i k h q e))
    ]
    | no nle ↦ absurd ((o.fresh i h).no_driver k (lt_of_not-le nle) (nets-same inputs ds nets ins n count st k i q h (sym e)))
  ]

  same-net : (d e : Driver) → Memᴰ d ds → Memᴰ e ds → d.net ≡ e.net → d ≡ e
  same-net d e m k s =
      let i = mem-at d no_driver ds m in
      let j = mem-at e no_driver ds k in
      sym i.2
      ∙ ap (λ (x : ℕ). get_or ds x no_driver)
      (nets-once i.0 j.0 (omega (arith, i.1, st.drivers)) (omega (arith, j.1, st.drivers))
      (ap (λ (x : Driver). x.net) i.2 ∙ s ∙ ap (λ (x : Driver). x.net) (sym j.2)))
      ∙ j.2

  -- a number that feeds is a net that is used
  used : (i j k : ℕ) → i < n → FeedsAt refs i j k → (k < n) × Memᴰ (net_at ds k) (uses_at ds i)
  used i j k h f = elim (dec_le (length (uses_at ds i)) j) [
    | yes past ↦ absurd (omega (arith, f.1, p.past (omega (arith, pins_are inputs ds nets ins n count st i h))))
    | no npast ↦
        let q : j < length (uses_at ds i) = lt_of_not-le npast in
        let r = pin-driver inputs ds nets ins n count st i j (get_or refs (4 * i + j) 0) h q p (omega (arith, f.1)) in
        let e : get_or refs (4 * i + j) 0 - 12 ≡ k = omega (arith, f.1) in
        (subst (λ (x : ℕ). x < n) e r.0, Memᴰ-cast (ap (net_at ds) (sym e) ∙ r.1) (get_or_in (uses_at ds i) j [] q))
  ]
    where
      p : Pin nets ins count n i j (get_or refs (4 * i + j) 0)
      p = rows.rows i h j f.0

  back-feeds : (k i : ℕ) → i < n → Back refs k i → FeedsNet ds (net_at ds k) (net_at ds i)
  back-feeds k i h (one j f) = directly (get_or ds i no_driver) (is-driver inputs ds nets ins n count st i h) (used i j k h f).1
  back-feeds k i h (more j y f b) =
      let u = used i j y h f in
      through (get_or ds i no_driver) (back-feeds k y u.0 b) (is-driver inputs ds nets ins n count st i h) u.1

  -- and the other way
  feeds : (i k : ℕ) → i < n → k < n → Memᴰ (net_at ds k) (uses_at ds i) → (j : ℕ) × FeedsAt refs i j k
  feeds i k h q m = elim (dec_le 12 r) [
    | yes le ↦
        let s = pin-driver inputs ds nets ins n count st i a.0 r h a.1 p le in
        let e : r - 12 ≡ k = nets-once (r - 12) k s.0 q (s.1 ∙ a.2) in
        (a.0, (lt, omega arith))
    | no nle ↦
        let s = pin-input inputs ds nets ins n count st i a.0 r h a.1 p (lt_of_not-le nle) in
        absurd ((o.fresh k q).no_input r s.0 (input-own r s.0 (s.1 ∙ a.2)))
  ]
    where
      a : (j : ℕ) × (j < length (uses_at ds i)) × (get_or (uses_at ds i) j [] ≡ net_at ds k)
      a = mem-at (net_at ds k) [] (uses_at ds i) m

      lt : a.0 < 4
      lt = omega (arith, a.1, st.pins (get_or ds i no_driver) (is-driver inputs ds nets ins n count st i h))

      r : ℕ
      r = get_or refs (4 * i + a.0) 0

      p : Pin nets ins count n i a.0 r
      p = rows.rows i h a.0 lt

      input-own : (x : ℕ) → x < count → get_or inputs x [] ≡ net_at ds k → get_or ins x 0 ≡ own_at nets k
      input-own x lx e = st.codes x lx ∙ ap code e ∙ sym (own_code inputs ds nets ins n count st k q)

  of_driver : (x z : List ℕ) → FeedsNet ds x z → (k : ℕ) × (k < n) × (net_at ds k ≡ z)
  of_driver x z (directly d m u) = let k = mem-at d no_driver ds m in (k.0, omega (arith, k.1, st.drivers), ap (λ (e : Driver). e.net) k.2)
  of_driver x z (through d f m u) = let k = mem-at d no_driver ds m in (k.0, omega (arith, k.1, st.drivers), ap (λ (e : Driver). e.net) k.2)

  own-uses : (d : Driver) → Memᴰ d ds → (i : ℕ) → i < n → net_at ds i ≡ d.net → (x : List ℕ) → Memᴰ x d.uses → Memᴰ x (uses_at ds i)
  own-uses d m i h e x u = subst (λ (y : Driver). Memᴰ x y.uses) (sym (same-net (get_or ds i no_driver) d (is-driver inputs ds nets ins n count st i h) m e)) u

  feeds-back : (x z : List ℕ) → FeedsNet ds x z → (i k : ℕ) → i < n → k < n → net_at ds i ≡ z → net_at ds k ≡ x → Back refs k i
  feeds-back x z (directly d m u) i k h q e s =
      let f = feeds i k h q (Memᴰ-cast s (own-uses d m i h e x u)) in
      one f.0 f.1
  feeds-back x z (through {y = y} d g m u) i k h q e s =
      let w = of_driver x y g in
      let f = feeds i w.0 h w.1 (Memᴰ-cast w.2 (own-uses d m i h e y u)) in
      more f.0 w.0 f.1 (feeds-back x y g w.0 k w.1 q w.2 s)

  -- ---- "a net on a circle"

  feeds_itself_lem : (i : ℕ) → i < n → on_cycle ds (get_or ds i no_driver) ≡ true → Back refs i i
  feeds_itself_lem i h e =
      feeds-back (net_at ds i) (net_at ds i) (found-cycle ds (get_or ds i no_driver) (is-driver inputs ds nets ins n count st i h) e) i i h h refl refl

  pub cycle-at : (r : ℕ) → r < n → ((i : ℕ) → i < r → Back refs i i → ⊥) → Back refs r r → first_line (on_cycle ds) ds ≡ Some (get_or ds r no_driver).offset
  cycle-at r h f b =
      first_some (on_cycle ds) ds r (omega (arith, st.drivers)) (λ i q e. f i q (feeds_itself_lem i (omega arith) e))
      (cycle-found ds same-net (get_or ds r no_driver) (is-driver inputs ds nets ins n count st r h) (back-feeds r r h b))

  pub cycle_nowhere : ((i : ℕ) → i < n → Back refs i i → ⊥) → first_line (on_cycle ds) ds ≡ None
  cycle_nowhere f = first-none (on_cycle ds) ds (λ i q e. let h : i < n = omega (arith, st.drivers) in f i h (feeds_itself_lem i h e))

  no_cycle_lem : ((i : ℕ) → i < n → Back refs i i → ⊥) → NoCycle ds
  no_cycle_lem f d m w =
      let k = mem-at d no_driver ds m in
      let h : k.0 < n = omega (arith, k.1, st.drivers) in
      let e : net_at ds k.0 ≡ d.net = ap (λ (x : Driver). x.net) k.2 in
      f k.0 h (feeds-back d.net d.net w k.0 k.0 h h e e)

  -- ---- the order

  module _ (r : ℕ) (flags order : List ℕ) (s : Stable refs n r flags order) where
    pub most : r ≤ n
    most = omega (arith, s.sorted.listed.count)

    -- a listed driver is on no cycle
    listed-apart : (i : ℕ) → i < n → (get_or flags i 0 ≡ 0 → ⊥) → Back refs i i → ⊥
    listed-apart i h ne b =
        let p = s.sorted.listed.has i h ne in
        never refs n flags order r s.sorted (suc p.0) p.0 i (omega arith) p.1 p.2 b

    pub apart : (c : ℕ) → Cyclic refs n flags c → (i : ℕ) → i < c → Back refs i i → ⊥
    apart c k i h b = by_eqb (get_or flags i 0) 0 (λ z. k.before i h z b) (λ ne. listed-apart i (omega (arith, k.most)) ne b)

    -- all are listed
    all-marked : r ≡ n → (i : ℕ) → i < n → get_or flags i 0 ≡ 0 → ⊥
    all-marked e i h z = omega (arith, s.sorted.listed.count, left-some flags i n h z)

    pub all_apart : r ≡ n → (i : ℕ) → i < n → Back refs i i → ⊥
    all_apart e i h b = listed-apart i h (all-marked e i h) b

    pub ordered : r ≡ n → Ordered ds refs order
    ordered e = record {
      each = λ p h. omega (arith, st.drivers, s.sorted.listed.each p (omega (arith, st.drivers)));
      all = λ i h.
          let k : i < n = omega (arith, st.drivers) in
          let p = s.sorted.listed.has i k (all-marked e i k) in
          (p.0, omega (arith, p.1, st.drivers), p.2);
      behind = λ p j h q le.
          let few : p < r = omega (arith, st.drivers) in
          let i = get_or order p 0 in
          let k : get_or order p 0 < n = s.sorted.listed.each p few in
          let four : length (uses_at ds (get_or order p 0)) ≤ 4 = st.pins (get_or ds (get_or order p 0) no_driver) (is-driver inputs ds nets ins n count st (get_or order p 0) k) in
          let b = s.sorted.behind p j (get_or refs (4 * get_or order p 0 + j) 0 - 12) few (omega arith, omega arith) in
          (b.0, b.1, omega (arith, b.2));
    }

    -- where one is left there is a cycle
    unmarked : ℕ → Bool
    unmarked i = eqb (get_or flags i 0) 0

    rest : List Driver
    rest = map (λ (i : ℕ). get_or ds i no_driver) (keep unmarked (below n))

    in_rest : (i : ℕ) → i < n → get_or flags i 0 ≡ 0 → Memᴰ (get_or ds i no_driver) rest
    unfolding rest unmarked
    in_rest i h z = map_in (λ (x : ℕ). get_or ds x no_driver) (keep_in unmarked (below_in n i h) (subst T (sym (eq-eqb (get_or flags i 0) 0 z)) tt))

    of_rest : (d : Driver) → Memᴰ d rest → (i : ℕ) × (i < n) × (get_or flags i 0 ≡ 0) × (d ≡ get_or ds i no_driver)
    unfolding rest unmarked
    of_rest d m =
        let a = map_out (λ (x : ℕ). get_or ds x no_driver) (keep unmarked (below n)) m in
        let b = keep_out unmarked (below n) a.1 in
        (a.0, below_out n a.0 b.0, eqb→eq (get_or flags a.0 0) 0 b.1, a.2)

    fed-rest : (d : Driver) → Memᴰ d rest → Fed rest d
    fed-rest d m =
        let a = of_rest d m in
        let t = s.stuck a.0 a.1 a.2 in
        let u = used a.0 t.0 t.1 a.1 t.2 in
        record {
          by = get_or ds t.1 no_driver;
          is_left = in_rest t.1 u.0 t.3;
          feeds = subst (λ (x : Driver). Memᴰ (net_at ds t.1) x.uses) (sym a.3) u.1;
        }

    sub_rest : (d : Driver) → Memᴰ d rest → Memᴰ d ds
    sub_rest d m = let a = of_rest d m in Memᴰ-cast a.3 (is-driver inputs ds nets ins n count st a.0 a.1)

    pub cycle-there : (r ≡ n → ⊥) → (c : ℕ) → Cyclic refs n flags c → c < n
    cycle-there ne c k = by_eqb c n
        (λ e.
        let i = left-any flags n (omega (arith, s.sorted.listed.count)) in
        absurd (none_left ds rest sub_rest (no_cycle_lem (λ x h. apart c k x (omega arith))) fed-rest (get_or ds i.0 no_driver) (in_rest i.0 i.1 i.2)))
        (λ q. omega (arith, k.most))
