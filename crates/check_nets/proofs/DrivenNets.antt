-- What the numbers say of the nets: the first two parts of 33, and the pins.
use Rattle.base.specs.{ℕ, ◌+◌, ◌-◌, ◌*◌, ◌≤◌, ◌<◌, lt_of_not-le, dec_le, arith, ◌≡◌, refl, sym, ap, subst, ◌∙◌, inl, inr, Bool, true, false}
use Rattle.base.specs.{not, cond, false≢true, None, Some, List, [], ◌++◌, map, Memᴰ, Memᴰ-append_cases, Memᴰ-append_left}
use Rattle.base.specs.{Memᴰ-append_right, Memᴰ-cast, T, length, get_or, le-leb, lt-leb}
use Rattle.model.specs.{any, Driver, is_net, among, first_line, driven_twice, undriven}
use Rattle.theory_graph.proofs.{map_in, map_out, get_or_in, any_none}
use Rattle.theory_check.proofs.{among_in, among_out}
use Rattle.check_names.specs.{code}
use Rattle.check_wires.specs.{pins_at, use_at, own_at, Drivers, Undriven, Driven, Pin, Row, UsesUndriven, Once, Rows}
use Rattle.check_nets.specs.{no_driver, net_of, Stored}
use Rattle.check_nets.specs.WiredNets.{Wired}
use Rattle.check_nets.proofs.DriverCodes.{code_same, stored-long, stored-pins, stored-own, stored_use}
use Rattle.check_nets.proofs.FirstLines.{mem-at, first_some, first-none, Before, twice-some, twice-none, any-true}

abbrev pub net_at : List Driver → ℕ → List ℕ
net_at ds i = (get_or ds i no_driver).net

abbrev pub uses_at : List Driver → ℕ → List (List ℕ)
uses_at ds i = (get_or ds i no_driver).uses

module _ (inputs : List (List ℕ)) (ds : List Driver) (nets ins : List ℕ) (n count : ℕ) (st : Stored inputs ds nets ins n count) where
  pub is-driver : (i : ℕ) → i < n → Memᴰ (get_or ds i no_driver) ds
  is-driver i h = get_or_in ds i no_driver (omega (arith, st.drivers))

  pub own_code : (i : ℕ) → i < n → own_at nets i ≡ code (net_at ds i)
  own_code i h = stored-own ds nets n st.drivers st.first i h

  own-net : (i : ℕ) → i < n → T (is_net (net_at ds i))
  own-net i h = st.own (get_or ds i no_driver) (is-driver i h)

  use_code : (i j : ℕ) → i < n → j < length (uses_at ds i) → use_at nets i j ≡ code (get_or (uses_at ds i) j [])
  use_code i j h q = stored_use ds nets n st.drivers st.first i j h q (st.pins (get_or ds i no_driver) (is-driver i h))

  use_net : (i j : ℕ) → i < n → j < length (uses_at ds i) → T (is_net (get_or (uses_at ds i) j []))
  use_net i j h q = st.used (get_or ds i no_driver) (is-driver i h) (get_or (uses_at ds i) j []) (get_or_in (uses_at ds i) j [] q)

  pub pins_are : (i : ℕ) → i < n → pins_at nets i ≡ length (uses_at ds i)
  pins_are i h = stored-pins ds nets n st.drivers st.first i h

  pub drivers_are : Drivers nets n count
  drivers_are = record {
    long = stored-long ds nets n st.drivers st.first;
    few = st.few;
    inputs = st.twelve;
    pins = λ i h. subst (λ (x : ℕ). x ≤ 4) (sym (pins_are i h)) (st.pins (get_or ds i no_driver) (is-driver i h));
  }

  -- what has a name's number has the name
  input-is : (x : List ℕ) → T (is_net x) → (k : ℕ) → k < count → get_or ins k 0 ≡ code x → get_or inputs k [] ≡ x
  input-is x t k h e = code_same (get_or inputs k []) x (st.names (get_or inputs k []) (get_or_in inputs k [] (omega (arith, st.counted)))) t (sym (st.codes k h) ∙ e)

  driver-is : (x : List ℕ) → T (is_net x) → (k : ℕ) → k < n → own_at nets k ≡ code x → net_at ds k ≡ x
  driver-is x t k h e = code_same (net_at ds k) x (own-net k h) t (sym (own_code k h) ∙ e)

  pub nets-same : (i k : ℕ) → i < n → k < n → net_at ds i ≡ net_at ds k → own_at nets i ≡ own_at nets k
  nets-same i k h q e = own_code i h ∙ ap code e ∙ sym (own_code k q)

  -- ---- "a net already driven"

  before-driven : (i : ℕ) → i < n → Driven nets ins count i (own_at nets i) → Before inputs ds i
  before-driven i h (inl q) =
      inl (Memᴰ-cast (sym (input-is (net_at ds i) (own-net i h) q.0 q.1 (q.2 ∙ own_code i h))) (get_or_in inputs q.0 [] (omega (arith, q.1, st.counted))))
  before-driven i h (inr q) = inr (q.0, q.1, driver-is (net_at ds i) (own-net i h) q.0 (omega (arith, q.1)) (q.2 ∙ own_code i h))

  before-undriven : (i : ℕ) → i < n → Undriven nets ins count i (own_at nets i) → Before inputs ds i → ⊥
  before-undriven i h u (inl m) =
      let k = mem-at (net_at ds i) [] inputs m in
      let few : k.0 < count = omega (arith, k.1, st.counted) in
      u.no_input k.0 few (st.codes k.0 few ∙ ap code k.2 ∙ sym (own_code i h))
  before-undriven i h u (inr q) = u.no_driver q.0 q.1 (nets-same q.0 i (omega (arith, q.1)) h q.2)

  pub twice-at : (r : ℕ) → r < n → Once nets ins count n r → driven_twice inputs ds ≡ Some (get_or ds r no_driver).offset
  twice-at r h o =
      twice-some inputs ds r (omega (arith, st.drivers)) (λ i q. before-undriven i (omega arith) (o.fresh i q)) (before-driven r h (o.twice_driven h))

  pub twice_nowhere : Once nets ins count n n → driven_twice inputs ds ≡ None
  twice_nowhere o = twice-none inputs ds (λ i q. let h : i < n = omega (arith, st.drivers) in before-undriven i h (o.fresh i h))

  -- ---- "a net that no line drives"

  driven : List (List ℕ)
  driven = inputs ++ map (λ (d : Driver). d.net) ds

  has_undriven : Driver → Bool
  has_undriven d = any (λ (x : List ℕ). not (among x driven)) d.uses

  undriven-first : undriven inputs ds ≡ first_line has_undriven ds
  unfolding undriven has_undriven driven
  undriven-first = refl

  -- what stands at a pin
  pub pin-input : (i j r : ℕ) → i < n → j < length (uses_at ds i) → Pin nets ins count n i j r → r < 12 → (r < count) × (get_or inputs r [] ≡ get_or (uses_at ds i) j [])
  pin-input i j r h q p lt =
      let o = p.input (omega (arith, pins_are i h)) lt in
      (o.0, input-is (get_or (uses_at ds i) j []) (use_net i j h q) r o.0 (o.1 ∙ use_code i j h q))

  pub pin-driver : (i j r : ℕ) → i < n → j < length (uses_at ds i) → Pin nets ins count n i j r → 12 ≤ r → (r - 12 < n) × (net_at ds (r - 12) ≡ get_or (uses_at ds i) j [])
  pin-driver i j r h q p le =
      let few : r - 12 < n = omega (arith, p.most) in
      (few, driver-is (get_or (uses_at ds i) j []) (use_net i j h q) (r - 12) few (p.driver (omega (arith, pins_are i h)) le ∙ use_code i j h q))

  driven-pin : (i j r : ℕ) → i < n → j < length (uses_at ds i) → Pin nets ins count n i j r → Memᴰ (get_or (uses_at ds i) j []) driven
  unfolding driven
  driven-pin i j r h q p = elim (dec_le 12 r) [
    | yes le ↦
        let o = pin-driver i j r h q p le in
        Memᴰ-append_right inputs (Memᴰ-cast (sym o.1) (map_in (λ (d : Driver). d.net) (is-driver (r - 12) o.0)))
    | no nle ↦
        let o = pin-input i j r h q p (lt_of_not-le nle) in
        Memᴰ-append_left (map (λ (d : Driver). d.net) ds) (Memᴰ-cast (sym o.1) (get_or_in inputs r [] (omega (arith, o.0, st.counted))))
  ]

  row_fine : (refs : List ℕ) (i : ℕ) → i < n → Row nets ins count n refs i → has_undriven (get_or ds i no_driver) ≡ true → ⊥
  unfolding has_undriven
  row_fine refs i h row e = false≢true (sym (any_none (λ (x : List ℕ). not (among x driven)) (uses_at ds i) (λ u m. fine u m)) ∙ e)
    where
      fine : (u : List ℕ) → Memᴰ u (uses_at ds i) → not (among u driven) ≡ false
      fine u m =
          let k = mem-at u [] (uses_at ds i) m in
          let four : length (uses_at ds i) ≤ 4 = st.pins (get_or ds i no_driver) (is-driver i h) in
          ap not (among_in u driven (Memᴰ-cast (sym k.2) (driven-pin i k.0 (get_or refs (4 * i + k.0) 0) h k.1 (row k.0 (omega (arith, k.1))))))

  undriven-not : (i j : ℕ) → i < n → j < length (uses_at ds i) → Undriven nets ins count n (use_at nets i j) → Memᴰ (get_or (uses_at ds i) j []) driven → ⊥
  unfolding driven
  undriven-not i j h q u m = elim (Memᴰ-append_cases inputs m) [
    | inl a ↦
        let k = mem-at (get_or (uses_at ds i) j []) [] inputs a in
        let few : k.0 < count = omega (arith, k.1, st.counted) in
        u.no_input k.0 few (st.codes k.0 few ∙ ap code k.2 ∙ sym (use_code i j h q))
    | inr a ↦
        let o = map_out (λ (d : Driver). d.net) ds a in
        let k = mem-at o.0 no_driver ds o.1 in
        let few : k.0 < n = omega (arith, k.1, st.drivers) in
        u.no_driver k.0 few (own_code k.0 few ∙ ap code (ap (λ (d : Driver). d.net) k.2 ∙ sym o.2) ∙ sym (use_code i j h q))
  ]

  row-undriven : (i : ℕ) → i < n → UsesUndriven nets ins count n i → has_undriven (get_or ds i no_driver) ≡ true
  unfolding has_undriven
  row-undriven i h l =
      let q : l.0 < length (uses_at ds i) = omega (arith, l.1, pins_are i h) in
      any-true (λ (x : List ℕ). not (among x driven)) (get_or (uses_at ds i) l.0 []) (uses_at ds i) (get_or_in (uses_at ds i) l.0 [] q)
      (out (among (get_or (uses_at ds i) l.0 []) driven) (λ t. undriven-not i l.0 h q l.2 (among_out (get_or (uses_at ds i) l.0 []) driven t)))
    where
      out : (b : Bool) → (T b → ⊥) → not b ≡ true
      out false f = refl
      out true f = absurd (f tt)

  pub undriven-at : (refs : List ℕ) (r : ℕ) → r < n → Rows nets ins count n r refs → undriven inputs ds ≡ Some (get_or ds r no_driver).offset
  undriven-at refs r h o =
      undriven-first
      ∙ first_some has_undriven ds r (omega (arith, st.drivers)) (λ i q. row_fine refs i (omega arith) (o.rows i q)) (row-undriven r h (o.has_undriven h))

  pub undriven_nowhere : (refs : List ℕ) → Rows nets ins count n n refs → undriven inputs ds ≡ None
  undriven_nowhere refs o = undriven-first ∙ first-none has_undriven ds (λ i q. let h : i < n = omega (arith, st.drivers) in row_fine refs i h (o.rows i h))

  -- ---- the pins

  pub pin-means : (i j r : ℕ) → i < n → j < length (uses_at ds i) → Pin nets ins count n i j r → net_of inputs ds r ≡ get_or (uses_at ds i) j []
  unfolding net_of
  pin-means i j r h q p = elim (dec_le 12 r) [
    | yes le ↦ ap (λ (b : Bool). cond b (net_at ds (r - 12)) (get_or inputs r [])) (le-leb 12 r le) ∙ (pin-driver i j r h q p le).1
    | no nle ↦ ap (λ (b : Bool). cond b (net_at ds (r - 12)) (get_or inputs r [])) (lt-leb 12 r (lt_of_not-le nle)) ∙ (pin-input i j r h q p (lt_of_not-le nle)).1
  ]

  pub wired : (refs : List ℕ) → Rows nets ins count n n refs → Wired inputs ds refs
  wired refs o = record {
    input_at = λ i j h q lt. omega (arith, (pin-input i j (get_or refs (4 * i + j) 0) (in_ds i h) q (pin i j h q) lt).0, st.counted);
    driver_at = λ i j h q. omega (arith, (pin i j h q).most, st.drivers);
    means = λ i j h q. pin-means i j (get_or refs (4 * i + j) 0) (in_ds i h) q (pin i j h q);
  }
    where
      in_ds : (i : ℕ) → i < length ds → i < n
      in_ds i h = omega (arith, st.drivers)

      pin : (i j : ℕ) → i < length ds → j < length (uses_at ds i) → Pin nets ins count n i j (get_or refs (4 * i + j) 0)
      pin i j h q =
          let four : length (uses_at ds i) ≤ 4 = st.pins (get_or ds i no_driver) (is-driver i (in_ds i h)) in
          o.rows i (in_ds i h) j (omega arith)
