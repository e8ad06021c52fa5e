-- What is found is what is computed.
--     twice_referred, undriven_referred, whole_referred     the answer and what is left in the array, by what was found
use Rattle.base.specs.{ℕ, zero, suc, ◌+◌, ◌-◌, ◌*◌, ◌/◌, ◌%◌, ◌≤◌, ◌<◌, lt_of_not-le, div-add-mod', mod-lt, dec_le, arith, ◌≡◌, refl, sym}
use Rattle.base.specs.{ap, ap₂, subst, ◌∙◌, Bool, true, false, cond, true≢false, inl, inr, List, [], ◌∷◌, eqb, ltb, lit<, length, get_or}
use Rattle.base.specs.{replicate, lt-ltb, le-ltb, ltb-true, ltb-false, eq-eqb, ne_eqb}
use Rattle.theory_graph.proofs.{by_eqb}
use Rattle.check_wires.specs.{pins_at, use_at, own_at, first_from, values_from, driver_of, pin_of, is_driven_twice, uses_undriven, refused_at, ref_at}
use Rattle.check_wires.specs.{refs_left, Drivers, Undriven, Driven, Pin, Row, UsesUndriven, Once, Rows, Written, twice_driven, once, Referred}

-- ---- the first number at which a test holds

module _ (test : ℕ → Bool) where
  first-is : (i k r : ℕ) → i ≤ r → r ≤ i + k → ((m : ℕ) → i ≤ m → m < r → test m ≡ false) → (r < i + k → test r ≡ true) → first_from test i k ≡ r
  unfolding first_from
  first-is i zero r a b none some = omega arith
  first-is i (suc k) r a b none some =
      by_eqb i r
      (λ e. ap (λ (t : Bool). cond t i (first_from test (suc i) k)) (ap test e ∙ some (omega arith)) ∙ e)
      (λ ne. ap (λ (t : Bool). cond t i (first_from test (suc i) k)) (none i (omega arith) (omega arith))
      ∙ first-is (suc i) k r (omega arith) (omega arith) (λ m p q. none m (omega arith) q) (λ p. some (omega arith)))

  first-all : (k r : ℕ) → r ≤ k → ((m : ℕ) → m < r → test m ≡ false) → (r < k → test r ≡ true) → first_from test 0 k ≡ r
  first-all k r h none some = first-is 0 k r (omega arith) (omega arith) (λ m p q. none m q) (λ p. some (omega arith))

  first-most : (i k m : ℕ) → i ≤ m → m < i + k → test m ≡ true → first_from test i k ≤ m
  unfolding first_from
  first-most i zero m a b e = absurd (omega arith)
  first-most i (suc k) m a b e = pick (test i) refl (λ ne. first-most (suc i) k m (omega arith) (omega arith) e)
    where
      pick : (t : Bool) → test i ≡ t → ((i ≡ m → ⊥) → first_from test (suc i) k ≤ m) → cond t i (first_from test (suc i) k) ≤ m
      pick true p f = a
      pick false p f = f (λ q. true≢false (sym e ∙ ap test (sym q) ∙ p))

values_of : (f : ℕ → ℕ) (i : ℕ) (xs : List ℕ) → ((a : ℕ) → a < length xs → get_or xs a 0 ≡ f (i + a)) → xs ≡ values_from f i (length xs)
unfolding values_from
values_of f i [] h = refl
values_of f i (x ∷ xs) h =
    ap₂ (λ (y : ℕ) (ys : List ℕ). y ∷ ys) (h 0 (omega arith) ∙ ap f (let z : i + 0 ≡ i = omega arith in z))
    (values_of f (suc i) xs (λ a q. h (suc a) (omega arith) ∙ ap f (let z : i + suc a ≡ suc i + a = omega arith in z)))

-- ---- what drives a net

module _ (ws ins : List ℕ) (count i x : ℕ) where
  abbrev among : ℕ → Bool
  among m = eqb (get_or ins m 0) x

  abbrev owns : ℕ → Bool
  owns m = eqb (own_at ws m) x

  by_inputs : (k : ℕ) → first_from among 0 count ≡ k → driver_of ws ins count i x ≡ cond (ltb k count) k (12 + first_from owns 0 i)
  unfolding driver_of
  by_inputs k e = ap (λ (m : ℕ). cond (ltb m count) m (12 + first_from owns 0 i)) e

  no_inputs : ((k : ℕ) → k < count → get_or ins k 0 ≡ x → ⊥) → driver_of ws ins count i x ≡ 12 + first_from owns 0 i
  no_inputs none =
      by_inputs count (first-all among count count (omega arith) (λ m q. ne_eqb (get_or ins m 0) x (none m q)) (λ q. absurd (omega arith)))
      ∙ ap (λ (b : Bool). cond b count (12 + first_from owns 0 i)) (le-ltb count count (omega arith))

  driver-none : Undriven ws ins count i x → driver_of ws ins count i x ≡ 12 + i
  driver-none u =
      no_inputs u.no_input
      ∙ ap (λ (k : ℕ). 12 + k) (first-all owns i i (omega arith) (λ m q. ne_eqb (own_at ws m) x (u.no_driver m q)) (λ q. absurd (omega arith)))

  driver-input : (k : ℕ) → k < count → get_or ins k 0 ≡ x → ((m : ℕ) → m < k → get_or ins m 0 ≡ x → ⊥) → driver_of ws ins count i x ≡ k
  driver-input k h e none =
      by_inputs k (first-all among count k (omega arith) (λ m q. ne_eqb (get_or ins m 0) x (none m q)) (λ q. eq-eqb (get_or ins k 0) x e))
      ∙ ap (λ (b : Bool). cond b k (12 + first_from owns 0 i)) (lt-ltb k count h)

  driver-is : ((k : ℕ) → k < count → get_or ins k 0 ≡ x → ⊥) → (k : ℕ) → k < i → own_at ws k ≡ x → ((m : ℕ) → m < k → own_at ws m ≡ x → ⊥)
      → driver_of ws ins count i x ≡ 12 + k
  driver-is none k h e other =
      no_inputs none ∙ ap (λ (m : ℕ). 12 + m) (first-all owns i k (omega arith) (λ m q. ne_eqb (own_at ws m) x (other m q)) (λ q. eq-eqb (own_at ws k) x e))

  driver_less : count ≤ 12 → Driven ws ins count i x → driver_of ws ins count i x < 12 + i
  driver_less few d =
      subst (λ (r : ℕ). r < 12 + i) (sym (by_inputs (first_from among 0 count) refl)) (pick (ltb (first_from among 0 count) count) refl d)
    where
      pick : (b : Bool) → ltb (first_from among 0 count) count ≡ b → Driven ws ins count i x → cond b (first_from among 0 count) (12 + first_from owns 0 i) < 12 + i
      pick true p q = omega (arith, ltb-true (first_from among 0 count) count p)
      pick false p (inl (k, h, e)) = absurd (omega (arith, ltb-false (first_from among 0 count) count p, first-most among 0 count k (omega arith) (omega arith) (eq-eqb (get_or ins k 0) x e)))
      pick false p (inr (k, h, e)) = omega (arith, first-most owns 0 i k (omega arith) (omega arith) (eq-eqb (own_at ws k) x e))

-- ---- the two parts of 33

module _ (ws ins : List ℕ) (count n : ℕ) (all : Drivers ws n count) where
  not-twice : (i : ℕ) → Undriven ws ins count i (own_at ws i) → is_driven_twice ws ins count i ≡ false
  unfolding is_driven_twice
  not-twice i u = le-ltb (driver_of ws ins count i (own_at ws i)) (12 + i) (omega (arith, driver-none ws ins count i (own_at ws i) u))

  is-twice : (i : ℕ) → Driven ws ins count i (own_at ws i) → is_driven_twice ws ins count i ≡ true
  unfolding is_driven_twice
  is-twice i d = lt-ltb (driver_of ws ins count i (own_at ws i)) (12 + i) (driver_less ws ins count i (own_at ws i) all.inputs d)

  once_is : (r : ℕ) → Once ws ins count n r → first_from (is_driven_twice ws ins count) 0 n ≡ r
  once_is r o = first-all (is_driven_twice ws ins count) n r o.most (λ i h. not-twice i (o.fresh i h)) (λ h. is-twice r (o.twice_driven h))

  refused-twice : (r : ℕ) → r < n → Once ws ins count n r → r ≡ refused_at ws ins count n
  unfolding refused_at
  refused-twice r h o =
      sym (ap (λ (t : ℕ). cond (ltb t n) t (first_from (uses_undriven ws ins count n) 0 n)) (once_is r o)
      ∙ ap (λ (b : Bool). cond b r (first_from (uses_undriven ws ins count n) 0 n)) (lt-ltb r n h))

  left-refused : (r : ℕ) (before : List ℕ) → r < n → r ≡ refused_at ws ins count n → replicate 43692 0 ≡ refs_left ws ins count n before
  unfolding refs_left
  left-refused r before h e =
      sym (ap (λ (b : Bool). cond b (replicate 43692 0) (values_from (ref_at ws ins count n before) 0 (length before))) (lt-ltb (refused_at ws ins count n) n (omega arith)))

  pub twice_referred : (r : ℕ) (before : List ℕ) → r < n → Once ws ins count n r → Referred ws ins count n r before (replicate 43692 0)
  twice_referred r before h o =
      let is = refused-twice r h o in
      record { is = is; left = left-refused r before h is; written = before; first = twice_driven h o; whole = λ le. absurd (omega arith); none = λ _. refl }

  module _ (o : Once ws ins count n n) where
    pin-is : (i j r : ℕ) → Pin ws ins count n i j r → r ≡ pin_of ws ins count n i j
    unfolding pin_of
    pin-is i j r p = pick (ltb j (pins_at ws i)) refl
      where
        fed : j < pins_at ws i → 12 ≤ r → r ≡ driver_of ws ins count n (use_at ws i j)
        fed h q =
            let inside : r - 12 < n = omega (arith, p.most) in
            let own : own_at ws (r - 12) ≡ use_at ws i j = p.driver h q in
            let f = o.fresh (r - 12) inside in
            let is : driver_of ws ins count n (use_at ws i j) ≡ 12 + (r - 12) =
            driver-is ws ins count n (use_at ws i j) (λ k l e. f.no_input k l (e ∙ sym own)) (r - 12) inside own (λ m l e. f.no_driver m l (e ∙ sym own)) in
            omega arith

        given : j < pins_at ws i → r < 12 → r ≡ driver_of ws ins count n (use_at ws i j)
        given h q = let t = p.input h q in sym (driver-input ws ins count n (use_at ws i j) r t.0 t.1 t.2)

        pick : (b : Bool) → ltb j (pins_at ws i) ≡ b → r ≡ cond b (driver_of ws ins count n (use_at ws i j)) 0
        pick false e = p.past (ltb-false j (pins_at ws i) e)
        pick true e = let h = ltb-true j (pins_at ws i) e in elim (dec_le 12 r) [ yes q ↦ fed h q | no q ↦ given h (lt_of_not-le q) ]

    not-undriven : (i : ℕ) (refs : List ℕ) → Row ws ins count n refs i → uses_undriven ws ins count n i ≡ false
    unfolding uses_undriven
    not-undriven i refs row =
        ap (λ (k : ℕ). ltb k 4)
        (first-all (λ j. eqb (pin_of ws ins count n i j) (12 + n)) 4 4 (omega arith)
        (λ j h. ne_eqb (pin_of ws ins count n i j) (12 + n) (λ e. omega (arith, (row j h).most, pin-is i j (get_or refs (4 * i + j) 0) (row j h))))
        (λ h. absurd (omega arith)))

    is-undriven : (i : ℕ) → i < n → UsesUndriven ws ins count n i → uses_undriven ws ins count n i ≡ true
    unfolding uses_undriven pin_of
    is-undriven i inside (j, h, u) =
        let few : pins_at ws i ≤ 4 = all.pins i inside in
        let at : pin_of ws ins count n i j ≡ 12 + n =
        ap (λ (b : Bool). cond b (driver_of ws ins count n (use_at ws i j)) 0) (lt-ltb j (pins_at ws i) h) ∙ driver-none ws ins count n (use_at ws i j) u in
        lt-ltb (first_from (λ j. eqb (pin_of ws ins count n i j) (12 + n)) 0 4) 4
        (omega (arith, first-most (λ j. eqb (pin_of ws ins count n i j) (12 + n)) 0 4 j (omega arith) (omega arith) (eq-eqb (pin_of ws ins count n i j) (12 + n) at)))

    rows_are : (r : ℕ) (refs : List ℕ) → Rows ws ins count n r refs → first_from (uses_undriven ws ins count n) 0 n ≡ r
    rows_are r refs w = first-all (uses_undriven ws ins count n) n r w.most (λ i h. not-undriven i refs (w.rows i h)) (λ h. is-undriven r h (w.has_undriven h))

    refused-undriven : (r : ℕ) (refs : List ℕ) → Rows ws ins count n r refs → r ≡ refused_at ws ins count n
    unfolding refused_at
    refused-undriven r refs w =
        sym (ap (λ (t : ℕ). cond (ltb t n) t (first_from (uses_undriven ws ins count n) 0 n)) (once_is n o)
        ∙ ap (λ (b : Bool). cond b n (first_from (uses_undriven ws ins count n) 0 n)) (le-ltb n n (omega arith)) ∙ rows_are r refs w)

    -- ---- what is left in the array

    at_place : (before refs : List ℕ) → Written ws ins count n n before refs → (a : ℕ) → get_or refs a 0 ≡ ref_at ws ins count n before a
    unfolding ref_at
    at_place before refs w a = pick (ltb a (4 * n)) refl
      where
        split : 4 * (a / 4) + a % 4 ≡ a
        split = omega (arith, div-add-mod' a 4)

        small : a % 4 < 4
        small = mod-lt a (lit< tt)

        pick : (b : Bool) → ltb a (4 * n) ≡ b → get_or refs a 0 ≡ cond b (pin_of ws ins count n (a / 4) (a % 4)) (get_or before a 0)
        pick true e =
            let h : a < 4 * n = ltb-true a (4 * n) e in
            sym (ap (λ (k : ℕ). get_or refs k 0) split) ∙ pin-is (a / 4) (a % 4) (get_or refs (4 * (a / 4) + a % 4) 0) (w.rows.rows (a / 4) (omega (arith, split)) (a % 4) small)
        pick false e = w.behind a (ltb-false a (4 * n) e)

    left-whole : (before refs : List ℕ) → Written ws ins count n n before refs → refs ≡ refs_left ws ins count n before
    unfolding refs_left
    left-whole before refs w =
        values_of (ref_at ws ins count n before) 0 refs (λ a h. at_place before refs w a ∙ ap (ref_at ws ins count n before) (let z : a ≡ 0 + a = omega arith in z))
        ∙ ap (λ (k : ℕ). values_from (ref_at ws ins count n before) 0 k) w.long
        ∙ sym (ap (λ (b : Bool). cond b (replicate 43692 0) (values_from (ref_at ws ins count n before) 0 (length before)))
        (le-ltb (refused_at ws ins count n) n (omega (arith, refused-undriven n refs w.rows))))

    pub undriven_referred : (r : ℕ) (before mid : List ℕ) → r < n → Written ws ins count n r before mid → Referred ws ins count n r before (replicate 43692 0)
    undriven_referred r before mid h w =
        let is = refused-undriven r mid w.rows in
        record { is = is; left = left-refused r before h is; written = mid; first = once o w.rows; whole = λ le. absurd (omega arith); none = λ _. refl }

    pub whole_referred : (r : ℕ) (before mid : List ℕ) → n ≤ r → Written ws ins count n r before mid → Referred ws ins count n r before mid
    whole_referred r before mid h w =
        let e : r ≡ n = omega (arith, w.rows.most) in record {
          is = refused-undriven r mid w.rows;
          left = left-whole before mid (subst (λ (k : ℕ). Written ws ins count n k before mid) e w);
          written = mid;
          first = once o w.rows;
          whole = λ le. refl;
          none = λ lt. absurd (omega arith);
        }
