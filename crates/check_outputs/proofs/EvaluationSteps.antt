-- A word more, by those before it:
--     filled_more         one more is stored, and those stored before stay
--     slot_same           a variable's word by those of variables ordered before it
--     driver-same         a driver's word by those of drivers that stand before it in the order
--     slot-.., pin-..     slots and pins by their tests
use Rattle.base.specs.{ℕ, ◌+◌, ◌-◌, ◌*◌, ◌/◌, ◌≤◌, ◌<◌, arith, ◌≡◌, refl, sym, ap, ◌∙◌, Bool, true, false, cond, List, [], ◌∷◌, eqb, leb}
use Rattle.base.specs.{length, get_or, set, get_or-set_same, get_or-set_other, leb-true, leb-false, le-leb, lt-leb, eq-eqb, ne_eqb}
use Rattle.theory_graph.proofs.{by_eqb}
use Rattle.base_words.specs.{left_at, right_at, slot_at}
use Rattle.cut_functions.specs.{Earlier}
use Rattle.check_outputs.specs.{input_word, gate_word, and_word, and_at, slot_word, Slots, SlotsStep, table_of, pins_of, ref_word, pin_word}
use Rattle.check_outputs.specs.{driver_word, DriversStep}

-- words that stand at given places, and one more
pub filled_more : (xs : List ℕ) (at values : ℕ → ℕ) (n x : ℕ) → at n < length xs → x ≡ values (at n) → ((i : ℕ) → i < n → get_or xs (at i) 0 ≡ values (at i))
    → (i : ℕ) → i < n + 1 → get_or (set xs (at n) x) (at i) 0 ≡ values (at i)
filled_more xs at values n x fits e before i h =
    by_eqb (at i) (at n)
    (λ q. ap (λ (j : ℕ). get_or (set xs (at n) x) j 0) q ∙ get_or-set_same xs (at n) x 0 fits ∙ e ∙ sym (ap values q))
    (λ d. get_or-set_other xs (at n) (at i) x 0 d ∙ before i (by_eqb i n (λ q. absurd (d (ap at q))) (λ z. omega arith)))

module _ (w : List ℕ) (m inputs n b : ℕ) (values : ℕ → ℕ) (t : SlotsStep w m inputs n b values) (i : ℕ) (h : i < n) (look : ℕ → ℕ)
    (known : (j : ℕ) → j < i → look (slot_at w m j) ≡ values (slot_at w m j)) where
  earlier-same : (u : ℕ) → Earlier w m i u → look u ≡ values u
  earlier-same u e = ap look (sym e.there) ∙ known e.slot e.before ∙ ap values e.there

  pub slot_same : slot_word w m inputs b look i ≡ values (slot_at w m i)
  unfolding slot_word and_at
  slot_same = go (eqb i 0) (leb i inputs) refl ∙ sym (t.step i h)
    where
      v : ℕ
      v = slot_at w m i

      go : (x y : Bool) → leb i inputs ≡ y → cond x 0 (cond y (input_word (i - 1) b) (and_at w m look (slot_at w m i))) ≡ cond x 0 (cond y (input_word (i - 1) b) (and_at w m values (slot_at w m i)))
      go true y e = refl
      go false true e = refl
      go false false e =
          let past : inputs < i = leb-false i inputs e in
          λ k. and_word (left_at w m v) (earlier-same (left_at w m v / 2) (t.left-earlier i past h) k) (right_at w m v) (earlier-same (right_at w m v / 2) (t.right-earlier i past h) k)

module _ (nets refs order : List ℕ) (n b : ℕ) (values : ℕ → ℕ) (t : DriversStep nets refs order n b values) (p : ℕ) (h : p < n) (look : ℕ → ℕ)
    (known : (q : ℕ) → q < p → look (get_or order q 0) ≡ values (get_or order q 0)) where
  pin-same : (j : ℕ) → pin_word refs (pins_of nets (get_or order p 0)) b look (get_or order p 0) j ≡ pin_word refs (pins_of nets (get_or order p 0)) b values (get_or order p 0) j
  unfolding pin_word ref_word
  pin-same j = go (leb (pins_of nets (get_or order p 0)) j) (leb 12 r) refl refl
    where
      r : ℕ
      r = get_or refs (4 * get_or order p 0 + j) 0

      go : (x y : Bool) → leb (pins_of nets (get_or order p 0)) j ≡ x → leb 12 r ≡ y → cond x 0 (cond y (look (r - 12)) (input_word r b)) ≡ cond x 0 (cond y (values (r - 12)) (input_word r b))
      go true y e f = refl
      go false false e f = refl
      go false true e f =
          let q = t.behind p j h (leb-false (pins_of nets (get_or order p 0)) j e) (leb-true 12 r f) in
          let at : get_or order q.0 0 ≡ r - 12 = omega (arith, q.2) in
          ap look (sym at) ∙ known q.0 q.1 ∙ ap values at

  pub driver-same : driver_word nets refs b look (get_or order p 0) ≡ values (get_or order p 0)
  unfolding driver_word
  driver-same = (λ k. gate_word (table_of nets (get_or order p 0)) (pin-same 0 k ∷ pin-same 1 k ∷ pin-same 2 k ∷ pin-same 3 k ∷ [])) ∙ sym (t.step p h)

-- ---- slots and pins by their tests

module _ (w : List ℕ) (m inputs b : ℕ) (look : ℕ → ℕ) (i : ℕ) where
  pub slot-zero : i ≡ 0 → 0 ≡ slot_word w m inputs b look i
  unfolding slot_word
  slot-zero e = rw (eq-eqb i 0 e)

  pub slot-input : ¬ (i ≡ 0) → i ≤ inputs → input_word (i - 1) b ≡ slot_word w m inputs b look i
  unfolding slot_word
  slot-input d h = rw (ne_eqb i 0 d, le-leb i inputs h)

  pub slot-and : ¬ (i ≡ 0) → inputs < i → and_at w m look (slot_at w m i) ≡ slot_word w m inputs b look i
  unfolding slot_word
  slot-and d h = rw (ne_eqb i 0 d, lt-leb i inputs h)

pub slots_less : (w : List ℕ) (m inputs n k : ℕ) → Slots w m inputs n → k ≤ n → Slots w m inputs k
slots_less w m inputs n k s h = record {
  capacity = s.capacity;
  within = omega (arith, s.within);
  few = s.few;
  slots = λ i l. s.slots i (omega arith);
  lefts = s.lefts;
  rights = s.rights;
}

module _ (refs : List ℕ) (count b : ℕ) (look : ℕ → ℕ) (i j : ℕ) where
  pub pin-none : count ≤ j → 0 ≡ pin_word refs count b look i j
  unfolding pin_word
  pin-none h = rw (le-leb count j h)

  module _ (h : j < count) (r : ℕ) (e : r ≡ get_or refs (4 * i + j) 0) where
    pin-there : ref_word b look r ≡ pin_word refs count b look i j
    unfolding pin_word
    pin-there = ap (ref_word b look) e ∙ rw (lt-leb count j h)

    pub pin-driver : 12 ≤ r → look (r - 12) ≡ pin_word refs count b look i j
    unfolding ref_word
    pin-driver l = ap (λ (x : Bool). cond x (look (r - 12)) (input_word r b)) (sym (le-leb 12 r l)) ∙ pin-there

    pub pin-input : r < 12 → input_word r b ≡ pin_word refs count b look i j
    unfolding ref_word
    pin-input l = ap (λ (x : Bool). cond x (look (r - 12)) (input_word r b)) (sym (lt-leb 12 r l)) ∙ pin-there
