-- A match by all 16 rows, against the test that the choice tries.
--     agrees_iff                  a cell fits a cut's function under an order and a mask exactly where it matches by the relation
use Rattle.base.specs.{ℕ, zero, suc, ◌+◌, ◌%◌, ◌/◌, ◌≤◌, ◌<◌, le_of_suc-le-suc, not-suc-le-zero, lt_of_not-le, dec_le, zero-add, arith, ◌≡◌, refl, sym, ◌∙◌}
use Rattle.base.specs.{ap, subst, ◌↔◌, Bool, true, false, not, cond, T, eqb, eqb→eq, eqb_no, List, [], ◌∷◌, map, length, get_or, length-map, get_or-map}
use Rattle.model.specs.{bit, flip, from, below, value, row_of, var_of, negated, cut_table, phase_table, fits, walk, IsCut}
use Rattle.model.specs.Graph.{Graph, span}
use Rattle.model.specs.declared.Cell.{Cell}
use Rattle.promises.specs.Covers.{At, CellMatch, PinsRow, RowAgrees}
use Rattle.theory_graph.specs.AcceptedGraph.{Accepted}
use Rattle.theory_graph.proofs.{bit-row, bit_high, length_from}
use Rattle.theory_cover.proofs.PinOrders.{pin_value, match_iff}
use Rattle.theory_relations.proofs.Places.{at_get, get_at}
use Rattle.theory_relations.proofs.Walks.{walk_iff}

-- ---- numbers by their bits

-- a number is known by its bits
bits_same : (fuel n m : ℕ) → n ≤ fuel → m ≤ fuel → ((j : ℕ) → bit n j ≡ bit m j) → n ≡ m
unfolding bit
bits_same zero n m h k b = omega arith
bits_same (suc fuel) n m h k b =
    let low : n % 2 ≡ m % 2 = go (eqb (n % 2) 1) (eqb (m % 2) 1) (eqb→eq (n % 2) 1) eqb_no (eqb→eq (m % 2) 1) eqb_no (b 0) in
    omega (arith, bits_same fuel (n / 2) (m / 2) (omega arith) (omega arith) (λ j. b (suc j)))
  where
    go : (s t : Bool) → (T s → n % 2 ≡ 1) → (T (not s) → ¬ (n % 2 ≡ 1)) → (T t → m % 2 ≡ 1) → (T (not t) → ¬ (m % 2 ≡ 1)) → s ≡ t → n % 2 ≡ m % 2
    go true true a a' c c' e = a tt ∙ sym (c tt)
    go true false a a' c c' e = absurd (let z : ◌≡◌ {A = ℕ} 0 1 = cc in omega arith)
    go false true a a' c c' e = absurd (let z : ◌≡◌ {A = ℕ} 0 1 = cc in omega arith)
    go false false a a' c c' e = let x = a' tt in let y = c' tt in omega arith

zero_bits : (j : ℕ) → bit 0 j ≡ false
unfolding bit
zero_bits zero = refl
zero_bits (suc j) = zero_bits j

row-high : (bs : List Bool) (j : ℕ) → length bs ≤ j → bit (row_of bs) j ≡ false
unfolding row_of
row-high [] j h = zero_bits j
row-high (b ∷ bs) zero h = absurd (not-suc-le-zero h)
row-high (b ∷ bs) (suc j) h = bit_high b (row_of bs) j ∙ row-high bs j (le_of_suc-le-suc h)

from_get : (n i j : ℕ) → j < n → get_or (from i n) j 0 ≡ i + j
unfolding from
from_get zero i j h = absurd (not-suc-le-zero h)
from_get (suc n) i zero h = omega arith
from_get (suc n) i (suc j) h = from_get n (suc i) j (le_of_suc-le-suc h) ∙ omega arith

flip_cond : (a b : Bool) → flip a b ≡ cond a (not b) b
unfolding flip
flip_cond true b = refl
flip_cond false b = refl

-- ---- the row of the pins

module _ (c : Cell) (m : CellMatch) (r : ℕ) (long : c.pins ≤ length m.order) where
  pins_row : ℕ
  pins_row = row_of (map (pin_value m.order m.mask r) (below c.pins))

  row_is : PinsRow c m r pins_row
  unfolding pins_row below
  row_is = record {
    pin = λ j p h a.
        bit-row (map (pin_value m.order m.mask r) (from 0 c.pins)) j (pin_value m.order m.mask r 0)
        (omega (arith, length-map (from 0 c.pins) (pin_value m.order m.mask r), length_from c.pins 0))
        ∙ get_or-map (pin_value m.order m.mask r) (from 0 c.pins) j 0
        ∙ ap (pin_value m.order m.mask r) (from_get c.pins 0 j h ∙ zero-add j)
        ∙ sym (flip_cond (bit m.mask j) (bit r (get_or m.order j 0))) ∙ ap (λ (q : ℕ). flip (bit m.mask j) (bit r q)) (at_get 0 a);
    absent = λ j h. row-high (map (pin_value m.order m.mask r) (from 0 c.pins)) j
        (omega (arith, length-map (from 0 c.pins) (pin_value m.order m.mask r), length_from c.pins 0));
  }

  row_one : (p q : ℕ) → PinsRow c m r p → PinsRow c m r q → p ≡ q
  row_one p q a b = bits_same (p + q) p q (omega arith) (omega arith) (λ j. elim (dec_le c.pins j) [
    | yes h ↦ a.absent j h ∙ sym (b.absent j h)
    | no h ↦
        let k : j < c.pins = lt_of_not-le h in
        let at = get_at m.order j 0 (omega arith) in
        a.pin j (get_or m.order j 0) k at ∙ sym (b.pin j (get_or m.order j 0) k at)
  ])

-- ---- a match

-- what `Matches` says of the mask, the places and the rows
pub record Agrees (g : Graph) (l : ℕ) (c : Cell) (m : CellMatch) : Type 0 where
  pub no_high_bit : (j : ℕ) → c.pins ≤ j → bit m.mask j ≡ false
  pub in_leaves : (j p : ℕ) → j < c.pins → At m.order j p → p < length m.cut
  pub rows : (r : ℕ) → r < 16 → RowAgrees g l c m r

module _ (g : Graph) (ok : Accepted g) (l : ℕ) (c : Cell) (m : CellMatch) (long : c.pins ≤ length m.order) (k : IsCut g (var_of l) m.cut) where
  abbrev computed : ℕ → Bool
  computed r = walk (span g) g m.cut r (var_of l)

  pub agrees_iff : T (fits c m.order m.mask (length m.cut) (phase_table (negated l) (cut_table g m.cut (var_of l)))) ↔ Agrees g l c m
  unfolding value pins_row
  agrees_iff =
      let e = match_iff c m.order m.mask g m.cut (var_of l) (negated l) long in (
        (λ t. let f = e.0 t in record {
          no_high_bit = f.no_high_bit;
          in_leaves = λ j p h a. subst (λ (q : ℕ). q < length m.cut) (at_get 0 a) (f.in_leaves j h);
          rows = λ r h. record {
            pins = pins_row c m r long;
            is_pins = row_is c m r long;
            function = computed r;
            is_function = (walk_iff g ok (var_of l) m.cut k r (computed r)).1 refl;
            agrees = flip_cond (negated l) (computed r) ∙ f.agrees r h;
          };
        }),
        (λ a. e.1 (record {
          no_high_bit = a.no_high_bit;
          in_leaves = λ j h. a.in_leaves j (get_or m.order j 0) h (get_at m.order j 0 (omega arith));
          agrees = λ r h. let o = a.rows r h in
              sym (flip_cond (negated l) (computed r)) ∙ ap (flip (negated l)) ((walk_iff g ok (var_of l) m.cut k r o.function).0 o.is_function)
              ∙ o.agrees ∙ ap (bit c.table) (row_one c m r long o.pins (pins_row c m r long) o.is_pins (row_is c m r long));
        })),
      )
