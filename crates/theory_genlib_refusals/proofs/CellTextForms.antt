-- The cell of a gate that passes 22 and 23: `gate_of` gives the one that the forms say, and none exactly where there is none, which 24 refuses.
use Rattle.base.specs.{ℕ, zero, suc, ◌+◌, ◌/◌, ◌%◌, ◌^◌, ◌≤◌, ◌<◌, arith, ◌≡◌, refl, sym, ◌∙◌, ap, subst, Bool, true, false, not, cond}
use Rattle.base.specs.{Option, Some, List, [], ◌∷◌, map, Memᴰ, Memᴰ-head, Memᴰ-tail, Memᴰ-not-nil, Memᴰ-append_left}
use Rattle.base.specs.{Memᴰ-append_right, T, eqb, ltb, T_not, not_T, ltb→lt, nltb→le, lit<, length, get_or, drop, eqb_yes, yes_eqb, yes_ltb}
use Rattle.base.specs.{no_ltb}
use Rattle.model.specs.{bit, same, and_then, text, Distinct, tokens, thousandths, pins_of, shallow, name_value, index_of, const0, const1, Part}
use Rattle.model.specs.{factor, HasValue, Group, pin_line, delay_of, pin_delay, delays_of, table_of, line_tokens, formula_of, gate_from}
use Rattle.model.specs.GenlibFormula.{value_of}
use Rattle.model.specs.GenlibDemands.{sum}
use Rattle.model.specs.Genlib.{Gate, gate_of}
use Rattle.model.proofs.{table-value, table-above}
use Rattle.theory_graph.proofs.{same-eq, same_refl, is_true, is_false, get_or_in}
use Rattle.theory_text.proofs.{then_out}
use Rattle.theory_genlib.proofs.{some-once, value-once, group_value}
use Rattle.theory_refusals.proofs.{on}
use Rattle.promises.specs.GateForms.{Named, Worth, named, bracketed, sign_negated, primed, one, times, alone, plus, PinName, RowValue}
use Rattle.promises.specs.GateForms.{zero_value, one_value, pin_value, GateSays, PinSays, Delay}
use Rattle.promises.specs.GateRefusals.{Small, IsGate}
use Rattle.theory_genlib_refusals.proofs.PinOrder.{pins-order, order-once}
use Rattle.theory_genlib_refusals.proofs.FigureForms.{thousandths_form, thousandths-back}
use Rattle.theory_genlib_refusals.proofs.PinForms.{delay_form, delay_back}
use Rattle.theory_genlib_refusals.proofs.HeadForms.{HeadIs, head-is}
use Rattle.theory_genlib_refusals.proofs.FormulaForms.{worth_means, pins-before, shallow_exactly}
use Rattle.theory_genlib_refusals.proofs.GroupForms.{FormedLines, formed_exactly}

-- ---- a number is its bits

low_bit : (n m : ℕ) → eqb (n % 2) 1 ≡ eqb (m % 2) 1 → n % 2 ≡ m % 2
low_bit n m e = let yes : T (eqb (n % 2) 1) → n % 2 ≡ m % 2 = λ t. eqb_yes t ∙ sym (eqb_yes (subst T e t)) in on (eqb (n % 2) 1) yes no
  where
    no : T (not (eqb (n % 2) 1)) → n % 2 ≡ m % 2
    no t = (zero_left (n % 2) (omega arith) (λ q. T_not (eqb (n % 2) 1) t (yes_eqb q)))
        ∙ sym (zero_left (m % 2) (omega arith) (λ q. T_not (eqb (n % 2) 1) t (subst T (sym e) (yes_eqb q))))
      where
        zero_left : (x : ℕ) → x < 2 → ¬ (x ≡ 1) → x ≡ 0
        zero_left zero h f = refl
        zero_left (suc zero) h f = absurd (f refl)
        zero_left (suc (suc x)) h f = absurd (omega arith)

pub bits_once : (k n m : ℕ) → n ≤ k → m ≤ k → ((i : ℕ) → bit n i ≡ bit m i) → n ≡ m
unfolding bit
bits_once zero n m h l f = omega arith
bits_once (suc k) n m h l f = omega (arith, bits_once k (n / 2) (m / 2) (omega arith) (omega arith) (λ i. f (suc i)), low_bit n m (f 0))

-- ---- names in a row

index_in : (t : List ℕ) (xs : List (List ℕ)) → Memᴰ t xs → (index_of t xs < length xs) × (get_or xs (index_of t xs) [] ≡ t)
unfolding index_of
index_in t [] m = absurd (Memᴰ-not-nil m)
index_in t (x ∷ xs) m = go (same t x) refl m (index_in t xs)
  where
    go : (b : Bool) → same t x ≡ b → Memᴰ t (x ∷ xs) → (Memᴰ t xs → (index_of t xs < length xs) × (get_or xs (index_of t xs) [] ≡ t))
        → (cond b 0 (suc (index_of t xs)) < suc (length xs)) × (get_or (x ∷ xs) (cond b 0 (suc (index_of t xs))) [] ≡ t)
    go true e n r = (omega arith, sym (same-eq t x (subst T (sym e) tt)))
    go false e (Memᴰ-head q) r = absurd (subst T e (subst (λ (y : List ℕ). T (same t y)) q (same_refl t)))
    go false e (Memᴰ-tail n) r = let p = r n in let h : index_of t xs < length xs = p.0 in (omega arith, p.1)

-- a name's value in a row is the one that `name_value` gives it
row-value : (ps : List (List ℕ)) (r : ℕ) (t : List ℕ) → Named t → (PinName t → Memᴰ t ps) → ((p : List ℕ) → Memᴰ p ps → PinName p) → RowValue ps r t (name_value ps r t)
unfolding name_value const0 const1
row-value ps r t n f g = on (same t const0) zeros (λ a. on (same t const1) (λ y. unfold name_value const1 in rw (is_false (same t const0) a)
    (rw (is_true (same t const1) y) (rw (same-eq t (text "CONST1") y) one_value))) (λ x. unfold name_value const0 const1 in
    let no0 : ¬ (t ≡ text "CONST0") = λ e. T_not (same t const0) a (subst (λ (x : List ℕ). T (same t x)) e (same_refl t)) in
    let no1 : ¬ (t ≡ text "CONST1") = λ e. T_not (same t const1) x (subst (λ (x : List ℕ). T (same t x)) e (same_refl t)) in
    let p : PinName t = record { is_name = n; not_zero = no0; not_one = no1 } in let i = index_in t ps (f p) in subst
    (λ (c : Bool). RowValue ps r t (cond c false (cond (same t const1) true (bit r (index_of t ps))))) (sym (is_false (same t const0) a))
    (subst (λ (c : Bool). RowValue ps r t (cond c true (bit r (index_of t ps)))) (sym (is_false (same t const1) x))
    (subst (λ (x : List ℕ). RowValue ps r x (bit r (index_of t ps))) i.1
    (pin_value {j = index_of t ps} i.0 (subst PinName (sym i.1) p))))))
  where
    zeros : T (same t const0) → RowValue ps r t (name_value ps r t)
    zeros s = unfold name_value const0 in rw (is_true (same t const0) s) (rw (same-eq t (text "CONST0") s) zero_value)

-- an expression's value depends on its names' alone
worth_names : {value other : List ℕ → Bool} {k : ℕ} {p : Part} {ts : List (List ℕ)} {v : Bool} → ((t : List ℕ) → Memᴰ t ts → Named t → value t ≡ other t) → Worth value k p ts v → Worth other k p ts v
worth_names {value} {other} f (named {k} {t} n) = subst (λ (b : Bool). Worth other k factor (t ∷ []) b) (sym (f t (Memᴰ-head refl) n)) (named n)
worth_names f (bracketed {ts = ts} w) = bracketed (worth_names (λ t m n. f t (Memᴰ-tail (Memᴰ-append_left ((41 ∷ []) ∷ []) m)) n) w)
worth_names f (sign_negated w) = sign_negated (worth_names (λ t m n. f t (Memᴰ-tail m) n) w)
worth_names f (primed {ts = ts} w) = primed (worth_names (λ t m n. f t (Memᴰ-append_left ((39 ∷ []) ∷ []) m) n) w)
worth_names f (one w) = one (worth_names f w)
worth_names f (times {ts = ts} {us} w x) = times (worth_names (λ t m n. f t (Memᴰ-append_left ((42 ∷ []) ∷ us) m) n) w) (worth_names (λ t m n. f t (Memᴰ-append_right ts (Memᴰ-tail m)) n) x)
worth_names f (alone w) = alone (worth_names f w)
worth_names f (plus {ts = ts} {us} w x) = plus (worth_names (λ t m n. f t (Memᴰ-append_left ((43 ∷ []) ∷ us) m) n) w) (worth_names (λ t m n. f t (Memᴰ-append_right ts (Memᴰ-tail m)) n) x)

index_of_lem : (xs : List (List ℕ)) (j : ℕ) → Distinct xs → j < length xs → index_of (get_or xs j []) xs ≡ j
unfolding index_of
index_of_lem [] j d h = absurd (omega arith)
index_of_lem (x ∷ xs) zero d h = ap (λ (b : Bool). cond b 0 (suc (index_of x xs))) (is_true (same x x) (same_refl x))
index_of_lem (x ∷ xs) (suc j) d h = cc (
  is_false (same (get_or xs j []) x)
      (not_T (same (get_or xs j []) x) (λ t. d.0 (rw (← same-eq (get_or xs j []) x t) (get_or_in xs j [] (omega arith))))),
  index_of_lem xs j d.1
      (omega arith),
)

value_row : (ps : List (List ℕ)) (r : ℕ) → Distinct ps → (t : List ℕ) (v : Bool) → RowValue ps r t v → name_value ps r t ≡ v
unfolding name_value const0 const1 same
value_row ps r d t v zero_value = refl
value_row ps r d t v one_value = refl
value_row ps r d t v (pin_value {j} h n) = cc (
  is_false (same (get_or ps j []) const0)
      (not_T (same (get_or ps j []) const0) (λ q. n.not_zero (same-eq (get_or ps j []) const0 q))),
  is_false (same (get_or ps j []) const1)
      (not_T (same (get_or ps j []) const1) (λ q. n.not_one (same-eq (get_or ps j []) const1 q))),
  index_of_lem ps j d h,
)

-- ---- four delays

module _ (lines : List (List (List ℕ))) (names : List (List ℕ)) where
  delays_out : (ds : List ℕ) → delays_of lines names ≡ Some ds → (length ds ≡ 4) × ((j : ℕ) → j < 4 → pin_delay lines names j ≡ Some (get_or ds j 0))
  unfolding delays_of
  delays_out ds e =
      let a = then_out (pin_delay lines names 0) _ ds e in
      let b = then_out (pin_delay lines names 1) _ ds a.2 in
      let c = then_out (pin_delay lines names 2) _ ds b.2 in
      let d = then_out (pin_delay lines names 3) _ ds c.2 in
      let q : a.0 ∷ b.0 ∷ c.0 ∷ d.0 ∷ [] ≡ ds = some-once d.2 in
      (ap length (sym q), λ j h. subst (λ (x : List ℕ). pin_delay lines names j ≡ Some (get_or x j 0)) q (go a.0 b.0 c.0 d.0 a.1 b.1 c.1 d.1 j h))
    where
      go : (a b c d : ℕ) → pin_delay lines names 0 ≡ Some a → pin_delay lines names 1 ≡ Some b → pin_delay lines names 2 ≡ Some c → pin_delay lines names 3 ≡ Some d
          → (j : ℕ) → j < 4 → pin_delay lines names j ≡ Some (get_or (a ∷ b ∷ c ∷ d ∷ []) j 0)
      go a b c d x y z w zero h = x
      go a b c d x y z w (suc zero) h = y
      go a b c d x y z w (suc (suc zero)) h = z
      go a b c d x y z w (suc (suc (suc zero))) h = w
      go a b c d x y z w (suc (suc (suc (suc j)))) h = absurd (omega arith)

  delays_in_lem : (ds : List ℕ) → length ds ≡ 4 → ((j : ℕ) → j < 4 → pin_delay lines names j ≡ Some (get_or ds j 0)) → delays_of lines names ≡ Some ds
  unfolding delays_of and_then
  delays_in_lem [] l f = absurd (omega arith)
  delays_in_lem (a ∷ []) l f = absurd (omega arith)
  delays_in_lem (a ∷ b ∷ []) l f = absurd (omega arith)
  delays_in_lem (a ∷ b ∷ c ∷ []) l f = absurd (omega arith)
  delays_in_lem (a ∷ b ∷ c ∷ d ∷ []) l f = cc (f 0 (lit< tt), f 1 (lit< tt), f 2 (lit< tt), f 3 (lit< tt))
  delays_in_lem (a ∷ b ∷ c ∷ d ∷ e ∷ ds) l f = absurd (omega arith)

  here : (j : ℕ) → j < length names → pin_delay lines names j ≡ and_then (pin_line (get_or names j []) lines) delay_of
  unfolding pin_delay
  here j h = ap (λ (b : Bool). cond b (and_then (pin_line (get_or names j []) lines) delay_of) (Some 0)) (is_true (ltb j (length names)) (yes_ltb h))

  away : (j : ℕ) → length names ≤ j → pin_delay lines names j ≡ Some 0
  unfolding pin_delay
  away j h = ap (λ (b : Bool). cond b (and_then (pin_line (get_or names j []) lines) delay_of) (Some 0)) (is_false (ltb j (length names)) (no_ltb h))

past : (ds : List ℕ) → length ds ≡ 4 → (j : ℕ) → 4 ≤ j → get_or ds j 0 ≡ 0
past [] l j h = absurd (omega arith)
past (a ∷ []) l j h = absurd (omega arith)
past (a ∷ b ∷ []) l j h = absurd (omega arith)
past (a ∷ b ∷ c ∷ []) l j h = absurd (omega arith)
past (a ∷ b ∷ c ∷ d ∷ []) l zero h = absurd (omega arith)
past (a ∷ b ∷ c ∷ d ∷ []) l (suc zero) h = absurd (omega arith)
past (a ∷ b ∷ c ∷ d ∷ []) l (suc (suc zero)) h = absurd (omega arith)
past (a ∷ b ∷ c ∷ d ∷ []) l (suc (suc (suc zero))) h = absurd (omega arith)
past (a ∷ b ∷ c ∷ d ∷ []) l (suc (suc (suc (suc j)))) h = refl
past (a ∷ b ∷ c ∷ d ∷ e ∷ ds) l j h = absurd (omega arith)

-- ---- the cell

module _ (g : Group) (h : GateSays) (ps : List PinSays) (pins : List (List ℕ)) (short : length g.head.bytes ≤ 65536) (f : FormedLines g h ps) (s : Small h pins) where
  is : HeadIs (tokens g.head.bytes) h
  is = head-is f.is_head

  abbrev lines : List (List (List ℕ))
  lines = map line_tokens g.lines

  are_pins : pins_of (drop 5 (tokens g.head.bytes)) ≡ pins
  are_pins = ap pins_of is.formula ∙ pins-before h.formula ∙ order-once h.formula (pins_of h.formula) pins (pins-order h.formula) s.are_ordered

  -- the value that is written in a row, by the grammar
  read-value : (value : List ℕ → Bool) → HasValue value (drop 5 (tokens g.head.bytes)) (value_of value (drop 5 (tokens g.head.bytes)))
  read-value value = unfold formula_of line_tokens in group_value g short ((formed_exactly g).1 (h, ps, f))
      (rw is.formula ((shallow_exactly 16 h.formula s.shallow).1 s.shallow)) value

  one_value_lem : (value : List ℕ → Bool) (v : Bool) → Worth value 16 sum h.formula v → v ≡ value_of value (drop 5 (tokens g.head.bytes))
  one_value_lem value v w =
      value-once value (drop 5 (tokens g.head.bytes)) v (value_of value (drop 5 (tokens g.head.bytes))) (record { expression = h.formula; is_all = is.formula; means = worth_means w }) (read-value value)

  row_worth : (r : ℕ) (value : List ℕ → Bool) → ((t : List ℕ) (v : Bool) → RowValue pins r t v → value t ≡ v) → Worth value 16 sum h.formula (value_of (name_value pins r) (drop 5 (tokens g.head.bytes)))
  row_worth r value c =
      let d = s.shallow (name_value pins r) in
      worth_names (λ t m n. sym (c t (name_value pins r t) (row-value pins r t n (λ p. (s.are_ordered.pins t).1 (m, p)) (λ p k. ((s.are_ordered.pins p).0 k).1))))
      (subst (λ (b : Bool). Worth (name_value pins r) 16 sum h.formula b) (one_value_lem (name_value pins r) d.0 d.1) d.1)

  table-row : (r : ℕ) → r < 2 ^ length pins → bit (table_of (drop 5 (tokens g.head.bytes))) r ≡ value_of (name_value pins r) (drop 5 (tokens g.head.bytes))
  table-row r k = cc (table-value (drop 5 (tokens g.head.bytes)) r (rw are_pins k), are_pins)

  table_none : (r : ℕ) → 2 ^ length pins ≤ r → bit (table_of (drop 5 (tokens g.head.bytes))) r ≡ false
  table_none r k = table-above (drop 5 (tokens g.head.bytes)) r (subst (λ (x : List (List ℕ)). 2 ^ length x ≤ r) (sym are_pins) k)

  -- d0 to d3, by the pins in order
  delay_there : (ds : List ℕ) → delays_of lines pins ≡ Some ds → (length ds ≡ 4) × ((j : ℕ) → j < length pins → Delay (get_or pins j []) ps (get_or ds j 0)) × ((j : ℕ) → length pins ≤ j → get_or ds j 0 ≡ 0)
  delay_there ds e =
      let o = delays_out lines pins ds e in (
        o.0,
        (λ j k. delay_form (get_or pins j []) f.are_lines (get_or ds j 0)
            (sym (here lines pins j k) ∙ o.1 j (let z : j < 4 = omega (arith, s.few) in z))),
        λ j k.
            (on (ltb j 4) (λ t. sym (some-once (sym (away lines pins j k) ∙ o.1 j (ltb→lt j 4 t)))) (λ t. past ds o.0 j (nltb→le j 4 t))),
      )

  -- the gate of an area and delays
  gate_with : ℕ → List ℕ → Gate
  gate_with area delays =
      record { name = get_or (tokens g.head.bytes) 1 []; pins = length (pins_of (drop 5 (tokens g.head.bytes))); table = table_of (drop 5 (tokens g.head.bytes)); area = area; delays = delays }

  pub cell_form : (c : Gate) → gate_of g ≡ Some c → IsGate h ps pins c
  unfolding gate_of gate_from line_tokens gate_with
  cell_form c e =
      let a = then_out (thousandths (get_or (tokens g.head.bytes) 2 [])) (λ area. and_then (delays_of lines (pins_of (drop 5 (tokens g.head.bytes)))) (λ delays. Some (gate_with area delays))) c e in
      let b = then_out (delays_of lines (pins_of (drop 5 (tokens g.head.bytes)))) (λ delays. Some (gate_with a.0 delays)) c a.2 in
      subst (IsGate h ps pins) (some-once b.2) (
      let n : length (pins_of (drop 5 (tokens g.head.bytes))) ≡ length pins = ap length are_pins in let w = delay_there b.0
      (subst (λ (x : List (List ℕ)). delays_of lines x ≡ Some b.0) are_pins b.1) in record {
        name = is.name;
        area = thousandths_form h.area a.0 (subst (λ (x : List ℕ). thousandths x ≡ Some a.0) is.area a.1);
        number = n;
        rows = λ r k value c. subst (λ (b : Bool). Worth value 16 sum h.formula b) (sym (table-row r (subst (λ (x : ℕ). r < 2 ^ x) n k)))
            (row_worth r value c);
        above = λ r k. table_none r (subst (λ (x : ℕ). 2 ^ x ≤ r) n k);
        four = w.0;
        delays = λ j k. w.1 j (subst (λ (x : ℕ). j < x) n k);
        absent = λ j k. w.2 j (subst (λ (x : ℕ). x ≤ j) n k);
      })

  -- a table with these rows is the one that is written
  one_table : (c : Gate) → IsGate h ps pins c → table_of (drop 5 (tokens g.head.bytes)) ≡ c.table
  one_table c i = bits_once (table_of (drop 5 (tokens g.head.bytes)) + c.table) (table_of (drop 5 (tokens g.head.bytes))) c.table (omega arith) (omega arith) same_bit
    where
      same_bit : (r : ℕ) → bit (table_of (drop 5 (tokens g.head.bytes))) r ≡ bit c.table r
      same_bit r = on (ltb r (2 ^ length pins)) (λ t. table-row r (ltb→lt r (2 ^ length pins) t) ∙ sym (one_value_lem (name_value pins r)
          (bit c.table r) (i.rows r (subst (λ (x : ℕ). r < 2 ^ x) (sym i.number) (ltb→lt r (2 ^ length pins) t)) (name_value pins r)
          (value_row pins r s.are_ordered.once)))) (λ t. table_none r (nltb→le r (2 ^ length pins) t)
          ∙ sym (i.above r (subst (λ (x : ℕ). 2 ^ x ≤ r) (sym i.number) (nltb→le r (2 ^ length pins) t))))

  pub cell-back : (c : Gate) → IsGate h ps pins c → gate_of g ≡ Some c
  unfolding gate_of gate_from line_tokens gate_with and_then
  cell-back c i =
      ap (λ (o : Option ℕ). and_then o (λ area. and_then (delays_of lines (pins_of (drop 5 (tokens g.head.bytes)))) (λ delays. Some (gate_with area delays)))) (ap thousandths is.area ∙ thousandths-back i.area)
      ∙ ap (λ (o : Option (List ℕ)). and_then o (λ delays. Some (gate_with c.area delays)))
      (ap (delays_of lines) are_pins ∙ delays_in_lem lines pins c.delays i.four (λ j k. on (ltb j (length pins)) (λ t.
      here lines pins j (ltb→lt j (length pins) t) ∙ delay_back (get_or pins j []) f.are_lines (get_or c.delays j 0)
      (i.delays j (subst (λ (x : ℕ). j < x) (sym i.number) (ltb→lt j (length pins) t)))) (λ t.
      away lines pins j (nltb→le j (length pins) t)
      ∙ ap Some (sym (i.absent j (subst (λ (x : ℕ). x ≤ j) (sym i.number) (nltb→le j (length pins) t)))))))
      ∙ ap Some (parts (is.name ∙ sym i.name) (ap length are_pins ∙ sym i.number) (one_table c i))
    where
      parts : get_or (tokens g.head.bytes) 1 [] ≡ c.name → length (pins_of (drop 5 (tokens g.head.bytes))) ≡ c.pins → table_of (drop 5 (tokens g.head.bytes)) ≡ c.table → gate_with c.area c.delays ≡ c
      parts x y z =
          unfold gate_with in
          ap (λ (u : List ℕ). record { name = u; pins = length (pins_of (drop 5 (tokens g.head.bytes))); table = table_of (drop 5 (tokens g.head.bytes)); area = c.area; delays = c.delays }) x
          ∙ ap (λ (u : ℕ). record { name = c.name; pins = u; table = table_of (drop 5 (tokens g.head.bytes)); area = c.area; delays = c.delays }) y
          ∙ ap (λ (u : ℕ). record { name = c.name; pins = c.pins; table = u; area = c.area; delays = c.delays }) z
