-- The form of a cell line is the crate model's: what is read from field to field is the cell of the line's fields.
--     form_means_lem     the cell that `form_at` finds is `cell_of_line` of the line at the place
--     form_cell      and then its name ends where the field does, its pins are at most 4, and the next line is behind this one
use Rattle.base.specs.{ℕ, suc, ◌+◌, ◌≤◌, arith, ◌≡◌, refl, sym, ap, ap₂, ◌∙◌, Bool, true, false, cond, ◌&&◌, Option, None, Some, List, []}
use Rattle.base.specs.{◌∷◌, eqb, leb, length, take, drop, get_or, leb-true}
use Rattle.model.specs.{and_then, only, number, numbers, hex_table, is_name, name_bytes, cell_of_fields, cell_of_line}
use Rattle.model.specs.declared.Cell.{Cell}
use Rattle.base_text.specs.declared.Cursor.{Cursor}
use Rattle.base_text.specs.{word_at, end_at, is_byte, on_number, on_step, number_of, step_of, name_at, byte_at, number_then, number_end, table_then}
use Rattle.base_text.specs.{line_at, words_at, seps_at, after_at, numbers_at}
use Rattle.base_text.proofs.{past, past_end, nth, then_o, found, found_end, number_is, number-end-is, table_is, line_fields, of_length}
use Rattle.base_text.proofs.{fields_at, numbers-at}
use Rattle.cells_reader.specs.declared.Delays.{Delays}
use Rattle.cells_reader.specs.declared.Figures.{Figures}
use Rattle.cells_reader.specs.declared.FormedLine.{FormedLine}
use Rattle.cells_reader.specs.{four_of, delays_at, on_four, mins_at, ranges_at, on_ranges, pick_form, figures_of, formed, figures_at, form_at, line_cell}

-- ---- the readers, by what is found at places that do not hang on it

-- the first four of some numbers, and the next four
abbrev first_of : List ℕ → Delays
first_of ns = four_of (get_or ns 0 0) (get_or ns 1 0) (get_or ns 2 0) (get_or ns 3 0)

abbrev next_of : List ℕ → Delays
next_of ns = four_of (get_or ns 4 0) (get_or ns 5 0) (get_or ns 6 0) (get_or ns 7 0)

abbrev delays_of : Option (List ℕ) → ℕ → Option (Delays × Cursor)
delays_of None q = None
delays_of (Some ns) q = Some (first_of ns, record { at = q })

-- how many fields stand behind `d0`
abbrev pub last_of : Bool → ℕ
last_of true = 7
last_of false = 3

-- how many stand behind the name
abbrev pub whole_of : Bool → ℕ
whole_of r = suc (suc (suc (suc (last_of r))))

abbrev ranges_of : Bool → Option (List ℕ) → ℕ → Option (Delays × Delays × Cursor)
ranges_of r None q = None
ranges_of true (Some ns) q = Some (first_of ns, next_of ns, record { at = q })
ranges_of false (Some ns) q = Some (first_of ns, first_of ns, record { at = q })

module _ (s : List ℕ) where
  delays-is : (q : ℕ) → delays_at true s q ≡ delays_of (numbers_at 3 s q) (after_at 3 s q)
  unfolding delays_at numbers_at after_at and_then
  delays-is q = rw (number_is s q 32) (go (found number s q 32))
    where
      last : (a b d r : ℕ) (o : Option ℕ)
          → on_number (number_of o r) (λ d3 c3. Some (four_of a b d d3, c3)) None
          ≡ delays_of (and_then (and_then (and_then (on_number (number_of o r) (λ n c. Some (n ∷ [])) None) (λ ns. Some (d ∷ ns))) (λ ns. Some (b ∷ ns))) (λ ns. Some (a ∷ ns))) r
      last a b d r None = refl
      last a b d r (Some x) = refl

      third : (a b r : ℕ) (o : Option ℕ)
          → on_number (number_of o r) (λ d2 c2. on_number (number_end s c2.at) (λ d3 c3. Some (four_of a b d2 d3, c3)) None) None
          ≡ delays_of (and_then (and_then (on_number (number_of o r) (λ n c. and_then (numbers_at 0 s c.at) (λ ns. Some (n ∷ ns))) None) (λ ns. Some (b ∷ ns))) (λ ns. Some (a ∷ ns))) (past_end s r)
      third a b r None = refl
      third a b r (Some d) = rw (number-end-is s r) (last a b d (past_end s r) (found_end s r))

      second : (a r : ℕ) (o : Option ℕ)
          → on_number (number_of o r) (λ d1 c1. on_number (number_then s c1.at 32) (λ d2 c2. on_number (number_end s c2.at) (λ d3 c3. Some (four_of a d1 d2 d3, c3)) None) None) None
          ≡ delays_of (and_then (on_number (number_of o r) (λ n c. and_then (numbers_at 1 s c.at) (λ ns. Some (n ∷ ns))) None) (λ ns. Some (a ∷ ns))) (past_end s (past s r))
      second a r None = refl
      second a r (Some b) = rw (number_is s r 32) (third a b (past s r) (found number s r 32))

      go : (o : Option ℕ)
          → on_number (number_of o (past s q)) (λ d0 c0. on_number (number_then s c0.at 32) (λ d1 c1. on_number (number_then s c1.at 32) (λ d2 c2. on_number (number_end s c2.at) (λ d3 c3. Some (four_of d0 d1 d2 d3, c3)) None) None) None) None
          ≡ delays_of (on_number (number_of o (past s q)) (λ n c. and_then (numbers_at 2 s c.at) (λ ns. Some (n ∷ ns))) None) (past_end s (nth s q 3))
      go None = refl
      go (Some a) = rw (number_is s (past s q) 32) (second a (nth s q 2) (found number s (past s q) 32))

  one-is : (q : ℕ) → ranges_at false s q ≡ ranges_of false (numbers_at 3 s q) (after_at 3 s q)
  unfolding ranges_at
  one-is q = rw (delays-is q) (go (numbers_at 3 s q))
    where
      go : (o : Option (List ℕ)) → on_four (delays_of o (after_at 3 s q)) (mins_at false s) None ≡ ranges_of false o (after_at 3 s q)
      go None = refl
      go (Some ns) = refl

  -- the lowest delays behind four delays that were read
  abbrev behind_high : Option (Delays × Cursor) → Option (Delays × Delays × Cursor)
  behind_high x = on_four x (mins_at true s) None

  both_is : (q : ℕ) → ranges_at true s q ≡ ranges_of true (numbers_at 7 s q) (after_at 7 s q)
  unfolding ranges_at delays_at numbers_at after_at and_then
  both_is q = rw (number_is s q 32) (first (past s q) (found number s q 32))
    where
      mins : (a b d e r : ℕ) (o : Option (List ℕ))
          → on_four (delays_of o (after_at 3 s r)) (λ l c. Some (four_of a b d e, l, c)) None
          ≡ ranges_of true (and_then (and_then (and_then (and_then o (λ ns. Some (e ∷ ns))) (λ ns. Some (d ∷ ns))) (λ ns. Some (b ∷ ns))) (λ ns. Some (a ∷ ns))) (after_at 3 s r)
      mins a b d e r None = refl
      mins a b d e r (Some ns) = refl

      fourth : (a b d r : ℕ) (o : Option ℕ)
          → behind_high (on_number (number_of o r) (λ d3 c3. Some (four_of a b d d3, c3)) None)
          ≡ ranges_of true (and_then (and_then (and_then (on_number (number_of o r) (λ n c. and_then (numbers_at 3 s c.at) (λ ns. Some (n ∷ ns))) None) (λ ns. Some (d ∷ ns))) (λ ns. Some (b ∷ ns))) (λ ns. Some (a ∷ ns))) (after_at 3 s r)
      fourth a b d r None = refl
      fourth a b d r (Some e) = rw (delays-is r) (mins a b d e r (numbers_at 3 s r))

      third : (a b r : ℕ) (o : Option ℕ)
          → behind_high (on_number (number_of o r) (λ d2 c2. on_number (number_then s c2.at 32) (λ d3 c3. Some (four_of a b d2 d3, c3)) None) None)
          ≡ ranges_of true (and_then (and_then (on_number (number_of o r) (λ n c. and_then (numbers_at 4 s c.at) (λ ns. Some (n ∷ ns))) None) (λ ns. Some (b ∷ ns))) (λ ns. Some (a ∷ ns))) (after_at 4 s r)
      third a b r None = refl
      third a b r (Some d) = rw (number_is s r 32) (fourth a b d (past s r) (found number s r 32))

      second : (a r : ℕ) (o : Option ℕ)
          → behind_high (on_number (number_of o r) (λ d1 c1. on_number (number_then s c1.at 32) (λ d2 c2. on_number (number_then s c2.at 32) (λ d3 c3. Some (four_of a d1 d2 d3, c3)) None) None) None)
          ≡ ranges_of true (and_then (on_number (number_of o r) (λ n c. and_then (numbers_at 5 s c.at) (λ ns. Some (n ∷ ns))) None) (λ ns. Some (a ∷ ns))) (after_at 5 s r)
      second a r None = refl
      second a r (Some b) = rw (number_is s r 32) (third a b (past s r) (found number s r 32))

      first : (r : ℕ) (o : Option ℕ)
          → behind_high (on_number (number_of o r) (λ d0 c0. on_number (number_then s c0.at 32) (λ d1 c1. on_number (number_then s c1.at 32) (λ d2 c2. on_number (number_then s c2.at 32) (λ d3 c3. Some (four_of d0 d1 d2 d3, c3)) None) None) None) None)
          ≡ ranges_of true (on_number (number_of o r) (λ n c. and_then (numbers_at 6 s c.at) (λ ns. Some (n ∷ ns))) None) (after_at 6 s r)
      first r None = refl
      first r (Some a) = rw (number_is s r 32) (second a (past s r) (found number s r 32))

  ranges-is : (r : Bool) (q : ℕ) → ranges_at r s q ≡ ranges_of r (numbers_at (last_of r) s q) (after_at (last_of r) s q)
  ranges-is true q = both_is q
  ranges-is false q = one-is q

-- the figures of a line, by its delays
abbrev figures_by : Bool → ℕ → ℕ → ℕ → List ℕ → Figures
figures_by true p t a ns = figures_of p t a (first_of ns) (next_of ns)
figures_by false p t a ns = figures_of p t a (first_of ns) (first_of ns)

-- the whole form: the name, its space, three figures, and the delays
abbrev form_of : Bool → Bool → Bool → Option ℕ → Option ℕ → Option ℕ → Option (List ℕ) → ℕ → ℕ → Option FormedLine
form_of k false u o1 o2 o3 o4 e q = None
form_of k true false o1 o2 o3 o4 e q = None
form_of k true true None o2 o3 o4 e q = None
form_of k true true (Some p) None o3 o4 e q = None
form_of k true true (Some p) (Some t) None o4 e q = None
form_of k true true (Some p) (Some t) (Some a) None e q = None
form_of k true true (Some p) (Some t) (Some a) (Some ns) e q = pick_form (leb p 4) (Some (formed e (figures_by k p t a ns) (record { at = q }))) None

-- what is made of the delays behind three figures
abbrev after_ranges : ℕ → ℕ → ℕ → ℕ → Option (Delays × Delays × Cursor) → Option FormedLine
after_ranges e p t a x = on_ranges x (λ d l c. pick_form (leb p 4) (Some (formed e (figures_of p t a d l) c)) None) None

ranges_form : (k : Bool) (p t a e q : ℕ) (o : Option (List ℕ)) → after_ranges e p t a (ranges_of k o q) ≡ form_of k true true (Some p) (Some t) (Some a) o e q
ranges_form k p t a e q None = refl
ranges_form true p t a e q (Some ns) = refl
ranges_form false p t a e q (Some ns) = refl

figures-is : (k : Bool) (e : ℕ) (s : List ℕ) (q : ℕ) → figures_at k e s q
    ≡ form_of k true true (found number s q 32) (found hex_table s (past s q) 32) (found number s (nth s q 2) 32) (numbers_at (last_of k) s (nth s q 3)) e (after_at (last_of k) s (nth s q 3))
unfolding figures_at
figures-is k e s q = rw (number_is s q 32) (go (found number s q 32))
  where
    last : (p t r : ℕ) (o : Option ℕ)
        → on_number (number_of o r) (λ a c2. after_ranges e p t a (ranges_at k s c2.at)) None
        ≡ form_of k true true (Some p) (Some t) o (numbers_at (last_of k) s r) e (after_at (last_of k) s r)
    last p t r None = refl
    last p t r (Some a) = ap (after_ranges e p t a) (ranges-is s k r) ∙ ranges_form k p t a e (after_at (last_of k) s r) (numbers_at (last_of k) s r)

    second : (p r : ℕ) (o : Option ℕ)
        → on_number (number_of o r) (λ t c1. on_number (number_then s c1.at 32) (λ a c2. after_ranges e p t a (ranges_at k s c2.at)) None) None
        ≡ form_of k true true (Some p) o (found number s r 32) (numbers_at (last_of k) s (past s r)) e (after_at (last_of k) s (past s r))
    second p r None = refl
    second p r (Some t) = rw (number_is s r 32) (last p t (past s r) (found number s r 32))

    go : (o : Option ℕ)
        → on_number (number_of o (past s q)) (λ p c0. on_number (table_then s c0.at 32) (λ t c1. on_number (number_then s c1.at 32) (λ a c2. after_ranges e p t a (ranges_at k s c2.at)) None) None) None
        ≡ form_of k true true o (found hex_table s (past s q) 32) (found number s (nth s q 2) 32) (numbers_at (last_of k) s (nth s q 3)) e (after_at (last_of k) s (nth s q 3))
    go None = refl
    go (Some p) = rw (table_is s (past s q) 32) (second p (nth s q 2) (found hex_table s (past s q) 32))

form_is : (k : Bool) (s : List ℕ) (q : ℕ) → form_at k s q
    ≡ form_of k (is_name (word_at s q)) (is_byte s (end_at s q) 32) (found number s (past s q) 32) (found hex_table s (nth s q 2) 32) (found number s (nth s q 3) 32) (numbers_at (last_of k) s (nth s q 4)) (end_at s q) (after_at (last_of k) s (nth s q 4))
unfolding form_at name_at byte_at
form_is k s q = go (is_name (word_at s q)) (is_byte s (end_at s q) 32) refl
  where
    go : (t u : Bool) → is_byte s (end_at s q) 32 ≡ u
        → on_step (step_of t (end_at s q)) (λ n. on_step (step_of (is_byte s n.at 32) (n.at + 1)) (λ c. figures_at k n.at s c.at) None) None
        ≡ form_of k t u (found number s (past s q) 32) (found hex_table s (nth s q 2) 32) (found number s (nth s q 3) 32) (numbers_at (last_of k) s (nth s q 4)) (end_at s q) (after_at (last_of k) s (nth s q 4))
    go false u h = refl
    go true false h = rw h
    go true true h = rw h (figures-is k (end_at s q) s (past s q))

-- ---- the crate model's cell, by the same values

-- the cell that a form means, of the name w
unfoldable pub form_means : List ℕ → Option FormedLine → Option Cell
form_means w None = None
form_means w (Some f) = Some (line_cell w f.figures)

abbrev cons_o : Option ℕ → Option (List ℕ) → Option (List ℕ)
cons_o v r = and_then v (λ n. and_then r (λ ns. Some (n ∷ ns)))

-- the cell of a name and of figures that were read
abbrev cell_with : List ℕ → ℕ → ℕ → ℕ → List ℕ → List ℕ → Cell
cell_with w p t a ds ls = record { name = name_bytes w; len = length w; pins = p; table = t; area = a; delays = ds; mins = ls }

abbrev cell_from : Bool → Bool → List (List ℕ) → List ℕ → Option ℕ → Option ℕ → Option ℕ → Option (List ℕ) → Option Cell
cell_from k t W w v1 v2 v3 v4 =
    and_then (only t W) (λ _.
    and_then (cons_o v1 (cons_o v3 v4)) (λ ns.
    and_then v2 (λ table.
    only (leb (get_or ns 0 0) 4) (cell_with w (get_or ns 0 0) table (get_or ns 1 0) (take 4 (drop 2 ns)) (drop (cond k 6 2) ns)))))

cell-from : (k : Bool) (w0 w1 w2 w3 : List ℕ) (ws : List (List ℕ)) → length ws ≡ suc (last_of k)
    → cell_of_fields k (w0 ∷ w1 ∷ w2 ∷ w3 ∷ ws) ≡ cell_from k (is_name w0) (w0 ∷ w1 ∷ w2 ∷ w3 ∷ ws) w0 (number w1) (hex_table w2) (number w3) (numbers ws)
unfolding cell_of_fields numbers
cell-from true w0 w1 w2 w3 ws e = rw e
cell-from false w0 w1 w2 w3 ws e = rw e

dead : (b : Bool) (W : List (List ℕ)) (x : Option Cell) → x ≡ None → and_then (only b W) (λ _. x) ≡ None
unfolding and_then only
dead true W x e = e
dead false W x e = refl

none_after : (o : Option (List ℕ)) → ◌≡◌ {A = Option Cell} (and_then o (λ (_ : List ℕ). None)) None
unfolding and_then
none_after None = refl
none_after (Some ns) = refl

no_form : {f : FormedLine} → None ≡ Some f → ⊥
no_form h = let z : ◌≡◌ {A = ℕ} 0 1 = cc in omega arith

-- the delays, where the right bytes stand behind them
abbrev only_o : Bool → Option (List ℕ) → Option (List ℕ)
only_o true o = o
only_o false o = None

-- four of some numbers
abbrev four_list : List ℕ → List ℕ
four_list ns = get_or ns 0 0 ∷ get_or ns 1 0 ∷ get_or ns 2 0 ∷ get_or ns 3 0 ∷ []

-- the lowest delays among them
abbrev mins_of : Bool → List ℕ → List ℕ
mins_of true ns = get_or ns 4 0 ∷ get_or ns 5 0 ∷ get_or ns 6 0 ∷ get_or ns 7 0 ∷ []
mins_of false ns = four_list ns

-- they are four delays and the lowest ones
abbrev Fours : Bool → Option (List ℕ) → Type 0
Fours k o = (ns : List ℕ) → o ≡ Some ns → (take 4 ns ≡ four_list ns) × ((p a : ℕ) → drop (cond k 6 2) (p ∷ a ∷ ns) ≡ mins_of k ns)

-- both sides fail at the first field or byte that is wrong, and else both are the cell
module _ (k : Bool) (W : List (List ℕ)) (w : List ℕ) (e q : ℕ) where
  flat : (t b0 : Bool) (v1 : Option ℕ) (b1 : Bool) (v2 : Option ℕ) (b2 : Bool) (v3 : Option ℕ) (b3 b4 : Bool) (v4 : Option (List ℕ)) → Fours k v4
      → form_means w (form_of k t b0 (then_o v1 b1) (then_o v2 b2) (then_o v3 b3) (only_o b4 v4) e q) ≡ and_then (only (b0 && (b1 && (b2 && (b3 && b4)))) W) (λ _. cell_from k t W w v1 v2 v3 v4)
  unfolding form_means and_then only line_cell
  flat false b0 v1 b1 v2 b2 v3 b3 b4 v4 l = sym (dead (b0 && (b1 && (b2 && (b3 && b4)))) W _ refl)
  flat true false v1 b1 v2 b2 v3 b3 b4 v4 l = refl
  flat true true None b1 v2 b2 v3 b3 b4 v4 l = sym (dead (true && (b1 && (b2 && (b3 && b4)))) W _ refl)
  flat true true (Some p) false v2 b2 v3 b3 b4 v4 l = refl
  flat true true (Some p) true None b2 v3 b3 b4 v4 l = sym (dead (true && (true && (b2 && (b3 && b4)))) W _ (none_after (cons_o (Some p) (cons_o v3 v4))))
  flat true true (Some p) true (Some t) false v3 b3 b4 v4 l = refl
  flat true true (Some p) true (Some t) true None b3 b4 v4 l = sym (dead (true && (true && (true && (b3 && b4)))) W _ refl)
  flat true true (Some p) true (Some t) true (Some a) false b4 v4 l = refl
  flat true true (Some p) true (Some t) true (Some a) true false v4 l = refl
  flat true true (Some p) true (Some t) true (Some a) true true None l = refl
  flat true true (Some p) true (Some t) true (Some a) true true (Some ns) l = go (leb p 4)
    where
      by_kind : (i : Bool) → Some (line_cell w (figures_by i p t a ns)) ≡ Some (cell_with w p t a (four_list ns) (mins_of i ns))
      by_kind true = refl
      by_kind false = refl

      go : (b : Bool) → form_means w (pick_form b (Some (formed e (figures_by k p t a ns) (record { at = q }))) None) ≡ only b (cell_with w p t a (take 4 ns) (drop (cond k 6 2) (p ∷ a ∷ ns)))
      go true = by_kind k ∙ ap₂ (λ (ds ls : List ℕ). Some (cell_with w p t a ds ls)) (sym (l ns refl).0) (sym ((l ns refl).1 p a))
      go false = refl

  -- and what is known of the cell
  flat-cell : (t b0 : Bool) (v1 : Option ℕ) (b1 : Bool) (v2 : Option ℕ) (b2 : Bool) (v3 : Option ℕ) (b3 b4 : Bool) (v4 : Option (List ℕ)) (f : FormedLine)
      → form_of k t b0 (then_o v1 b1) (then_o v2 b2) (then_o v3 b3) (only_o b4 v4) e q ≡ Some f
      → (t ≡ true) × ((b0 && (b1 && (b2 && (b3 && b4)))) ≡ true) × (f.end ≡ e) × (f.next.at ≡ q) × (f.figures.pins ≤ 4)
  flat-cell false b0 v1 b1 v2 b2 v3 b3 b4 v4 f h = absurd (no_form h)
  flat-cell true false v1 b1 v2 b2 v3 b3 b4 v4 f h = absurd (no_form h)
  flat-cell true true None b1 v2 b2 v3 b3 b4 v4 f h = absurd (no_form h)
  flat-cell true true (Some p) false v2 b2 v3 b3 b4 v4 f h = absurd (no_form h)
  flat-cell true true (Some p) true None b2 v3 b3 b4 v4 f h = absurd (no_form h)
  flat-cell true true (Some p) true (Some t) false v3 b3 b4 v4 f h = absurd (no_form h)
  flat-cell true true (Some p) true (Some t) true None b3 b4 v4 f h = absurd (no_form h)
  flat-cell true true (Some p) true (Some t) true (Some a) false b4 v4 f h = absurd (no_form h)
  flat-cell true true (Some p) true (Some t) true (Some a) true false v4 f h = absurd (no_form h)
  flat-cell true true (Some p) true (Some t) true (Some a) true true None f h = absurd (no_form h)
  flat-cell true true (Some p) true (Some t) true (Some a) true true (Some ns) f h = go (leb p 4) refl h
    where
      kind-pins : (i : Bool) → (figures_by i p t a ns).pins ≡ p
      kind-pins true = refl
      kind-pins false = refl

      go : (b : Bool) → leb p 4 ≡ b → pick_form b (Some (formed e (figures_by k p t a ns) (record { at = q }))) None ≡ Some f
          → (true ≡ true) × (true ≡ true) × (f.end ≡ e) × (f.next.at ≡ q) × (f.figures.pins ≤ 4)
      go true i r =
          let x : formed e (figures_by k p t a ns) (record { at = q }) ≡ f = cc in (
            refl,
            refl,
            sym (ap (λ (g : FormedLine). g.end) x),
            sym (ap (λ (g : FormedLine). g.next.at) x),
            omega (arith, leb-true p 4 i, kind-pins k, ap (λ (g : FormedLine). g.figures.pins) x),
          )
      go false i r = absurd (no_form r)

-- ---- the line

-- as many fields as the names line has
long : (k : Bool) (ws : List (List ℕ)) → cell_of_fields k ws ≡ and_then (of_length (cond k 12 8) ws) (cell_of_fields k)
unfolding cell_of_fields of_length and_then only
long k ws = go (eqb (length ws) (cond k 12 8)) refl
  where
    go : (b : Bool) → eqb (length ws) (cond k 12 8) ≡ b → cell_of_fields k ws ≡ and_then (only b ws) (cell_of_fields k)
    go true e = refl
    go false e = rw e

long_then : (k : Bool) (o : Option (List (List ℕ))) → and_then o (cell_of_fields k) ≡ and_then (and_then o (of_length (cond k 12 8))) (cell_of_fields k)
unfolding and_then
long_then k None = refl
long_then k (Some ws) = long k ws

then_const : (k b : Bool) (W : List (List ℕ)) → and_then (only b W) (cell_of_fields k) ≡ and_then (only b W) (λ _. cell_of_fields k W)
unfolding and_then only
then_const k true W = refl
then_const k false W = refl

-- the number in the field k on, and the byte behind that field
abbrev figure : List ℕ → ℕ → ℕ → Option ℕ
figure s q k = number (word_at s (nth s q k))

abbrev behind : List ℕ → ℕ → ℕ → ℕ → Bool
behind s q k b = is_byte s (end_at s (nth s q k)) b

-- as many numbers as fields
numbers-long : (ws : List (List ℕ)) (ns : List ℕ) → numbers ws ≡ Some ns → length ns ≡ length ws
unfolding numbers and_then
numbers-long [] ns e = let q : ◌≡◌ {A = List ℕ} [] ns = cc in ap length (sym q)
numbers-long (w ∷ ws) ns e = go (number w) (numbers ws) (numbers-long ws) e
  where
    go : (o : Option ℕ) (r : Option (List ℕ)) → ((ms : List ℕ) → r ≡ Some ms → length ms ≡ length ws) → cons_o o r ≡ Some ns → length ns ≡ suc (length ws)
    go None r more q = let z : ◌≡◌ {A = ℕ} 0 1 = cc in absurd (omega arith)
    go (Some n) None more q = let z : ◌≡◌ {A = ℕ} 0 1 = cc in absurd (omega arith)
    go (Some n) (Some ms) more q = let i : n ∷ ms ≡ ns = cc in ap length (sym i) ∙ ap suc (more ms refl)

-- the delays as the model reads them
then_numbers : (b : Bool) (ws : List (List ℕ)) → and_then (only b ws) numbers ≡ only_o b (numbers ws)
unfolding and_then only
then_numbers true ws = refl
then_numbers false ws = refl

-- the first four of at least so many numbers
four-first : (ns : List ℕ) → 4 ≤ length ns → take 4 ns ≡ four_list ns
four-first [] e = absurd (omega arith)
four-first (a ∷ []) e = absurd (omega arith)
four-first (a ∷ b ∷ []) e = absurd (omega arith)
four-first (a ∷ b ∷ c ∷ []) e = absurd (omega arith)
four-first (a ∷ b ∷ c ∷ d ∷ ns) e = refl

four_list_lem : (ns : List ℕ) → length ns ≡ 4 → ns ≡ four_list ns
four_list_lem [] e = absurd (omega arith)
four_list_lem (a ∷ []) e = absurd (omega arith)
four_list_lem (a ∷ b ∷ []) e = absurd (omega arith)
four_list_lem (a ∷ b ∷ c ∷ []) e = absurd (omega arith)
four_list_lem (a ∷ b ∷ c ∷ d ∷ []) e = refl
four_list_lem (a ∷ b ∷ c ∷ d ∷ x ∷ ns) e = absurd (omega arith)

-- and the last four of eight
eight_list : (ns : List ℕ) → length ns ≡ 8 → drop 4 ns ≡ mins_of true ns
eight_list [] e = absurd (omega arith)
eight_list (a ∷ []) e = absurd (omega arith)
eight_list (a ∷ b ∷ []) e = absurd (omega arith)
eight_list (a ∷ b ∷ c ∷ []) e = absurd (omega arith)
eight_list (a ∷ b ∷ c ∷ d ∷ ns) e = four_list_lem ns (let q : suc (suc (suc (suc (length ns)))) ≡ 8 = e in omega arith)

fours : (k : Bool) (ns : List ℕ) → length ns ≡ suc (last_of k) → (take 4 ns ≡ four_list ns) × ((p a : ℕ) → drop (cond k 6 2) (p ∷ a ∷ ns) ≡ mins_of k ns)
fours true ns e = (four-first ns (omega arith), λ p a. eight_list ns e)
fours false ns e = (four-first ns (omega arith), λ p a. four_list_lem ns e)

module _ (k : Bool) (s : List ℕ) (q : ℕ) where
  -- the fields behind the area
  last-words : List (List ℕ)
  last-words = words_at (last_of k) s (nth s q 4)

  words_long : length last-words ≡ suc (last_of k)
  unfolding last-words words_at
  words_long = go k
    where
      go : (i : Bool) → length (words_at (last_of i) s (nth s q 4)) ≡ suc (last_of i)
      go true = refl
      go false = refl

  delays-four : Fours k (numbers last-words)
  delays-four ns e = fours k ns (numbers-long last-words ns e ∙ words_long)

  delays-read : numbers_at (last_of k) s (nth s q 4) ≡ only_o (seps_at (last_of k) s (nth s q 4)) (numbers last-words)
  unfolding last-words
  delays-read = sym (numbers-at (last_of k) s (nth s q 4)) ∙ then_numbers (seps_at (last_of k) s (nth s q 4)) (words_at (last_of k) s (nth s q 4))

  fields_are_lem : and_then (line_fields s q) (of_length (cond k 12 8)) ≡ only (seps_at (whole_of k) s q) (words_at (whole_of k) s q)
  fields_are_lem = go k
    where
      go : (i : Bool) → and_then (line_fields s q) (of_length (cond i 12 8)) ≡ only (seps_at (whole_of i) s q) (words_at (whole_of i) s q)
      go true = fields_at 11 s q
      go false = fields_at 7 s q

  from_fields : cell_of_line k (line_at s q)
      ≡ and_then (only (seps_at (whole_of k) s q) (words_at (whole_of k) s q)) (λ _. cell_from k (is_name (word_at s q)) (words_at (whole_of k) s q) (word_at s q) (figure s q 1) (hex_table (word_at s (nth s q 2))) (figure s q 3) (numbers last-words))
  unfolding cell_of_line line_fields words_at last-words
  from_fields =
      long_then k (line_fields s q)
      ∙ ap (λ (o : Option (List (List ℕ))). and_then o (cell_of_fields k)) fields_are_lem
      ∙ then_const k (seps_at (whole_of k) s q) (words_at (whole_of k) s q)
      ∙ ap (λ (x : Option Cell). and_then (only (seps_at (whole_of k) s q) (words_at (whole_of k) s q)) (λ _. x)) (cell-from k (word_at s q) (word_at s (nth s q 1)) (word_at s (nth s q 2)) (word_at s (nth s q 3)) (words_at (last_of k) s (nth s q 4)) words_long)

  form_found : form_at k s q
      ≡ form_of k (is_name (word_at s q)) (is_byte s (end_at s q) 32) (then_o (figure s q 1) (behind s q 1 32)) (then_o (hex_table (word_at s (nth s q 2))) (behind s q 2 32)) (then_o (figure s q 3) (behind s q 3 32)) (only_o (seps_at (last_of k) s (nth s q 4)) (numbers last-words)) (end_at s q) (after_at (last_of k) s (nth s q 4))
  form_found =
      form_is k s q
      ∙ ap (λ (o : Option (List ℕ)). form_of k (is_name (word_at s q)) (is_byte s (end_at s q) 32) (then_o (figure s q 1) (behind s q 1 32)) (then_o (hex_table (word_at s (nth s q 2))) (behind s q 2 32)) (then_o (figure s q 3) (behind s q 3 32)) o (end_at s q) (after_at (last_of k) s (nth s q 4))) delays-read

  pub form_means_lem : cell_of_line k (line_at s q) ≡ form_means (word_at s q) (form_at k s q)
  unfolding seps_at
  form_means_lem =
      from_fields
      ∙ sym (flat k (words_at (whole_of k) s q) (word_at s q) (end_at s q) (after_at (last_of k) s (nth s q 4)) (is_name (word_at s q)) (is_byte s (end_at s q) 32) (figure s q 1) (behind s q 1 32) (hex_table (word_at s (nth s q 2))) (behind s q 2 32) (figure s q 3) (behind s q 3 32) (seps_at (last_of k) s (nth s q 4)) (numbers last-words) delays-four)
      ∙ ap (form_means (word_at s q)) (sym form_found)

  pub form_cell : (f : FormedLine) → form_at k s q ≡ Some f
      → (is_name (word_at s q) ≡ true) × (seps_at (whole_of k) s q ≡ true) × (f.end ≡ end_at s q) × (f.next.at ≡ after_at (whole_of k) s q) × (f.figures.pins ≤ 4)
  unfolding seps_at after_at
  form_cell f h =
      flat-cell k (words_at (whole_of k) s q) (word_at s q) (end_at s q) (after_at (last_of k) s (nth s q 4)) (is_name (word_at s q)) (is_byte s (end_at s q) 32) (figure s q 1) (behind s q 1 32) (hex_table (word_at s (nth s q 2))) (behind s q 2 32) (figure s q 3) (behind s q 3 32) (seps_at (last_of k) s (nth s q 4)) (numbers last-words) f (sym form_found ∙ h)
