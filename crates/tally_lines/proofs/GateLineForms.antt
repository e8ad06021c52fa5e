-- The cell of a gate line, from the library's first line on, and the steps over its pins.
use Rattle.base.specs.{ℕ, suc, ◌+◌, ◌-◌, ◌≤◌, ◌<◌, add-one, arith, ◌≡◌, refl, sym, ap, ◌∙◌, Bool, true, false, cond, ◌&&◌, None, Some, List}
use Rattle.base.specs.{[], ◌∷◌, map, length, take, drop, get_or, drop_of_length-le, drop-cons, length-take-le, get_or-take}
use Rattle.model.specs.{same, from, below, text, fields, name_of, no_cell, cells_of, is_bound, of_form, gate_form, gate_of}
use Rattle.model.specs.declared.Cell.{Cell}
use Rattle.model.specs.declared.Library.{Library}
use Rattle.tally_lines.specs.{fields_at, field_at, field_end, step_at, steps_at}
use Rattle.tally_lines.proofs.FieldLaws.{field_next, field_fits}
use Rattle.tally_lines.proofs.NetlistLineForms.{Led, on, off, out, led, from_start, steps_append}

-- ---- the library's cells

module _ (l : Library) (long : length l.cells ≡ 32) (few : l.n ≤ 32) where
  pub cells_count : length (cells_of l) ≡ l.n
  unfolding cells_of
  cells_count = length-take-le l.n l.cells (omega arith)

  pub cells_at : (i : ℕ) → i < l.n → get_or (cells_of l) i no_cell ≡ get_or l.cells i no_cell
  unfolding cells_of
  cells_at i h = get_or-take l.n l.cells i no_cell h

-- ---- from line to line

pub gate-end : (i : ℕ) (cells : List Cell) (w : List ℕ) → length cells ≤ i → gate_of i (drop i cells) w ≡ None
unfolding gate_of
gate-end i cells w h = rw (drop_of_length-le cells h)

module _ (i : ℕ) (cells : List Cell) (w : List ℕ) (h : i < length cells) where
  gate_by_lem : gate_of i (drop i cells) w ≡ cond (of_form (gate_form (get_or cells i no_cell)) (fields w)) (Some i) (gate_of (i + 1) (drop (i + 1) cells) w)
  unfolding gate_of
  gate_by_lem = rw (add-one i, drop-cons cells i no_cell h)

  pub gate-here : of_form (gate_form (get_or cells i no_cell)) (fields w) ≡ true → gate_of i (drop i cells) w ≡ Some i
  gate-here e = gate_by_lem ∙ rw e

  pub gate-later : of_form (gate_form (get_or cells i no_cell)) (fields w) ≡ false → gate_of i (drop i cells) w ≡ gate_of (i + 1) (drop (i + 1) cells) w
  gate-later e = gate_by_lem ∙ rw e

-- ---- behind `.gate`

gate_word : List ℕ
gate_word = 46 ∷ 103 ∷ 97 ∷ 116 ∷ 101 ∷ []

module _ (w : List ℕ) where
  gate-first : (c : Cell) → of_form (gate_form c) (fields w) ≡ (same gate_word (field_at w 0) && of_form (drop 1 (gate_form c)) (fields_at w (field_end w 0 + 1)))
  unfolding gate_form of_form text gate_word
  gate-first c = rw (sym (from_start w), field_next w 0 (omega arith))

  pub gate-behind : (c : Cell) (at : ℕ) → at ≡ step_at (same (46 ∷ 103 ∷ 97 ∷ 116 ∷ 101 ∷ [])) w 0 → at ≤ length w + 1
      → of_form (gate_form c) (fields w) ≡ of_form (drop 1 (gate_form c)) (fields_at w at)
  unfolding gate_word
  gate-behind c at is g = gate-first c ∙ go (led (same gate_word) w 0)
    where
      go : Led (same gate_word) w 0 → (same gate_word (field_at w 0) && of_form (drop 1 (gate_form c)) (fields_at w (field_end w 0 + 1))) ≡ of_form (drop 1 (gate_form c)) (fields_at w at)
      go (on h e s) = rw (e, is ∙ s)
      go (off h e s) = absurd (omega arith)
      go (out h s) = absurd (omega arith)

  pub gate_never : (k : ℕ) (cells : List Cell) → length w + 1 < step_at (same (46 ∷ 103 ∷ 97 ∷ 116 ∷ 101 ∷ [])) w 0 → gate_of k cells w ≡ None
  unfolding gate_of gate_word
  gate_never k [] g = refl
  gate_never k (c ∷ cs) g = rw (gate-first c ∙ go (led (same gate_word) w 0)) (gate_never (suc k) cs g)
    where
      go : Led (same gate_word) w 0 → (same gate_word (field_at w 0) && of_form (drop 1 (gate_form c)) (fields_at w (field_end w 0 + 1))) ≡ false
      go (on h e s) = absurd (omega (arith, field_fits w 0 h))
      go (off h e s) = rw e
      go (out h s) = absurd (omega arith)

-- ---- the pins

abbrev pub pin_tests : List ℕ → List (List ℕ → Bool)
pin_tests js = map (λ (j : ℕ). is_bound (65 + j)) js

pub pins-first : (n : ℕ) (w : List ℕ) (at : ℕ) → steps_at (pin_tests (below n)) w at ≡ steps_at (pin_tests (from 0 (n - 0))) w at
unfolding below
pins-first n w at = let z : n - 0 ≡ n = omega arith in rw z

pub pins-step : (j n : ℕ) (w : List ℕ) (at next : ℕ) → j < n → next ≡ step_at (is_bound (65 + j)) w at
    → steps_at (pin_tests (from j (n - j))) w at ≡ steps_at (pin_tests (from (j + 1) (n - (j + 1)))) w next
unfolding steps_at from
pins-step j n w at next h is =
    let a : n - j ≡ suc (n - (j + 1)) = omega arith in
    rw (a, add-one j, is)

pub pins-end : (j n : ℕ) (w : List ℕ) (at : ℕ) → n ≤ j → steps_at (pin_tests (from j (n - j))) w at ≡ at
unfolding steps_at from
pins-end j n w at h = let a : n - j ≡ 0 = omega arith in rw a

-- ---- a cell's line

pub gate_steps : (c : Cell) (w : List ℕ) (at a b o : ℕ) → a ≡ step_at (same (take c.len c.name)) w at → b ≡ steps_at (pin_tests (below c.pins)) w a → o ≡ step_at (is_bound 79) w b
    → o ≡ steps_at (drop 1 (gate_form c)) w at
unfolding gate_form name_of steps_at
gate_steps c w at a b o e f g =
    g
    ∙ ap (step_at (is_bound 79) w) (f ∙ ap (steps_at (pin_tests (below c.pins)) w) e)
    ∙ sym (steps_append (pin_tests (below c.pins)) (is_bound 79 ∷ []) w (step_at (same (take c.len c.name)) w at))
