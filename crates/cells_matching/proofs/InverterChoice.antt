-- The best inverter.
--     inverter-chosen     a phase against all inverters is that phase against the best one
use Rattle.base.specs.{ℕ, suc, ◌+◌, ◌<◌, ◌≤◌, ◌≡◌, refl, sym, ap, ap₂, ◌∙◌, Bool, true, false, cond, not, ◌&&◌, List, [], ◌∷◌, add-one}
use Rattle.base.specs.{arith, length, get_or, drop, drop_of_length-le, drop-cons, lt-ltb, le-ltb, eq-eqb, ne_eqb}
use Rattle.model.specs.{no_cell, is_inverter, absent, earlier, choose, no_phase, inverter_phases}
use Rattle.model.specs.declared.Cell.{Cell}
use Rattle.model.specs.declared.Phase.{Phase}
use Rattle.model.specs.declared.Source.TheVariants.{Inverter as Inverted}
use Rattle.std.specs.Prelude.{Some, None}
use Rattle.cells_matching.specs.{Inverter, quicker, tried, inverter_from, inverter_of, inverted}
use Rattle.cells_matching.proofs.BestMatch.{by_bool, by_less, none-absent, earlier-none, earlier_assoc, earlier-first, earlier_strict}
use Rattle.cells_matching.proofs.BestMatch.{earlier_tie}

-- ---- one cell

pub quicker_less : (l e line d : ℕ) → d < e → quicker (Some (l, e)) line d ≡ Some (line, d)
unfolding quicker
quicker_less l e line d h = rw (lt-ltb d e h)

pub quicker-not : (l e line d : ℕ) → e ≤ d → quicker (Some (l, e)) line d ≡ Some (l, e)
unfolding quicker
quicker-not l e line d h = rw (le-ltb d e h)

pub inverter-step : (cells : List Cell) (best answer : Inverter) (i : ℕ) → i < length cells → inverter_from best (drop i cells) i ≡ answer
    → inverter_from (tried best (get_or cells i no_cell) i) (drop (i + 1) cells) (i + 1) ≡ answer
unfolding inverter_from
inverter-step cells best answer i h e =
    rw add-one (sym (ap (λ (cs : List Cell). inverter_from best cs i) (drop-cons cells i no_cell h)) ∙ e)

pub inverter-done : (cells : List Cell) (best answer : Inverter) (i : ℕ) → length cells ≤ i → inverter_from best (drop i cells) i ≡ answer → best ≡ answer
unfolding inverter_from
inverter-done cells best answer i h e = sym (ap (λ (cs : List Cell). inverter_from best cs i) (drop_of_length-le cells h)) ∙ e

pub tried-inverter : (best : Inverter) (c : Cell) (line : ℕ) → c.pins ≡ 1 → c.table ≡ 1 → 0 < c.len → tried best c line ≡ quicker best line (get_or c.delays 0 0)
unfolding tried
tried-inverter best c line p t n = rw (eq-eqb c.pins 1 p, eq-eqb c.table 1 t, lt-ltb 0 c.len n)

pub tried-pins : (best : Inverter) (c : Cell) (line : ℕ) → ¬ (c.pins ≡ 1) → tried best c line ≡ best
unfolding tried
tried-pins best c line p = rw (ne_eqb c.pins 1 p)

pub tried-table : (best : Inverter) (c : Cell) (line : ℕ) → c.pins ≡ 1 → ¬ (c.table ≡ 1) → tried best c line ≡ best
unfolding tried
tried-table best c line p t = rw (eq-eqb c.pins 1 p, ne_eqb c.table 1 t)

pub tried_nameless : (best : Inverter) (c : Cell) (line : ℕ) → c.pins ≡ 1 → c.table ≡ 1 → c.len ≤ 0 → tried best c line ≡ best
unfolding tried
tried_nameless best c line p t n = rw (eq-eqb c.pins 1 p, eq-eqb c.table 1 t, le-ltb 0 c.len n)

-- ---- the best of all

inverted-absent : (b : Inverter) (other : Phase) → absent other.source ≡ true → inverted b other ≡ no_phase
unfolding inverted
inverted-absent None other e = refl
inverted-absent (Some (l, d)) other e = rw e

-- the phase of one inverter
through : ℕ → ℕ → Phase → Phase
through line d other = record { source = Inverted line; arrival = other.arrival + d }

inverted_present : (line d : ℕ) (other : Phase) → absent other.source ≡ false → inverted (Some (line, d)) other ≡ through line d other
unfolding inverted through
inverted_present line d other e = rw e

through_present : (line d : ℕ) (other : Phase) → absent (through line d other).source ≡ false
unfolding through absent
through_present line d other = refl

through-arrival : (line d : ℕ) (other : Phase) → (through line d other).arrival ≡ other.arrival + d
unfolding through
through-arrival line d other = refl

module _ (other : Phase) where
  -- no inverter after the last
  end_present : (b : Inverter) → absent other.source ≡ false → inverted b other ≡ earlier (inverted b other) no_phase
  unfolding inverted
  end_present None e = sym (earlier-none no_phase)
  end_present (Some (l, d)) e =
      inverted_present l d other e
      ∙ sym (ap (λ (z : Phase). earlier z no_phase) (inverted_present l d other e) ∙ earlier-first (through l d other) no_phase (through_present l d other) none-absent)

  end : (b : Inverter) → inverted b other ≡ earlier (inverted b other) no_phase
  end b = by_bool (absent other.source)
      (λ e. inverted-absent b other e ∙ sym (ap (λ (z : Phase). earlier z no_phase) (inverted-absent b other e) ∙ earlier-none no_phase))
      (λ e. end_present b e)

  -- one inverter more
  quicker-is : (b : Inverter) (line d : ℕ) → absent other.source ≡ false → inverted (quicker b line d) other ≡ earlier (inverted b other) (through line d other)
  unfolding quicker inverted
  quicker-is None line d e = inverted_present line d other e ∙ sym (earlier-none (through line d other))
  quicker-is (Some (l, f)) line d e = by_less d f
      (λ h. ap (λ (z : Inverter). inverted z other) (quicker_less l f line d h) ∙ inverted_present line d other e
      ∙ sym (ap (λ (z : Phase). earlier z (through line d other)) (inverted_present l f other e)
      ∙ earlier_strict (through l f other) (through line d other) (through_present l f other) (through_present line d other) (omega (arith, through-arrival l f other, through-arrival line d other))))
      (λ h. ap (λ (z : Inverter). inverted z other) (quicker-not l f line d h) ∙ inverted_present l f other e
      ∙ sym (ap (λ (z : Phase). earlier z (through line d other)) (inverted_present l f other e)
      ∙ earlier_tie (through l f other) (through line d other) (through_present l f other) (through_present line d other) (omega (arith, through-arrival l f other, through-arrival line d other))))

  -- the listed phases of the cells from a line on
  listed-not : (c : Cell) (cs : List Cell) (line : ℕ) → is_inverter c ≡ false → inverter_phases (c ∷ cs) line other ≡ inverter_phases cs (suc line) other
  unfolding inverter_phases
  listed-not c cs line e =
      ap (λ (b : Bool). cond (b && not (absent other.source)) (record { source = Inverted line; arrival = other.arrival + get_or c.delays 0 0 } ∷ inverter_phases cs (suc line) other) (inverter_phases cs (suc line) other)) e

  listed-absent : (c : Cell) (cs : List Cell) (line : ℕ) → is_inverter c ≡ true → absent other.source ≡ true → inverter_phases (c ∷ cs) line other ≡ inverter_phases cs (suc line) other
  unfolding inverter_phases
  listed-absent c cs line e f =
      ap₂ (λ (b a : Bool). cond (b && not a) (record { source = Inverted line; arrival = other.arrival + get_or c.delays 0 0 } ∷ inverter_phases cs (suc line) other) (inverter_phases cs (suc line) other)) e f

  listed-one : (c : Cell) (cs : List Cell) (line : ℕ) → is_inverter c ≡ true → absent other.source ≡ false
      → inverter_phases (c ∷ cs) line other ≡ through line (get_or c.delays 0 0) other ∷ inverter_phases cs (suc line) other
  unfolding inverter_phases through
  listed-one c cs line e f =
      ap₂ (λ (b a : Bool). cond (b && not a) (record { source = Inverted line; arrival = other.arrival + get_or c.delays 0 0 } ∷ inverter_phases cs (suc line) other) (inverter_phases cs (suc line) other)) e f

  tried-not : (b : Inverter) (c : Cell) (line : ℕ) → is_inverter c ≡ false → tried b c line ≡ b
  unfolding tried
  tried-not b c line e = ap (λ (t : Bool). cond t (quicker b line (get_or c.delays 0 0)) b) e

  tried-is : (b : Inverter) (c : Cell) (line : ℕ) → is_inverter c ≡ true → tried b c line ≡ quicker b line (get_or c.delays 0 0)
  unfolding tried
  tried-is b c line e = ap (λ (t : Bool). cond t (quicker b line (get_or c.delays 0 0)) b) e

  one_cell : (c : Cell) (cs : List Cell) (b : Inverter) (line : ℕ)
      → earlier (inverted (tried b c line) other) (choose (inverter_phases cs (suc line) other)) ≡ earlier (inverted b other) (choose (inverter_phases (c ∷ cs) line other))
  unfolding choose
  one_cell c cs b line = by_bool (is_inverter c)
      (λ e. by_bool (absent other.source)
      (λ f. ap (λ (z : Phase). earlier z (choose (inverter_phases cs (suc line) other))) (inverted-absent (tried b c line) other f ∙ sym (inverted-absent b other f))
      ∙ sym (ap (λ (l : List Phase). earlier (inverted b other) (choose l)) (listed-absent c cs line e f)))
      (λ f. ap (λ (z : Phase). earlier z (choose (inverter_phases cs (suc line) other)))
      (ap (λ (z : Inverter). inverted z other) (tried-is b c line e) ∙ quicker-is b line (get_or c.delays 0 0) f)
      ∙ earlier_assoc (inverted b other) (through line (get_or c.delays 0 0) other) (choose (inverter_phases cs (suc line) other))
      ∙ sym (ap (λ (l : List Phase). earlier (inverted b other) (choose l)) (listed-one c cs line e f))))
      (λ e. ap (λ (z : Inverter). earlier (inverted z other) (choose (inverter_phases cs (suc line) other))) (tried-not b c line e)
      ∙ sym (ap (λ (l : List Phase). earlier (inverted b other) (choose l)) (listed-not c cs line e)))

  from-line : (cs : List Cell) (b : Inverter) (line : ℕ) → inverted (inverter_from b cs line) other ≡ earlier (inverted b other) (choose (inverter_phases cs line other))
  unfolding inverter_from inverter_phases choose
  from-line [] b line = end b
  from-line (c ∷ cs) b line = from-line cs (tried b c line) (suc line) ∙ one_cell c cs b line

missing-none : (other p : Phase) → earlier (inverted None other) p ≡ p
unfolding inverted
missing-none other p = earlier-none p

-- "Inverters: smallest delay, then first line."
pub inverter-chosen : (cells : List Cell) (p other : Phase) → choose (p ∷ inverter_phases cells 0 other) ≡ earlier p (inverted (inverter_of cells) other)
unfolding choose inverter_of
inverter-chosen cells p other = ap (earlier p) (sym (from-line other cells None 0 ∙ first))
  where
    first : earlier (inverted None other) (choose (inverter_phases cells 0 other)) ≡ choose (inverter_phases cells 0 other)
    first = missing-none other (choose (inverter_phases cells 0 other))
