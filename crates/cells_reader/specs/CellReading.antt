-- What each function of the library's reader answers, composed of what the readers of the crate text find.
use Rattle.std.specs.Prelude.{◌+◌, ◌-◌, ◌&&◌, ◌||◌, ◌∷◌, Result, Ok, Err}
use Rattle.base.specs.{ℕ, zero, suc, Bool, true, false, not, Option, None, Some, List, [], eqb, ltb, leb, length, take, drop, get_or, set}
use Rattle.model.specs.{same, any, text, name_of, no_cell, name_bytes, is_clean, no_lower}
use Rattle.model.specs.declared.Cell.{Cell}
use Rattle.model.specs.declared.Library.{Library}
use Rattle.base_text.specs.{on_number, on_step, number_then, number_end, table_then, name_at, byte_at}
use Rattle.base_text.specs.declared.Cursor.{Cursor}
use Rattle.cells_reader.specs.declared.FormedLine.{FormedLine}
use Rattle.cells_reader.specs.declared.Figures.{Figures}
use Rattle.cells_reader.specs.declared.Delays.{Delays}

-- ---- the form of a cell line

-- a delay and what stands behind it: the line's end behind the last of a line, else a space
abbrev pub delay_at : Bool → List ℕ → ℕ → Option (ℕ × Cursor)
delay_at true s at = number_end s at
delay_at false s at = number_then s at 32

abbrev pub four_of : ℕ → ℕ → ℕ → ℕ → Delays
four_of d0 d1 d2 d3 = record { d0 = d0; d1 = d1; d2 = d2; d3 = d3 }

unfoldable pub delays_at : Bool → List ℕ → ℕ → Option (Delays × Cursor)
delays_at last s at =
    on_number (number_then s at 32) (λ d0 c0.
    on_number (number_then s c0.at 32) (λ d1 c1.
    on_number (number_then s c1.at 32) (λ d2 c2.
    on_number (delay_at last s c2.at) (λ d3 c3. Some (four_of d0 d1 d2 d3, c3)) None) None) None) None

abbrev pub on_four : {A : Type 0} → Option (Delays × Cursor) → (Delays → Cursor → A) → A → A
on_four (Some (d, c)) f e = f d c
on_four None f e = e

-- the lowest delays behind the delays d
abbrev pub mins_at : Bool → List ℕ → Delays → Cursor → Option (Delays × Delays × Cursor)
mins_at true s d c = on_four (delays_at true s c.at) (λ l e. Some (d, l, e)) None
mins_at false s d c = Some (d, d, c)

unfoldable pub ranges_at : Bool → List ℕ → ℕ → Option (Delays × Delays × Cursor)
ranges_at ranged s at = on_four (delays_at (not ranged) s at) (mins_at ranged s) None

abbrev pub on_ranges : {A : Type 0} → Option (Delays × Delays × Cursor) → (Delays → Delays → Cursor → A) → A → A
on_ranges (Some (d, l, c)) f e = f d l c
on_ranges None f e = e

abbrev pub pick_form : Bool → Option FormedLine → Option FormedLine → Option FormedLine
pick_form true a b = a
pick_form false a b = b

abbrev pub formed : ℕ → Figures → Cursor → FormedLine
formed e f c = record { end = e; figures = f; next = c }

abbrev pub figures_of : ℕ → ℕ → ℕ → Delays → Delays → Figures
figures_of p t a d l = record { pins = p; table = t; area = a; delays = d; mins = l }

-- a line's figures, behind a name that ends at e
unfoldable pub figures_at : Bool → ℕ → List ℕ → ℕ → Option FormedLine
figures_at ranged e s at =
    on_number (number_then s at 32) (λ p c0.
    on_number (table_then s c0.at 32) (λ t c1.
    on_number (number_then s c1.at 32) (λ a c2.
    on_ranges (ranges_at ranged s c2.at) (λ d l c3. pick_form (leb p 4) (Some (formed e (figures_of p t a d l) c3)) None) None) None) None) None

unfoldable pub form_at : Bool → List ℕ → ℕ → Option FormedLine
form_at ranged s at =
    on_step (name_at s at) (λ n.
    on_step (byte_at s n.at 32) (λ c. figures_at ranged n.at s c.at) None) None

-- ---- what a cell line must not say

abbrev pub delay_ok : ℕ → ℕ → ℕ → Bool
delay_ok p j d = ltb j p || eqb d 0

unfoldable pub delays_ok : ℕ → Delays → Bool
delays_ok p d = delay_ok p 0 d.d0 && (delay_ok p 1 d.d1 && (delay_ok p 2 d.d2 && delay_ok p 3 d.d3))

-- ---- cells

abbrev pub listed : Delays → List ℕ
listed d = d.d0 ∷ d.d1 ∷ d.d2 ∷ d.d3 ∷ []

-- the cell of a line's name and figures
unfoldable pub line_cell : List ℕ → Figures → Cell
line_cell w f = record {
  name = name_bytes w;
  len = length w;
  pins = f.pins;
  table = f.table;
  area = f.area;
  delays = listed f.delays;
  mins = listed f.mins;
}

-- the first n cells, the last first
unfoldable pub before : List Cell → ℕ → List Cell
before cells zero = []
before cells (suc i) = get_or cells i no_cell ∷ before cells i

unfoldable pub is_repeated : List ℕ → List Cell → ℕ → Bool
is_repeated w cells n = any (λ (d : Cell). same w (name_of d)) (before cells n)

abbrev pub added : Library → Cell → Library
added l c = record { n = l.n + 1; cells = set l.cells l.n c }

-- ---- lines

abbrev pub pick_validated : Bool → Result FormedLine ℕ → Result FormedLine ℕ → Result FormedLine ℕ
pick_validated true a b = a
pick_validated false a b = b

abbrev pub on_form : {A : Type 0} → Option FormedLine → (FormedLine → A) → A → A
on_form (Some f) g e = g f
on_form None g e = e

-- 6, and 27 behind it
unfoldable pub figures_validated : FormedLine → Result FormedLine ℕ
unfolding line_cell
figures_validated f =
    let c = line_cell [] f.figures in
    pick_validated (is_clean c) (pick_validated (no_lower c.mins c.delays) (Ok f) (Err 27)) (Err 6)

-- 3, 4, 5, 6 and 27 in this order
unfoldable pub validated_at : Bool → Library → List ℕ → ℕ → Result FormedLine ℕ
validated_at ranged l s at =
    pick_validated (ltb l.n 32)
    (on_form (form_at ranged s at) (λ f.
    pick_validated (is_repeated (take (f.end - at) (drop at s)) l.cells l.n) (Err 5) (figures_validated f)) (Err 4))
    (Err 3)

-- the contents of the two names lines
unfoldable pub shorter_line : List ℕ
unfolding text
shorter_line = text "cell pins table area d0 d1 d2 d3"

unfoldable pub longer_line : List ℕ
unfolding text
longer_line = text "cell pins table area d0 d1 d2 d3 l0 l1 l2 l3"
