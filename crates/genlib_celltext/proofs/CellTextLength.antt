-- The parts of a gate's line in the order in which they are written, and their lengths.
use Rattle.base.specs.{◌≡◌, refl, sym, ap, ◌∙◌, List, [], ◌∷◌, ◌++◌, append_assoc, ℕ, ◌+◌, ◌-◌, ◌≤◌, ◌<◌, add-one, arith, length, drop}
use Rattle.base.specs.{length-append, length-drop, length-take-le, zero, suc, take, get_or, drop-cons, drop_of_length-le}
use Rattle.model.specs.{each, decimal, hex_text, number_text, gate_text}
use Rattle.base_text.proofs.{dec_below}
use Rattle.genlib_celltext.specs.declared.Gate.{Gate}
use Rattle.genlib_celltext.specs.{delays_of, name_in, gate_in, Stands}

-- ---- a field

pub field_is : (n : ℕ) → number_text n ≡ 32 ∷ decimal n
unfolding number_text
field_is n = refl

pub field_length : (n : ℕ) → length (number_text n) ≡ length (decimal n) + 1
field_length n = ap length (field_is n) ∙ sym (add-one (length (decimal n)))

-- the digits of a number below 2 ^ 16
pub five-digits : (n : ℕ) → n < 65536 → length (decimal n) ≤ 5
five-digits n h = dec_below 4 n (omega arith)

-- ---- delays

-- one delay more
each-more : (l : List ℕ) (i : ℕ) → i < length l → each number_text (drop i l) ≡ number_text (get_or l i 0) ++ each number_text (drop (i + 1) l)
unfolding each
each-more l i h = rw (drop-cons l i 0 h, add-one i)

pub text-more : (l : List ℕ) (i : ℕ) → i < length l → each number_text (drop i l) ++ (10 ∷ []) ≡ number_text (get_or l i 0) ++ (each number_text (drop (i + 1) l) ++ (10 ∷ []))
text-more l i h = rw (each-more l i h) (append_assoc (number_text (get_or l i 0)) (each number_text (drop (i + 1) l)) (10 ∷ []))

pub text_end : (l : List ℕ) (i : ℕ) → length l ≤ i → each number_text (drop i l) ++ (10 ∷ []) ≡ 10 ∷ []
unfolding each
text_end l i h = rw (drop_of_length-le l h)

pub length-more : (l : List ℕ) (i : ℕ) → i < length l → length (each number_text (take (i + 1) l)) ≡ length (each number_text (take i l)) + length (number_text (get_or l i 0))
unfolding each
length-more [] i h = absurd (omega arith)
length-more (x ∷ l) zero h = omega (arith, length-append (number_text x) [])
length-more (x ∷ l) (suc i) h =
    let e : suc i + 1 ≡ suc (i + 1) = omega arith in
    rw e (omega (arith, length-append (number_text x) (each number_text (take (i + 1) l)), length-append (number_text x) (each number_text (take i l)), length-more l i (omega arith)))

-- ---- the line

pub hex_length : (n : ℕ) → length (32 ∷ hex_text n) ≡ 5
unfolding hex_text
hex_length n = refl

-- what stands behind the name
abbrev pub behind_name : Gate → List ℕ
behind_name g = number_text g.pins ++ ((32 ∷ hex_text g.table) ++ (number_text g.area ++ (each number_text (delays_of g) ++ (10 ∷ []))))

pub gate-is : (s : List ℕ) (g : Gate) → gate_text (gate_in s g) ≡ name_in s g ++ behind_name g
unfolding gate_text
gate-is s g = refl

name-length : (s : List ℕ) (g : Gate) → Stands s g → length (name_in s g) ≡ g.to - g.from
name-length s g h = length-take-le (g.to - g.from) (drop g.from s) (omega (arith, h.0, h.1, length-drop g.from s))

pub gate-length : (s : List ℕ) (g : Gate) → Stands s g
    → length (gate_text (gate_in s g)) ≡ g.to - g.from + length (number_text g.pins) + length (number_text g.area) + length (each number_text (delays_of g)) + 6
gate-length s g h =
    omega (
      arith,
      ap length (gate-is s g) ∙ length-append (name_in s g) (behind_name g),
      name-length s g h,
      length-append (number_text g.pins) ((32 ∷ hex_text g.table) ++ (number_text g.area ++ (each number_text (delays_of g) ++ (10 ∷ [])))),
      length-append (32 ∷ hex_text g.table) (number_text g.area ++ (each number_text (delays_of g) ++ (10 ∷ []))),
      hex_length g.table,
      length-append (number_text g.area) (each number_text (delays_of g) ++ (10 ∷ [])),
      length-append (each number_text (delays_of g)) (10 ∷ []),
    )
