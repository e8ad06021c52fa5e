-- A genlib text, read: the cell text that is written for it, or the first refusal of 1, 22 to 24 and 18.
use Rattle.std.specs.Prelude.{◌+◌, ◌/◌, ◌%◌, ◌^◌, ◌&&◌, ◌||◌, ◌∷◌, ◌++◌, Ok, Err}
use Rattle.base.specs.{ℕ, max, Bool, true, false, cond, Option, None, Some, List, [], map, eqb}
use Rattle.base.specs.{leb, ltb, length, drop, get_or}
use Rattle.model.specs.Base.{all, each, keep, same, and_then}
use Rattle.model.specs.Text.{Line, text, decimal, lines_from, ended, is_name_byte}
use Rattle.model.specs.ReadResult.{Read, holds, fault, next, unless, from?, refused_with, Written}
use Rattle.model.specs.GenlibWords.{tokens, is_blank, is_sign, is_word, is_figure, thousandths, span}
use Rattle.model.specs.GenlibFormula.{formed, shallow, is_pin, pins_of, name_value, value_of, row_bits}

-- ---- the form of the lines

-- the name that a line begins with, behind blanks
unfoldable pub first_name : List ℕ → List ℕ
unfolding span is_blank is_name_byte
first_name w = span is_name_byte (drop (length (span is_blank w)) w)

-- a line whose first word is GATE; it starts a group even if it is broken
unfoldable pub starts_gate : Line → Bool
unfolding same first_name text
starts_gate l = same (first_name l.bytes) (text "GATE")

-- "A GATE line has name, area, output, `=`, expression, `;`"
unfoldable pub gate_head : List (List ℕ) → Bool
unfolding same text is_word is_figure is_sign
gate_head ts =
    same (get_or ts 0 []) (text "GATE")
    && (is_word (get_or ts 1 [])
    && (is_figure (get_or ts 2 [])
    && (is_word (get_or ts 3 []) && is_sign 61 (get_or ts 4 []))))

unfoldable pub is_gate_line : List (List ℕ) → Bool
unfolding gate_head formed
is_gate_line ts = gate_head ts && formed (drop 5 ts)

-- "a PIN line name, phase, two loads, then block and fanout delay for rise, then for fall": nine words; the name may be `*`
unfoldable pub pin_head : List (List ℕ) → Bool
unfolding same text is_word is_sign
pin_head ts = same (get_or ts 0 []) (text "PIN") && (is_word (get_or ts 2 []) && (is_sign 42 (get_or ts 1 []) || is_word (get_or ts 1 [])))

unfoldable pub is_pin_line : List (List ℕ) → Bool
unfolding pin_head is_figure all
is_pin_line ts = eqb (length ts) 9 && (pin_head ts && all is_figure (drop 3 ts))

-- a line that has its end, and whose tokens pass
unfoldable pub line_is : (List (List ℕ) → Bool) → Line → Bool
unfolding tokens
line_is p l = ended l && p (tokens l.bytes)

-- ---- PIN lines that count

-- "`PIN *` fits all pins"
unfoldable pub fits : List ℕ → List (List ℕ) → Bool
unfolding is_sign same
fits name ts = is_sign 42 (get_or ts 1 []) || same name (get_or ts 1 [])

-- "the first that fits counts"
unfoldable pub pin_line : List ℕ → List (List (List ℕ)) → Option (List (List ℕ))
unfolding fits
pin_line name [] = None
pin_line name (ts ∷ rest) = let r = pin_line name rest in cond (fits name ts) (Some ts) r

unfoldable pub is_there : {A : Type 0} → Option A → Bool
is_there None = false
is_there (Some a) = true

unfoldable pub has_line : List (List (List ℕ)) → List ℕ → Bool
unfolding is_there pin_line
has_line lines name = is_there (pin_line name lines)

-- "A pin's delay is the larger of its rise and fall block delays"
unfoldable pub delay_of : List (List ℕ) → Option ℕ
unfolding and_then thousandths
delay_of ts = and_then (thousandths (get_or ts 5 [])) (λ rise. and_then (thousandths (get_or ts 7 [])) (λ fall. Some (max rise fall)))

-- the delay of pin j, "0 .. like absent pins' delays"
unfoldable pub pin_delay : List (List (List ℕ)) → List (List ℕ) → ℕ → Option ℕ
unfolding and_then pin_line delay_of
pin_delay lines names j = let d = and_then (pin_line (get_or names j []) lines) delay_of in cond (ltb j (length names)) d (Some 0)

-- d0 to d3
unfoldable pub delays_of : List (List (List ℕ)) → List (List ℕ) → Option (List ℕ)
unfolding and_then pin_delay
delays_of lines names =
    and_then (pin_delay lines names 0) (λ d0.
    and_then (pin_delay lines names 1) (λ d1.
    and_then (pin_delay lines names 2) (λ d2.
    and_then (pin_delay lines names 3) (λ d3.
    Some (d0 ∷ d1 ∷ d2 ∷ d3 ∷ [])))))

-- ---- a gate

-- what is written of a gate; `delays` are d0 to d3
pub record Gate : Type 0 where
  pub name : List ℕ
  pub pins : ℕ
  pub table : ℕ
  pub area : ℕ
  pub delays : List ℕ

-- a GATE line "with the lines up to the next GATE"
pub record Group : Type 0 where
  pub head : Line
  pub lines : List Line

-- the lines up to the next GATE line, and the groups from there on
unfoldable pub grouped : List Line → List Line × List Group
unfolding starts_gate
grouped [] = ([], [])
grouped (l ∷ ls) = let r = grouped ls in cond (starts_gate l) ([], record { head = l; lines = r.0 } ∷ r.1) (l ∷ r.0, r.1)

-- the groups of a text; a first line that is no GATE line heads one, which 22 refuses at "its own" offset
unfoldable pub groups : List Line → List Group
unfolding grouped
groups [] = []
groups (l ∷ ls) = record { head = l; lines = (grouped ls).0 } ∷ (grouped ls).1

-- "The written table must equal the expression in its 2^pins rows and be 0 above"
unfoldable pub table_of : List (List ℕ) → ℕ
unfolding row_bits value_of name_value pins_of
table_of formula = let pins = pins_of formula in row_bits (λ r. value_of (name_value pins r) formula) 0 (2 ^ length pins)

-- a line's tokens
unfoldable pub line_tokens : Line → List (List ℕ)
unfolding tokens
line_tokens l = tokens l.bytes

-- the expression's tokens
unfoldable pub formula_of : Group → List (List ℕ)
unfolding line_tokens
formula_of g = drop 5 (line_tokens g.head)

-- "22 when a line, even an empty one, breaks this form, .. or a pin has no PIN line"
unfoldable pub group_formed : Group → Bool
unfolding line_is is_gate_line is_pin_line all has_line keep is_pin formula_of line_tokens
group_formed g =
    line_is is_gate_line g.head
    && (all (line_is is_pin_line) g.lines
    && all (has_line (map line_tokens g.lines)) (keep is_pin (formula_of g)))

-- not "23 when a gate has over four pins or brackets over 16 deep"
unfoldable pub group_small : Group → Bool
unfolding pins_of formula_of shallow
group_small g = leb (length (pins_of (formula_of g))) 4 && shallow 0 (formula_of g)

-- the gate of a GATE line's tokens and the tokens of its PIN lines, unless "24 when a used figure has over three decimals or exceeds 65.535"
unfoldable pub gate_from : List (List (List ℕ)) → List (List ℕ) → Option Gate
unfolding and_then thousandths delays_of pins_of table_of
gate_from lines ts =
    let names = pins_of (drop 5 ts) in
    and_then (thousandths (get_or ts 2 [])) (λ area.
    and_then (delays_of lines names) (λ delays.
    Some (record { name = get_or ts 1 []; pins = length names; table = table_of (drop 5 ts); area = area; delays = delays })))

unfoldable pub gate_of : Group → Option Gate
unfolding gate_from line_tokens
gate_of g = gate_from (map line_tokens g.lines) (line_tokens g.head)

-- "tried in this order, .. at the GATE line's offset"
unfoldable pub read_group : Group → Read Gate
unfolding unless from? group_formed group_small gate_of
read_group g =
    unless (group_formed g) 22 g.head.offset
    (unless (group_small g) 23 g.head.offset
    (from? (gate_of g) 24 g.head.offset))

-- "gate by gate"
unfoldable pub read_groups : List Group → Read (List Gate)
unfolding next read_group
read_groups [] = holds []
read_groups (g ∷ gs) = next (read_group g) (λ c. next (read_groups gs) (λ cs. holds (c ∷ cs)))

-- the gates of a genlib text
unfoldable pub read_genlib : List ℕ → Read (List Gate)
unfolding read_groups groups lines_from
read_genlib bytes = read_groups (groups (lines_from 0 [] bytes))

-- ---- what is written

-- a lower-case hexadecimal digit
unfoldable pub hex_byte : ℕ → ℕ
hex_byte d = cond (ltb d 10) (48 + d) (87 + d)

-- "four lower-case hexadecimal digits"
unfoldable pub hex_text : ℕ → List ℕ
unfolding hex_byte
hex_text n = hex_byte (n / 4096 % 16) ∷ hex_byte (n / 256 % 16) ∷ hex_byte (n / 16 % 16) ∷ hex_byte (n % 16) ∷ []

-- a space and a number
unfoldable pub number_text : ℕ → List ℕ
unfolding decimal
number_text n = 32 ∷ decimal n

-- "cell pins table area d0 d1 d2 d3"
unfoldable pub gate_text : Gate → List ℕ
unfolding number_text hex_text each
gate_text g =
    g.name
    ++ (number_text g.pins
    ++ (32 ∷ hex_text g.table
    ++ (number_text g.area
    ++ (each number_text g.delays ++ (10 ∷ [])))))

-- "write our cell text": the names line and a line for each gate
unfoldable pub cells_text : List Gate → List ℕ
unfolding text each gate_text
cells_text gs = text "cell pins table area d0 d1 d2 d3\n" ++ each gate_text gs

-- ---- the call

-- what a call writes into so many bytes: "1 is tried first, on the genlib text, 18 last for this memory"
unfoldable pub genlib_text : List ℕ → ℕ → Read (List ℕ)
unfolding unless next read_genlib cells_text
genlib_text genlib bytes =
    unless (leb (length genlib) 65536) 1 0
    (next (read_genlib genlib) (λ gs.
    let t = cells_text gs in unless (leb (length t) bytes) 18 (length t) (holds t)))

-- the answer of a call that writes a text
unfoldable pub written_answer : Read (List ℕ) → Written
written_answer (holds t) = Ok (length t)
written_answer (fault n k) = refused_with n k

-- what the document says that such a call returns: "Success .. returns 0 and the length"
unfoldable pub written_pair : Written → ℕ × ℕ
written_pair (Ok n) = (0, n)
written_pair (Err r) = (r.number, r.place)

-- the same of what is written: what a call returns, whatever its answer is made of
unfoldable pub written_by : Read (List ℕ) → ℕ × ℕ
written_by (holds t) = (0, length t)
written_by (fault n k) = (n, k)

-- "a refusal leaves it unchanged"; success "keeps the bytes after the text"
unfoldable pub written_after : Read (List ℕ) → List ℕ → List ℕ
written_after (holds t) memory = t ++ drop (length t) memory
written_after (fault n k) memory = memory
