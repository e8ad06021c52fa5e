-- The forms of the three texts as relations over bytes, written from the documents' sentences: what a number, a name, a table, a line, a header, a cell line,
-- a line of literals and a difference is. Each says that bytes are such a thing and what they mean; no reader stands here.
use Rattle.std.specs.Prelude.{◌+◌, ◌-◌, ◌*◌, ◌≤◌, ◌<◌, ◌≡◌, ◌⊎◌, ◌∷◌, ◌++◌}
use Rattle.base.specs.{ℕ, Bool, true, false, List, [], Memᴰ, length, replicate}
use Rattle.model.specs.{text}
use Rattle.model.specs.declared.Cell.{Cell}
use Rattle.model.specs.declared.Header.{Header}

-- ---- bytes

abbrev pub Within : ℕ → ℕ → ℕ → Type 0
Within low high b = (low ≤ b) × (b ≤ high)

-- letters, of either case
abbrev pub Letter : ℕ → Type 0
Letter b = Within 65 90 b ⊎ Within 97 122 b

-- "letters, digits or underscores"
abbrev pub NameByte : ℕ → Type 0
NameByte b = Letter b ⊎ Within 48 57 b ⊎ (b ≡ 95)

-- ---- fields

-- "A name is 1 to 8 letters, digits or underscores, a letter first."
pub data Name : List ℕ → Type 0 where
  name : {b : ℕ} {bs : List ℕ} → Letter b → ((x : ℕ) → Memᴰ x bs → NameByte x) → length (b ∷ bs) ≤ 8 → Name (b ∷ bs)

-- "in decimal without leading zeros": a digit; or a number that is not 0, and a digit behind it
pub data Decimal : List ℕ → ℕ → Type 0 where
  digit : {d : ℕ} → d ≤ 9 → Decimal ((48 + d) ∷ []) d
  more : {w : List ℕ} {n d : ℕ} → Decimal w n → 0 < n → d ≤ 9 → Decimal (w ++ ((48 + d) ∷ [])) (n * 10 + d)

-- "0 to 65,535, without leading zeros"
abbrev pub Number : List ℕ → ℕ → Type 0
Number w n = Decimal w n × (n ≤ 65535)

-- numbers, one for each field
pub data Numbers : List (List ℕ) → List ℕ → Type 0 where
  none : Numbers [] []
  one : {w : List ℕ} {n : ℕ} {ws : List (List ℕ)} {ns : List ℕ} → Number w n → Numbers ws ns → Numbers (w ∷ ws) (n ∷ ns)

-- a "lower-case hexadecimal" digit and its value: 0 to 9, a to f
pub data Hex : ℕ → ℕ → Type 0 where
  figure : {d : ℕ} → d ≤ 9 → Hex (48 + d) d
  letter : {d : ℕ} → d ≤ 5 → Hex (97 + d) (10 + d)

-- "The table is four lower-case hexadecimal digits"
pub data Table : List ℕ → ℕ → Type 0 where
  four : {a b c d w x y z : ℕ} → Hex a w → Hex b x → Hex c y → Hex d z → Table (a ∷ b ∷ c ∷ d ∷ []) (w * 4096 + x * 256 + y * 16 + z)

-- ---- lines

-- "One space separates fields": the fields' bytes with one space between
abbrev pub joined : List (List ℕ) → List ℕ
joined [] = []
joined (w ∷ []) = w
joined (w ∷ v ∷ ws) = w ++ (32 ∷ joined (v ∷ ws))

-- "byte 10 ends every line"; "lines end in bytes 13 and 10. Accept either ending .. in library and ASCII graph", and not in the binary form
pub data End : Bool → List ℕ → Type 0 where
  ten : {binary : Bool} → End binary (10 ∷ [])
  both : End false (13 ∷ 10 ∷ [])

-- bytes that are a line with such contents and its end
pub record LineOf (binary : Bool) {A : Type 0} (P : List ℕ → A → Type 0) (s : List ℕ) (a : A) : Type 0 where
  pub contents : List ℕ
  pub ending : List ℕ
  pub whole : s ≡ contents ++ ending
  pub ends : End binary ending
  pub is : P contents a

-- a text begins with bytes that are so
pub record Begins {A : Type 0} (P : List ℕ → A → Type 0) (t : List ℕ) (a : A) : Type 0 where
  pub front : List ℕ
  pub behind : List ℕ
  pub whole : t ≡ front ++ behind
  pub is : P front a

-- it begins with none, whatever it would mean
abbrev pub BeginsNone : {A : Type 0} → (List ℕ → A → Type 0) → List ℕ → Type 0
BeginsNone {A} P t = ¬ ((a : A) × Begins P t a)

-- ---- the library

-- the names line: "`cell pins table area d0 d1 d2 d3`", or with "`l0` to `l3` after `d3`", where delays are ranges
pub data Names : List ℕ → Bool → Type 0 where
  shorter : Names (text "cell pins table area d0 d1 d2 d3") false
  longer : Names (text "cell pins table area d0 d1 d2 d3 l0 l1 l2 l3") true

abbrev pub NamesLine : List ℕ → Bool → Type 0
NamesLine = LineOf false Names

-- the lowest delays: under the longer names line four numbers more; under the shorter none, and a pin's lowest delay is its delay
pub data MinDelays : Bool → List (List ℕ) → List ℕ → List ℕ → Type 0 where
  given : {fs : List (List ℕ)} {ds ls : List ℕ} → Numbers fs ls → length ls ≡ 4 → MinDelays true fs ds ls
  same : {ds : List ℕ} → MinDelays false [] ds ds

-- "each further line gives one cell's values in that order": a name, pins "0 to 4", the table, "Area and pin delays"
pub record CellFields (ranged : Bool) (w : List ℕ) (c : Cell) : Type 0 where
  pub name_field : List ℕ
  pub pins_field : List ℕ
  pub table_field : List ℕ
  pub area_field : List ℕ
  pub delay_fields : List (List ℕ)
  pub min_fields : List (List ℕ)
  pub whole : w ≡ joined (name_field ∷ pins_field ∷ table_field ∷ area_field ∷ delay_fields ++ min_fields)
  pub is_name : Name name_field
  pub name : c.name ≡ name_field ++ replicate (8 - length name_field) 0
  pub len : c.len ≡ length name_field
  pub pins : Number pins_field c.pins
  pub few : c.pins ≤ 4
  pub table : Table table_field c.table
  pub area : Number area_field c.area
  pub delays : Numbers delay_fields c.delays
  pub four : length c.delays ≡ 4
  pub mins : MinDelays ranged min_fields c.delays c.mins

abbrev pub CellLine : Bool → List ℕ → Cell → Type 0
CellLine ranged = LineOf false (CellFields ranged)

-- ---- the graph's header

-- "`aag M I L O A`", or `aig` "known by the header's first word"
pub data Word : List ℕ → Bool → Type 0 where
  aag : Word (text "aag") false
  aig : Word (text "aig") true

pub record HeaderFields (w : List ℕ) (h : Header) : Type 0 where
  pub word : List ℕ
  pub fields : List (List ℕ)
  pub whole : w ≡ joined (word ∷ fields)
  pub is_word : Word word h.binary
  pub numbers : Numbers fields (h.size ∷ h.inputs ∷ h.latches ∷ h.outputs ∷ h.ands ∷ [])

-- its line, ended as its form has it; what follows the header begins behind it
pub record HeaderLine (s : List ℕ) (h : Header) : Type 0 where
  pub line : LineOf h.binary HeaderFields s h
  pub next : h.next ≡ length s

-- ---- lines of numbers

-- so many numbers, "one space between"
pub record NumberFields (n : ℕ) (w : List ℕ) (ns : List ℕ) : Type 0 where
  pub fields : List (List ℕ)
  pub whole : w ≡ joined fields
  pub numbers : Numbers fields ns
  pub count : length ns ≡ n

abbrev pub NumberLine : Bool → ℕ → List ℕ → List ℕ → Type 0
NumberLine binary n = LineOf binary (NumberFields n)

-- ---- the arrivals' first line

pub data Title : List ℕ → Unit {0} → Type 0 where
  title : Title (text "input arrival") tt

abbrev pub TitleLine : List ℕ → Unit {0} → Type 0
TitleLine = LineOf false Title

-- ---- differences

-- "groups of seven bits, lowest first, the top bit set on all but the last byte", of at most two bytes
pub data Difference : List ℕ → ℕ → Type 0 where
  short : {b : ℕ} → b < 128 → Difference (b ∷ []) b
  long : (b : ℕ) {c : ℕ} → c < 128 → Difference ((128 + b) ∷ c ∷ []) (b + 128 * c)
