-- The forms of a genlib text as relations over bytes, written from N6's sentences: what blanks, names, signs, figures, a GATE line, a PIN line, the pins of an
-- expression and their delays are. Each says that bytes are such a thing and what they mean; no reader stands here.
use Rattle.std.specs.Prelude.{◌+◌, ◌-◌, ◌*◌, ◌^◌, ◌≤◌, ◌<◌, ◌≡◌, ◌⊎◌, ◌↔◌, ◌&&◌, ◌||◌, ◌∷◌, ◌++◌}
use Rattle.base.specs.{ℕ, suc, max, Bool, true, false, not, List, []}
use Rattle.base.specs.{Memᴰ, length, get_or}
use Rattle.model.specs.{bit, text, Distinct, Part, product, factor}
use Rattle.model.specs.GenlibDemands.{sum}
use Rattle.promises.specs.LineForms.{NameByte, LineOf}

-- ---- bytes and words

-- "Spaces or tabs"
pub data Blank : ℕ → Type 0 where
  space : Blank 32
  tab : Blank 9

-- a byte of a name, or a figure's point
abbrev pub WordByte : ℕ → Type 0
WordByte b = NameByte b ⊎ (b ≡ 46)

-- bytes of which each is so, one at least
pub data Run (P : ℕ → Type 0) : List ℕ → Type 0 where
  run : {b : ℕ} {w : List ℕ} → P b → ((x : ℕ) → Memᴰ x w → P x) → Run P (b ∷ w)

-- the bytes do not begin with one that is so
abbrev pub Stops : (ℕ → Type 0) → List ℕ → Type 0
Stops P [] = Unit {0}
Stops P (b ∷ s) = ¬ P b

-- "Spaces or tabs part words and may stand beside signs and at a line's ends": a line's contents and the words and signs in it
pub data Spelled : List ℕ → List (List ℕ) → Type 0 where
  none : Spelled [] []
  blank : {b : ℕ} {s : List ℕ} {ts : List (List ℕ)} → Blank b → Spelled s ts → Spelled (b ∷ s) ts
  -- a sign is one byte of no word
  sign : {b : ℕ} {s : List ℕ} {ts : List (List ℕ)} → (¬ Blank b) → (¬ WordByte b) → Spelled s ts → Spelled (b ∷ s) ((b ∷ []) ∷ ts)
  -- a word goes on up to a blank, a sign or the end
  word : {w s : List ℕ} {ts : List (List ℕ)} → Run WordByte w → Stops WordByte s → Spelled s ts → Spelled (w ++ s) (w ∷ ts)

-- "Names are of letters, digits and underscores"
abbrev pub Named : List ℕ → Type 0
Named = Run NameByte

-- ---- figures

-- digits, and the number that they are, leading zeros or not
pub data Digits : List ℕ → ℕ → Type 0 where
  digit : {d : ℕ} → d ≤ 9 → Digits ((48 + d) ∷ []) d
  more : {w : List ℕ} {n d : ℕ} → Digits w n → d ≤ 9 → Digits (w ++ ((48 + d) ∷ [])) (n * 10 + d)

-- "figures of digits with or without a point and more digits"
pub data Figure : List ℕ → Type 0 where
  whole : {w : List ℕ} {n : ℕ} → Digits w n → Figure w
  pointed : {w f : List ℕ} {n m : ℕ} → Digits w n → Digits f m → Figure (w ++ (46 ∷ f))

-- a figure of at most three decimals, "in thousandths": tenths count hundred, hundredths ten
pub data Thousandths : List ℕ → ℕ → Type 0 where
  wholly : {w : List ℕ} {n : ℕ} → Digits w n → Thousandths w (n * 1000)
  partly : {w f : List ℕ} {n m : ℕ} → Digits w n → Digits f m → length f ≤ 3 → Thousandths (w ++ (46 ∷ f)) (n * 1000 + m * 10 ^ (3 - length f))

-- a used figure that 24 accepts: no "over three decimals", none that "exceeds 65.535"
abbrev pub Usable : List ℕ → ℕ → Type 0
Usable w n = Thousandths w n × (n ≤ 65535)

-- ---- the expression

-- the tokens of a part with brackets at most so deep, and its value where each name has one
pub data Worth (value : List ℕ → Bool) : ℕ → Part → List (List ℕ) → Bool → Type 0 where
  named : {k : ℕ} {t : List ℕ} → Named t → Worth value k factor (t ∷ []) (value t)
  -- "a bracketed factor of a sum again"
  bracketed : {k : ℕ} {ts : List (List ℕ)} {v : Bool} → Worth value k sum ts v → Worth value (suc k) factor ((40 ∷ []) ∷ ts ++ ((41 ∷ []) ∷ [])) v
  -- "any number of `!` before a factor and of `'` after it"
  sign_negated : {k : ℕ} {ts : List (List ℕ)} {v : Bool} → Worth value k factor ts v → Worth value k factor ((33 ∷ []) ∷ ts) (not v)
  primed : {k : ℕ} {ts : List (List ℕ)} {v : Bool} → Worth value k factor ts v → Worth value k factor (ts ++ ((39 ∷ []) ∷ [])) (not v)
  -- "a product of factors"
  one : {k : ℕ} {ts : List (List ℕ)} {v : Bool} → Worth value k factor ts v → Worth value k product ts v
  times : {k : ℕ} {ts us : List (List ℕ)} {v w : Bool} → Worth value k product ts v → Worth value k factor us w → Worth value k product (ts ++ ((42 ∷ []) ∷ us)) (v && w)
  -- "a sum is made of products"
  alone : {k : ℕ} {ts : List (List ℕ)} {v : Bool} → Worth value k product ts v → Worth value k sum ts v
  plus : {k : ℕ} {ts us : List (List ℕ)} {v w : Bool} → Worth value k sum ts v → Worth value k product us w → Worth value k sum (ts ++ ((43 ∷ []) ∷ us)) (v || w)

-- it is an expression, with brackets at most k deep: it has a value, whatever its names' are
abbrev pub Deep : ℕ → List (List ℕ) → Type 0
Deep k ts = (value : List ℕ → Bool) → (v : Bool) × Worth value k sum ts v

-- ---- pins

-- a name in an expression other than "CONST0 and CONST1"
pub record PinName (p : List ℕ) : Type 0 where
  pub is_name : Named p
  pub not_zero : ¬ (p ≡ text "CONST0")
  pub not_one : ¬ (p ≡ text "CONST1")

-- wherever q stands among the tokens, p stands before it
abbrev pub Earlier : List (List ℕ) → List ℕ → List ℕ → Type 0
Earlier ts p q = (s u : List (List ℕ)) → ts ≡ s ++ (q ∷ u) → Memᴰ p s

-- of two names of the list, the first stands earlier
abbrev pub Ascending : List (List ℕ) → List (List ℕ) → Type 0
Ascending ts [] = Unit {0}
Ascending ts (p ∷ ps) = ((q : List ℕ) → Memᴰ q ps → Earlier ts p q) × Ascending ts ps

-- "Pins take their order of first appearance."
pub record InOrder (ts ps : List (List ℕ)) : Type 0 where
  pub pins : (p : List ℕ) → Memᴰ p ps ↔ (Memᴰ p ts × PinName p)
  pub once : Distinct ps
  pub order : Ascending ts ps

-- a name's value in row r: "bit j of r is pin j"
pub data RowValue (ps : List (List ℕ)) (r : ℕ) : List ℕ → Bool → Type 0 where
  zero_value : RowValue ps r (text "CONST0") false
  one_value : RowValue ps r (text "CONST1") true
  pin_value : {j : ℕ} → j < length ps → PinName (get_or ps j []) → RowValue ps r (get_or ps j []) (bit r j)

-- ---- GATE and PIN lines

-- what a GATE line says
pub record GateSays : Type 0 where
  pub name : List ℕ
  pub area : List ℕ
  pub formula : List (List ℕ)

-- "A GATE line has name, area, output, `=`, expression, `;`"
pub record GateContents (s : List ℕ) (g : GateSays) : Type 0 where
  pub output : List ℕ
  pub depth : ℕ
  pub is_all : Spelled s (text "GATE" ∷ g.name ∷ g.area ∷ output ∷ (61 ∷ []) ∷ g.formula ++ ((59 ∷ []) ∷ []))
  pub is_name : Named g.name
  pub is_area : Figure g.area
  pub is_output : Named output
  pub is_formula : Deep depth g.formula

-- what a PIN line says: its name or `*`, and its block delays
pub record PinSays : Type 0 where
  pub name : List ℕ
  pub rise : List ℕ
  pub fall : List ℕ

-- "a PIN line name, phase, two loads, then block and fanout delay for rise, then for fall"; "the phase (any name)"
pub record PinContents (s : List ℕ) (p : PinSays) : Type 0 where
  pub phase : List ℕ
  pub load : List ℕ
  pub most : List ℕ
  pub rise_fanout : List ℕ
  pub fall_fanout : List ℕ
  pub is_all : Spelled s (text "PIN" ∷ p.name ∷ phase ∷ load ∷ most ∷ p.rise ∷ rise_fanout ∷ p.fall ∷ fall_fanout ∷ [])
  pub is_name : (p.name ≡ 42 ∷ []) ⊎ Named p.name
  pub is_phase : Named phase
  pub is_load : Figure load
  pub is_most : Figure most
  pub is_rise : Figure p.rise
  pub is_rise_fanout : Figure rise_fanout
  pub is_fall : Figure p.fall
  pub is_fall_fanout : Figure fall_fanout

-- "lines end as in N5"
abbrev pub GateLine : List ℕ → GateSays → Type 0
GateLine = LineOf false GateContents

abbrev pub PinLine : List ℕ → PinSays → Type 0
PinLine = LineOf false PinContents

-- ---- delays

-- "`PIN *` fits all pins"
abbrev pub Fits : List ℕ → PinSays → Type 0
Fits pin p = (p.name ≡ 42 ∷ []) ⊎ (p.name ≡ pin)

-- "the first that fits counts"
pub record Counts (pin : List ℕ) (ps : List PinSays) (p : PinSays) : Type 0 where
  pub before : List PinSays
  pub after : List PinSays
  pub is_all : ps ≡ before ++ (p ∷ after)
  pub others : (q : PinSays) → Memᴰ q before → ¬ Fits pin q
  pub fitting : Fits pin p

-- "A pin's delay is the larger of its rise and fall block delays"
pub record Delay (pin : List ℕ) (ps : List PinSays) (d : ℕ) : Type 0 where
  pub line : PinSays
  pub counts : Counts pin ps line
  pub rise : ℕ
  pub fall : ℕ
  pub is_rise : Usable line.rise rise
  pub is_fall : Usable line.fall fall
  pub larger : d ≡ max rise fall
