-- What is promised of the cell text that is written for a genlib text, for every text and every number of lent bytes.
use Rattle.std.specs.Prelude.{◌^◌, ◌≤◌, ◌<◌, ◌≡◌, ◌&&◌, ◌||◌, ◌∷◌, ◌++◌}
use Rattle.base.specs.{ℕ, max, Bool, true, false, not, Some, List, [], map, Memᴰ, T, length}
use Rattle.base.specs.{get_or}
use Rattle.model.specs.Base.{all, bit}
use Rattle.model.specs.Text.{lines_from, is_name}
use Rattle.model.specs.ReadResult.{holds}
use Rattle.model.specs.LibraryText.{name_bytes, read_library}
use Rattle.model.specs.Demands.{Distinct}
use Rattle.model.specs.GenlibWords.{is_sign, is_word, thousandths}
use Rattle.model.specs.GenlibFormula.{pins_of, name_value}
use Rattle.model.specs.Genlib.{Gate, Group, fits, groups, line_tokens, formula_of, read_genlib, cells_text, genlib_text}
use Rattle.model.specs.declared.Cell.{Cell}

-- the cell of a gate's line, under the shorter names line: its lowest delays are its delays
unfoldable pub cell_of_gate : Gate → Cell
unfolding name_bytes
cell_of_gate g = record { name = name_bytes g.name; len = length g.name; pins = g.pins; table = g.table; area = g.area; delays = g.delays; mins = g.delays }

-- what 3, 4 and 5 ask of names and counts, "tried when the written text is read": at most 32 cells, names of "1 to 8 letters, digits or underscores, a
-- letter first", none repeated
pub record Listable (gs : List Gate) : Type 0 where
  pub few : length gs ≤ 32
  pub names : (g : Gate) → Memᴰ g gs → T (is_name g.name)
  pub once : Distinct (map (λ (g : Gate). g.name) gs)

-- a part of an expression
pub data Part : Type 0 where
  sum : Part
  product : Part
  factor : Part

-- the tokens of a part, and its value where each name has one; no tokens have two values (theory_genlib.Once)
pub data Means (value : List ℕ → Bool) : Part → List (List ℕ) → Bool → Type 0 where
  -- a name is a factor, and so is a sum in brackets: "a bracketed factor of a sum again"
  named : (t : List ℕ) → is_word t ≡ true → Means value factor (t ∷ []) (value t)
  bracketed : {ts : List (List ℕ)} {v : Bool} (t u : List ℕ) → is_sign 40 t ≡ true → Means value sum ts v → is_sign 41 u ≡ true → Means value factor (t ∷ ts ++ (u ∷ [])) v
  -- "any number of `!` before a factor and of `'` after it"
  sign_negated : {ts : List (List ℕ)} {v : Bool} (t : List ℕ) → is_sign 33 t ≡ true → Means value factor ts v → Means value factor (t ∷ ts) (not v)
  primed : {ts : List (List ℕ)} {v : Bool} (t : List ℕ) → Means value factor ts v → is_sign 39 t ≡ true → Means value factor (ts ++ (t ∷ [])) (not v)
  -- "a product of factors"
  one : {ts : List (List ℕ)} {v : Bool} → Means value factor ts v → Means value product ts v
  times : {ts us : List (List ℕ)} {v w : Bool} (t : List ℕ) → Means value product ts v → is_sign 42 t ≡ true → Means value factor us w → Means value product (ts ++ (t ∷ us)) (v && w)
  -- "a sum is made of products"
  alone : {ts : List (List ℕ)} {v : Bool} → Means value product ts v → Means value sum ts v
  plus : {ts us : List (List ℕ)} {v w : Bool} (t : List ℕ) → Means value sum ts v → is_sign 43 t ≡ true → Means value product us w → Means value sum (ts ++ (t ∷ us)) (v || w)

-- "expression, `;`": the tokens behind `=` are a sum with this value, and the `;`
pub record HasValue (value : List ℕ → Bool) (ts : List (List ℕ)) (v : Bool) : Type 0 where
  pub expression : List (List ℕ)
  pub is_all : ts ≡ expression ++ ((59 ∷ []) ∷ [])
  pub means : Means value sum expression v

-- the delay of a pin by the PIN lines of its gate: "the first that fits counts"; "the larger of its rise and fall block delays"
pub record HasDelay (lines : List (List (List ℕ))) (name : List ℕ) (d : ℕ) : Type 0 where
  pub before : List (List (List ℕ))
  pub line : List (List ℕ)
  pub after : List (List (List ℕ))
  pub is_all : lines ≡ before ++ (line ∷ after)
  pub others : T (all (λ (ts : List (List ℕ)). not (fits name ts)) before)
  pub fitting : T (fits name line)
  pub rise : ℕ
  pub fall : ℕ
  pub is_rise : thousandths (get_or line 5 []) ≡ Some rise
  pub is_fall : thousandths (get_or line 7 []) ≡ Some fall
  pub larger : d ≡ max rise fall

-- the gate that is written for a GATE line and its PIN lines: "The written table must equal the expression in its 2^pins rows and be 0 above, like
-- absent pins' delays"
pub record GateMeans (g : Group) (c : Gate) : Type 0 where
  pub name : c.name ≡ get_or (line_tokens g.head) 1 []
  pub area : thousandths (get_or (line_tokens g.head) 2 []) ≡ Some c.area
  pub pins : c.pins ≡ length (pins_of (formula_of g))
  pub rows : (r : ℕ) → r < 2 ^ c.pins → HasValue (name_value (pins_of (formula_of g)) r) (formula_of g) (bit c.table r)
  pub above : (r : ℕ) → 2 ^ c.pins ≤ r → bit c.table r ≡ false
  pub four : length c.delays ≡ 4
  pub delays : (j : ℕ) → j < c.pins → HasDelay (map line_tokens g.lines) (get_or (pins_of (formula_of g)) j []) (get_or c.delays j 0)
  pub absent : (j : ℕ) → c.pins ≤ j → get_or c.delays j 0 ≡ 0

-- one gate for each group, in order
abbrev pub GatesMean : List Group → List Gate → Type 0
GatesMean [] [] = Unit
GatesMean [] (c ∷ cs) = ⊥
GatesMean (g ∷ gs) [] = ⊥
GatesMean (g ∷ gs) (c ∷ cs) = GateMeans g c × GatesMean gs cs

-- "Read GATE and PIN lines and write our cell text": the text t is written for a genlib text; where 3 to 6 accept its names and counts, it is read as
-- the cells of its gates
pub record WrittenCells (genlib : List ℕ) (bytes : ℕ) (t : List ℕ) : Type 0 where
  pub gates : List Gate
  pub is_read : read_genlib genlib ≡ holds gates
  pub mean : GatesMean (groups (lines_from 0 [] genlib)) gates
  pub is_text : t ≡ cells_text gates
  pub capacity : length t ≤ bytes
  pub back : Listable gates → read_library t ≡ holds (map cell_of_gate gates)

abbrev pub GenlibDemand : List ℕ → ℕ → Type 0
GenlibDemand genlib bytes = (t : List ℕ) → genlib_text genlib bytes ≡ holds t → WrittenCells genlib bytes t
