-- The refusals as conditions over the bytes of the texts, a constructor for each number, by the forms of `LineForms`. A text is refused with a number at a place
-- where what stands before the place is accepted, and what stands there meets the number's condition and none that is tried before it. No reader's definition
-- is used but `graph_of`, which gathers the accepted lines' literals by kind: a reader is named only where `Exactly` says what it does.
use Rattle.std.specs.Prelude.{◌+◌, ◌-◌, ◌*◌, ◌^◌, ◌≤◌, ◌<◌, ◌≡◌, ◌⊎◌, ◌↔◌, ◌∷◌, ◌++◌}
use Rattle.base.specs.{ℕ, suc, Bool, true, false, List, [], map, Memᴰ, length}
use Rattle.base.specs.{get_or, drop, replicate}
use Rattle.model.specs.{bit, from, Read, holds, fault, name_of, var_of, Kind, an_input, an_output, an_and, Item, graph_of, InputArrival, timed_by}
use Rattle.model.specs.{cells_for, Call, Design, design_of, read_texts}
use Rattle.model.specs.Graph.{Graph}
use Rattle.model.specs.declared.Cell.{Cell}
use Rattle.model.specs.declared.Header.{Header}
use Rattle.promises.specs.LineForms.{Begins, BeginsNone, NamesLine, CellLine, HeaderLine, NumberLine, TitleLine, Difference}

-- a reading holds a exactly where `Holds a`, and is refused with number n at place k exactly where `Refuses n k`
pub record Exactly {A : Type 0} (Holds : A → Type 0) (Refuses : ℕ → ℕ → Type 0) (r : Read A) : Type 0 where
  pub accepts : (a : A) → (r ≡ holds a) ↔ Holds a
  pub refuses : (n k : ℕ) → (r ≡ fault n k) ↔ Refuses n k

-- ---- the library: 2 to 6 and 27

-- "A cell name is repeated."
abbrev pub Repeated : Cell → List Cell → Type 0
Repeated c cs = (d : Cell) × Memᴰ d cs × (name_of d ≡ name_of c)

-- "A table bit at or above row 2^pins, or the delay of an absent pin, isn't 0": they all are, and "An absent pin has lowest delay 0"
pub record Clean (c : Cell) : Type 0 where
  pub rows : (r : ℕ) → 2 ^ c.pins ≤ r → bit c.table r ≡ false
  pub delays : (j : ℕ) → c.pins ≤ j → get_or c.delays j 0 ≡ 0
  pub mins : (j : ℕ) → c.pins ≤ j → get_or c.mins j 0 ≡ 0

-- no "lowest delay exceeds its `d`"
abbrev pub Ranged : Cell → Type 0
Ranged c = (j : ℕ) → get_or c.mins j 0 ≤ get_or c.delays j 0

-- bytes that are the names line and lines of these cells, none of which is refused: "No cells and 32 cells are accepted."
pub data CellsIn (ranged : Bool) : List ℕ → List Cell → Type 0 where
  no_cell : {s : List ℕ} → NamesLine s ranged → CellsIn ranged s []
  a_cell : {s l : List ℕ} {cs : List Cell} {c : Cell} → CellsIn ranged s cs → length cs < 32 → CellLine ranged l c → (¬ Repeated c cs) → Clean c → Ranged c
      → CellsIn ranged (s ++ l) (cs ++ (c ∷ []))

-- a cell line's refusal, these cells before it, `t` the text from its first byte on
pub data CellFault (ranged : Bool) (cs : List Cell) (t : List ℕ) : ℕ → Type 0 where
  -- "A thirty-third cell line begins"
  three : ¬ (length cs < 32) → CellFault ranged cs t 3
  -- "A cell line breaks the form above."
  four : length cs < 32 → BeginsNone (CellLine ranged) t → CellFault ranged cs t 4
  -- "A cell name is repeated."
  five : {c : Cell} → length cs < 32 → Begins (CellLine ranged) t c → Repeated c cs → CellFault ranged cs t 5
  -- "A table bit at or above row 2^pins, or the delay of an absent pin, isn't 0."
  six : {c : Cell} → length cs < 32 → Begins (CellLine ranged) t c → (¬ Repeated c cs) → (¬ Clean c) → CellFault ranged cs t 6
  -- "27 when a lowest delay exceeds its `d`, after 6 on its line"
  twenty_seven : {c : Cell} → length cs < 32 → Begins (CellLine ranged) t c → (¬ Repeated c cs) → Clean c → (¬ Ranged c) → CellFault ranged cs t 27

pub data LibraryFault : List ℕ → ℕ → ℕ → Type 0 where
  -- "The library's first line isn't the names line; place 0."
  two : {t : List ℕ} → BeginsNone NamesLine t → LibraryFault t 2 0
  -- "place, its first byte's offset"
  at_line : {ranged : Bool} {s t : List ℕ} {cs : List Cell} {n : ℕ} → CellsIn ranged s cs → (¬ (t ≡ [])) → CellFault ranged cs t n → LibraryFault (s ++ t) n (length s)

abbrev pub LibraryHolds : List ℕ → List Cell → Type 0
LibraryHolds t cs = (ranged : Bool) × CellsIn ranged t cs

-- ---- the header: 7, 8, 9 and 19

-- "M exceeds 4,095, O exceeds 4,096, or I + A exceeds M"
abbrev pub Exceeds : Header → Type 0
Exceeds h = (4095 < h.size) ⊎ (4096 < h.outputs) ⊎ (h.size < h.inputs + h.ands)

-- "a binary header's M isn't I + A"
abbrev pub OutOfSequence : Header → Type 0
OutOfSequence h = (h.binary ≡ true) × (¬ (h.size ≡ h.inputs + h.ands))

pub data HeaderFault (t : List ℕ) : ℕ → ℕ → Type 0 where
  -- "The header breaks its form; place 0, as in 8 to 10."
  seven : BeginsNone HeaderLine t → HeaderFault t 7 0
  -- "L isn't 0."
  eight : {h : Header} → Begins HeaderLine t h → (¬ (h.latches ≡ 0)) → HeaderFault t 8 0
  nine : {h : Header} → Begins HeaderLine t h → h.latches ≡ 0 → Exceeds h → HeaderFault t 9 0
  -- "tried after 9, place 0"
  nineteen : {h : Header} → Begins HeaderLine t h → h.latches ≡ 0 → (¬ Exceeds h) → OutOfSequence h → HeaderFault t 19 0

pub record HeaderHolds (t : List ℕ) (h : Header) : Type 0 where
  pub begins : Begins HeaderLine t h
  pub no_latch : h.latches ≡ 0
  pub in_limits : ¬ Exceeds h
  pub in_sequence : ¬ OutOfSequence h

-- ---- expected lines: 11, 12, 13 and 14

-- how many numbers an expected line has: an input or output line one, an AND line three
pub data Wants : Kind → ℕ → Type 0 where
  input_wants : Wants an_input 1
  output_wants : Wants an_output 1
  and_wants : Wants an_and 3

-- input and AND lines define the variable of their first literal
pub data Defining : Kind → Type 0 where
  input_defines : Defining an_input
  and_defines : Defining an_and

-- the variable that a line of these literals would define
abbrev pub first_var : List ℕ → ℕ
first_var ns = var_of (get_or ns 0 0)

-- a line of the kind, wherever it stands in a text of the form
abbrev pub ExpectedLine : Bool → Kind → List ℕ → List ℕ → Type 0
ExpectedLine is_binary k s ns = (n : ℕ) × Wants k n × NumberLine is_binary n s ns

-- no "literal exceeds 2M+1", and no "input or left literal is odd or 0": it is 2v of a variable v other than 0
pub record Lawful (m : ℕ) (k : Kind) (ns : List ℕ) : Type 0 where
  pub low : (l : ℕ) → Memᴰ l ns → l ≤ 2 * m + 1
  pub even : Defining k → (v : ℕ) × (get_or ns 0 0 ≡ 2 * suc v)

-- a variable is defined by these lines
abbrev pub DefinedBy : List Item → ℕ → Type 0
DefinedBy is v = (i : Item) × Memᴰ i is × Defining i.kind × (v ≡ first_var i.literals)

-- "An input or left variable is already defined."
abbrev pub Again : Kind → List Item → List ℕ → Type 0
Again k is ns = Defining k × DefinedBy is (first_var ns)

-- bytes that are expected lines, from place `start` of the text on, none of which is refused
pub data ExpectedIn (is_binary : Bool) (m start : ℕ) : List ℕ → List Item → Type 0 where
  no_line : ExpectedIn is_binary m start [] []
  a_line : {s l : List ℕ} {is : List Item} {k : Kind} {ns : List ℕ} → ExpectedIn is_binary m start s is → ExpectedLine is_binary k l ns → Lawful m k ns → (¬ Again k is ns)
      → ExpectedIn is_binary m start (s ++ l) (is ++ (record { kind = k; offset = start + length s; literals = ns } ∷ []))

-- the refusal of the line of kind k that is expected behind these, `t` the text from there on
pub data ExpectedFault (is_binary : Bool) (m : ℕ) (is : List Item) (k : Kind) (t : List ℕ) : ℕ → Type 0 where
  -- "A due line breaks its form or is missing"
  eleven : BeginsNone (ExpectedLine is_binary k) t → ExpectedFault is_binary m is k t 11
  -- "A literal exceeds 2M+1, or an input or left literal is odd or 0."
  twelve : {ns : List ℕ} → Begins (ExpectedLine is_binary k) t ns → (¬ Lawful m k ns) → ExpectedFault is_binary m is k t 12
  -- "An input or left variable is already defined."
  thirteen : {ns : List ℕ} → Begins (ExpectedLine is_binary k) t ns → Lawful m k ns → Again k is ns → ExpectedFault is_binary m is k t 13

-- lines of these kinds are expected in this order: all are there ..
pub record ExpectedHolds (is_binary : Bool) (m start : ℕ) (ks : List Kind) (t : List ℕ) (is : List Item) : Type 0 where
  pub front : List ℕ
  pub behind : List ℕ
  pub whole : t ≡ front ++ behind
  pub lines : ExpectedIn is_binary m start front is
  pub kinds : map (λ (i : Item). i.kind) is ≡ ks

-- .. or one of them is refused, at "the line's offset"
pub record ExpectedRefused (is_binary : Bool) (m start : ℕ) (ks : List Kind) (t : List ℕ) (n place : ℕ) : Type 0 where
  pub front : List ℕ
  pub behind : List ℕ
  pub items : List Item
  pub kind : Kind
  pub later : List Kind
  pub whole : t ≡ front ++ behind
  pub lines : ExpectedIn is_binary m start front items
  pub kinds : map (λ (i : Item). i.kind) items ++ (kind ∷ later) ≡ ks
  pub is_fault : ExpectedFault is_binary m items kind behind n
  pub is_place : place ≡ start + length front

-- "I input lines, O output lines and A lines `left right right`"
abbrev pub expected_kinds : Header → List Kind
expected_kinds h = replicate h.inputs an_input ++ (replicate h.outputs an_output ++ replicate h.ands an_and)

-- a line uses a literal: an output line its own, an AND line its operands
pub data Using : Item → ℕ → Type 0 where
  output_uses : {at l : ℕ} {ls : List ℕ} → Memᴰ l ls → Using (record { kind = an_output; offset = at; literals = ls }) l
  and_uses : {at x l : ℕ} {ls : List ℕ} → Memᴰ l ls → Using (record { kind = an_and; offset = at; literals = x ∷ ls }) l

-- "An output or operand uses an undefined variable other than 0"
abbrev pub Stray : List Item → Item → Type 0
Stray is i = (l : ℕ) × Using i l × (¬ (var_of l ≡ 0)) × (¬ DefinedBy is (var_of l))

-- "the first such line"
pub record FirstStray (is : List Item) (place : ℕ) : Type 0 where
  pub before : List Item
  pub item : Item
  pub later : List Item
  pub split : is ≡ before ++ (item ∷ later)
  pub is_stray : Stray is item
  pub none_before : (i : Item) → Memᴰ i before → ¬ Stray is i
  pub is_place : item.offset ≡ place

-- ---- the binary form: 20 and 21

-- bytes that are ANDs in sequence, from place `start` of the text on, the first of literal `left`, none of which is refused: "Each AND is two differences, left
-- minus first operand and first minus second"
pub data AndsIn (start left : ℕ) : List ℕ → List Item → Type 0 where
  no_and : AndsIn start left [] []
  one_and : {s d e : List ℕ} {is : List Item} {x y : ℕ} → AndsIn start left s is → Difference d x → (¬ (x ≡ 0)) → x ≤ left + 2 * length is → Difference e y → y ≤ left + 2 * length is - x
      → AndsIn start left (s ++ (d ++ e))
      (is ++ (record { kind = an_and; offset = start + length s; literals = (left + 2 * length is) ∷ (left + 2 * length is - x) ∷ (left + 2 * length is - x - y) ∷ [] } ∷ []))

-- the refusal of the AND of literal `left` at which the text `t` begins, "at the difference's first byte", so many bytes behind
pub data AndFault (left : ℕ) (t : List ℕ) : ℕ → ℕ → Type 0 where
  -- "20 when a difference takes more than two bytes or the text ends before its end", "21 when a first difference is 0 or a difference exceeds what it is taken from"
  twenty : BeginsNone Difference t → AndFault left t 20 0
  twenty_one : {x : ℕ} → Begins Difference t x → (x ≡ 0) ⊎ (left < x) → AndFault left t 21 0
  -- the same of the second difference
  twenty_next : {x : ℕ} (b : Begins Difference t x) → (¬ (x ≡ 0)) → x ≤ left → BeginsNone Difference b.behind → AndFault left t 20 (length b.front)
  twenty_one_next : {x y : ℕ} (b : Begins Difference t x) → (¬ (x ≡ 0)) → x ≤ left → Begins Difference b.behind y → left - x < y → AndFault left t 21 (length b.front)

pub record AndsHold (start left count : ℕ) (t : List ℕ) (is : List Item) : Type 0 where
  pub front : List ℕ
  pub behind : List ℕ
  pub whole : t ≡ front ++ behind
  pub ands : AndsIn start left front is
  pub number : length is ≡ count

pub record AndsRefused (start left count : ℕ) (t : List ℕ) (n place : ℕ) : Type 0 where
  pub front : List ℕ
  pub behind : List ℕ
  pub items : List Item
  pub far : ℕ
  pub whole : t ≡ front ++ behind
  pub ands : AndsIn start left front items
  pub fewer : length items < count
  pub is_fault : AndFault (left + 2 * length items) behind n far
  pub is_place : place ≡ start + length front + far

-- ---- arrivals: 25 and 26

-- bytes that are the first line and lines of these inputs, none of which is refused, of I inputs
pub data LatesIn (inputs : ℕ) : List ℕ → List InputArrival → Type 0 where
  no_input_arrival : {s : List ℕ} → TitleLine s tt → LatesIn inputs s []
  a_input_arrival : {s l : List ℕ} {es : List InputArrival} {index arrival : ℕ} → LatesIn inputs s es → NumberLine false 2 l (index ∷ arrival ∷ []) → index < inputs
      → (¬ Memᴰ index (map (λ (e : InputArrival). e.index) es)) → LatesIn inputs (s ++ l) (es ++ (record { index = index; arrival = arrival } ∷ []))

pub data InputArrivalFault (inputs : ℕ) (es : List InputArrival) (t : List ℕ) : ℕ → Type 0 where
  -- "25 when a line breaks its form"
  twenty_five : BeginsNone (NumberLine false 2) t → InputArrivalFault inputs es t 25
  -- "26 when an index is I or more, or is repeated"
  twenty_six : {index arrival : ℕ} → Begins (NumberLine false 2) t (index ∷ arrival ∷ []) → (inputs ≤ index) ⊎ Memᴰ index (map (λ (e : InputArrival). e.index) es)
      → InputArrivalFault inputs es t 26

pub data ArrivalsFault (inputs : ℕ) : List ℕ → ℕ → ℕ → Type 0 where
  -- "first line `input arrival`", "or empty for none"
  no_title : {t : List ℕ} → (¬ (t ≡ [])) → BeginsNone TitleLine t → ArrivalsFault inputs t 25 0
  -- "both line by line .., at the line's offset"
  at_input_arrival : {s t : List ℕ} {es : List InputArrival} {n : ℕ} → LatesIn inputs s es → (¬ (t ≡ [])) → InputArrivalFault inputs es t n → ArrivalsFault inputs (s ++ t) n (length s)

abbrev pub ArrivalsHold : ℕ → List ℕ → List InputArrival → Type 0
ArrivalsHold inputs t es = ((t ≡ []) × (es ≡ [])) ⊎ LatesIn inputs t es

-- ---- the graph behind a header that is accepted: `t` is what follows the header's line

-- "Inputs are variables 1 to I", which no line defines
abbrev pub inputs_of : Header → List Item
inputs_of h = map (λ (v : ℕ). record { kind = an_input; offset = h.next; literals = 2 * v ∷ [] }) (from 1 h.inputs)

-- what the text says of inputs, outputs and ANDs: the lines of the ASCII form; or, in the binary form, output lines and "ANDs follow in sequence" behind them
pub data ItemsIn (t : List ℕ) (h : Header) : List Item → Type 0 where
  ascii_items : {is : List Item} → h.binary ≡ false → ExpectedHolds false h.size h.next (expected_kinds h) t is → ItemsIn t h is
  binary_items : {os gs : List Item} → h.binary ≡ true → (o : ExpectedHolds true h.size h.next (replicate h.outputs an_output) t os)
      → AndsHold (h.next + length o.front) (2 * suc h.inputs) h.ands o.behind gs → ItemsIn t h (inputs_of h ++ (os ++ gs))

-- 11 to 13 of the ASCII form; 11 and 12 of the binary form's output lines; 20 and 21 "after the output lines"
pub data ItemsFault (t : List ℕ) (h : Header) : ℕ → ℕ → Type 0 where
  of_lines : {n k : ℕ} → h.binary ≡ false → ExpectedRefused false h.size h.next (expected_kinds h) t n k → ItemsFault t h n k
  of_outputs : {n k : ℕ} → h.binary ≡ true → ExpectedRefused true h.size h.next (replicate h.outputs an_output) t n k → ItemsFault t h n k
  of_ands : {os : List Item} {n k : ℕ} → h.binary ≡ true → (o : ExpectedHolds true h.size h.next (replicate h.outputs an_output) t os)
      → AndsRefused (h.next + length o.front) (2 * suc h.inputs) h.ands o.behind n k → ItemsFault t h n k

-- "An output or operand uses an undefined variable other than 0; the first such line."
pub data GraphFault (t : List ℕ) (h : Header) : ℕ → ℕ → Type 0 where
  of_items : {n k : ℕ} → ItemsFault t h n k → GraphFault t h n k
  fourteen : {is : List Item} {k : ℕ} → ItemsIn t h is → FirstStray is k → GraphFault t h 14 k

-- the graph that the items make: `graph_of` is the definition that the reader ends with
pub record GraphIn (t : List ℕ) (h : Header) (g : Graph) : Type 0 where
  pub items : List Item
  pub are_items : ItemsIn t h items
  pub no_stray : (i : Item) → Memᴰ i items → ¬ Stray items i
  pub is_graph : g ≡ graph_of h.size items

-- ---- the texts of a call, in checking order

-- "A text is longer than 65,536 bytes": none of the three is
abbrev pub Short : Call → Type 0
Short c = (length c.library ≤ 65536) × (length c.graph ≤ 65536) × (length c.arrivals ≤ 65536)

-- no refusal up to 6, 27 and 30
pub record ToCells (c : Call) (cs : List Cell) : Type 0 where
  pub short : Short c
  pub cells : LibraryHolds c.library cs
  pub few : length (cells_for c.paired cs) ≤ 256

-- none up to 9 and 19
pub record ToHeader (c : Call) (cs : List Cell) (h : Header) : Type 0 where
  pub to_cells : ToCells c cs
  pub header : HeaderHolds c.graph h

-- none up to 14, 20 and 21
pub record ToGraph (c : Call) (cs : List Cell) (h : Header) (g : Graph) : Type 0 where
  pub to_header : ToHeader c cs h
  pub enough : 124 * suc h.size + h.outputs ≤ c.words
  pub graph : GraphIn (drop h.next c.graph) h g

-- none of the texts
pub record ToDesign (c : Call) (d : Design) : Type 0 where
  pub listed : List Cell
  pub header : Header
  pub graph : Graph
  pub lates : List InputArrival
  pub to_graph : ToGraph c listed header graph
  pub arrivals : ArrivalsHold header.inputs c.arrivals lates
  pub is_design : design_of c listed (timed_by graph lates) ≡ d

-- the refusals tried before 15
pub data TextsFault (c : Call) : ℕ → ℕ → Type 0 where
  -- "A text is longer than 65,536 bytes; place 0."
  one : (¬ Short c) → TextsFault c 1 0
  of_library : {n k : ℕ} → Short c → LibraryFault c.library n k → TextsFault c n k
  -- "30 when cells and pairs exceed 256, after 6, place 0"
  thirty : {cs : List Cell} → Short c → LibraryHolds c.library cs → 256 < length (cells_for c.paired cs) → TextsFault c 30 0
  of_header : {cs : List Cell} {n k : ℕ} → ToCells c cs → HeaderFault c.graph n k → TextsFault c n k
  -- "Work memory has fewer than 124(M+1) + O 16-bit words."
  ten : {cs : List Cell} {h : Header} → ToHeader c cs h → c.words < 124 * suc h.size + h.outputs → TextsFault c 10 0
  of_graph : {cs : List Cell} {h : Header} {n k : ℕ} → ToHeader c cs h → 124 * suc h.size + h.outputs ≤ c.words → GraphFault (drop h.next c.graph) h n k → TextsFault c n k
  -- "after 14"
  of_arrivals : {cs : List Cell} {h : Header} {g : Graph} {n k : ℕ} → ToGraph c cs h g → ArrivalsFault h.inputs c.arrivals n k → TextsFault c n k

-- what is promised of a call's texts
abbrev pub Refusals : Call → Type 0
Refusals c = Exactly (ToDesign c) (TextsFault c) (read_texts c)
