-- The refusals of a check as conditions: 32 of the netlist's bytes, by the forms of `CheckForms`, 33 of the nets that its lines drive and use, and all that are
-- tried, in checking order. No reader's definition is used: a reader is named only where `Exactly` says what it does.
use Rattle.std.specs.Prelude.{◌+◌, ◌*◌, ◌≤◌, ◌≡◌, ◌⊎◌, ◌∷◌, ◌++◌}
use Rattle.base.specs.{ℕ, suc, List, [], map, Memᴰ, length, drop}
use Rattle.model.specs.Graph.{Graph}
use Rattle.model.specs.{Driver, Edited, read_netlist, validate_nets, read_edited, OrderOfAll}
use Rattle.model.specs.declared.Cell.{Cell}
use Rattle.model.specs.declared.Header.{Header}
use Rattle.promises.specs.LineForms.{BeginsNone}
use Rattle.promises.specs.Refusals.{Exactly, LibraryHolds, LibraryFault, HeaderHolds, HeaderFault, GraphIn, GraphFault}
use Rattle.promises.specs.Outcomes.{LowestUnordered}
use Rattle.promises.specs.CheckForms.{InputNames, Expected, nothing_expected, NextLine, Reached}

-- ---- the text: 32

-- a netlist whose lines up to `.end` are these drivers'
pub record EditedIn (cells : List Cell) (g : Graph) (t : List ℕ) (ds : List Driver) : Type 0 where
  pub front : List ℕ
  pub behind : List ℕ
  pub whole : t ≡ front ++ behind
  pub lines : Reached cells g front (nothing_expected ds)

-- `.end` stands before
abbrev pub Finished : Expected → Type 0
Finished d = (ds : List Driver) × (d ≡ nothing_expected ds)

-- "32 when a line breaks its form, names no listed cell or has other inputs or outputs than the graph", at the first such line: the lines before are as they
-- should be, and the text does not go on with a line that is expected. A missing line's place is the text's length.
pub data EditedFault (cells : List Cell) (g : Graph) : List ℕ → ℕ → ℕ → Type 0 where
  thirty_two : {s t : List ℕ} {d : Expected} → Reached cells g s d → (¬ Finished d) → BeginsNone (NextLine cells g (length s) d) t
      → EditedFault cells g (s ++ t) 32 (length s)

-- what is promised of the reading of an edited netlist
abbrev pub Netlists : List Cell → Graph → List ℕ → Type 0
Netlists cells g t = Exactly (EditedIn cells g t) (EditedFault cells g t) (read_netlist cells g t)

-- ---- the nets: 33

-- a line that is so, by the lines before it
pub record FirstLine (P : List Driver → Driver → Type 0) (ds : List Driver) (place : ℕ) : Type 0 where
  pub before : List Driver
  pub driver : Driver
  pub after : List Driver
  pub is_all : ds ≡ before ++ (driver ∷ after)
  pub is : P before driver
  -- "the first such line"
  pub first : (bs : List Driver) (d : Driver) (cs : List Driver) → before ≡ bs ++ (d ∷ cs) → ¬ P bs d
  pub is_place : driver.offset ≡ place

abbrev pub NoLine : (List Driver → Driver → Type 0) → List Driver → Type 0
NoLine P ds = (bs : List Driver) (d : Driver) (cs : List Driver) → ds ≡ bs ++ (d ∷ cs) → ¬ P bs d

-- "a line drives a net already driven"; "`.inputs` drives its nets"
abbrev pub Again : List (List ℕ) → List Driver → Driver → Type 0
Again inputs before d = Memᴰ d.net inputs ⊎ Memᴰ d.net (map (λ (e : Driver). e.net) before)

-- "one uses a net that no line drives"
abbrev pub Undriven : List (List ℕ) → List Driver → List Driver → Driver → Type 0
Undriven inputs ds before d = (n : List ℕ) × Memᴰ n d.uses × (¬ Memᴰ n inputs) × (¬ Memᴰ n (map (λ (e : Driver). e.net) ds))

-- one net feeds another, directly or through others
pub data Feeds (ds : List Driver) : List ℕ → List ℕ → Type 0 where
  direct : {x : List ℕ} (d : Driver) → Memᴰ d ds → Memᴰ x d.uses → Feeds ds x d.net
  onward : {x y : List ℕ} (d : Driver) → Feeds ds x y → Memᴰ d ds → Memᴰ y d.uses → Feeds ds x d.net

-- "one drives a net on a circle": a net that feeds itself
abbrev pub OnCycle : List Driver → List Driver → Driver → Type 0
OnCycle ds before d = Feeds ds d.net d.net

-- "33 when a line drives a net already driven, then when one uses a net that no line drives, then when one drives a net on a circle", each over all lines
pub data NetsFault (inputs : List (List ℕ)) (ds : List Driver) : ℕ → ℕ → Type 0 where
  twice : {k : ℕ} → FirstLine (Again inputs) ds k → NetsFault inputs ds 33 k
  unfed : {k : ℕ} → NoLine (Again inputs) ds → FirstLine (Undriven inputs ds) ds k → NetsFault inputs ds 33 k
  cycle : {k : ℕ} → NoLine (Again inputs) ds → NoLine (Undriven inputs ds) ds → FirstLine (OnCycle ds) ds k → NetsFault inputs ds 33 k

pub record NetsHold (inputs : List (List ℕ)) (ds es : List Driver) : Type 0 where
  pub once : NoLine (Again inputs) ds
  pub fed : NoLine (Undriven inputs ds) ds
  pub straight : NoLine (OnCycle ds) ds
  pub same : ds ≡ es

-- what is promised of the validation of its nets
abbrev pub Validated : List (List ℕ) → List Driver → Type 0
Validated inputs ds = Exactly (NetsHold inputs ds) (NetsFault inputs ds) (validate_nets inputs ds)

-- ---- the call, in checking order

-- "1 covers the netlist": no text "is longer than 65,536 bytes"
abbrev pub AllShort : List ℕ → List ℕ → List ℕ → Type 0
AllShort library graph netlist = (length library ≤ 65536) × (length graph ≤ 65536) × (length netlist ≤ 65536)

-- how many bytes 10 there are
pub data Tens : List ℕ → ℕ → Type 0 where
  no_byte : Tens [] 0
  a_ten : {s : List ℕ} {n : ℕ} → Tens s n → Tens (10 ∷ s) (suc n)
  another : {b : ℕ} {s : List ℕ} {n : ℕ} → (¬ (b ≡ 10)) → Tens s n → Tens (b ∷ s) n

-- not "fewer than 124(M+1) + O 16-bit words"; "10 wants 8 more words for each byte 10 in it"
abbrev pub Enough : List ℕ → ℕ → Header → Type 0
Enough netlist words h = (n : ℕ) × Tens netlist n × (124 * suc h.size + h.outputs + 8 * n ≤ words)

-- no refusal up to 6 and 27
pub record ToCells (library graph netlist : List ℕ) (cs : List Cell) : Type 0 where
  pub short : AllShort library graph netlist
  pub cells : LibraryHolds library cs

-- none up to 14, 20 and 21
pub record ToGraph (library graph netlist : List ℕ) (words : ℕ) (cs : List Cell) (h : Header) (g : Graph) : Type 0 where
  pub to_cells : ToCells library graph netlist cs
  pub header : HeaderHolds graph h
  pub enough : Enough netlist words h
  pub is_graph : GraphIn (drop h.next graph) h g

-- none up to 31
pub record ToNetlist (library graph netlist : List ℕ) (words : ℕ) (cs : List Cell) (g : Graph) : Type 0 where
  pub header : Header
  pub to_graph : ToGraph library graph netlist words cs header g
  pub ordered : OrderOfAll g
  pub few : length g.inputs ≤ 12

-- 31 to 33 "are tried after 15 in place of 16 to 18, in this order"
pub data CheckFault (library graph netlist : List ℕ) (words : ℕ) : ℕ → ℕ → Type 0 where
  one : (¬ AllShort library graph netlist) → CheckFault library graph netlist words 1 0
  of_library : {n k : ℕ} → AllShort library graph netlist → LibraryFault library n k → CheckFault library graph netlist words n k
  of_header : {cs : List Cell} {n k : ℕ} → ToCells library graph netlist cs → HeaderFault graph n k → CheckFault library graph netlist words n k
  ten : {cs : List Cell} {h : Header} → ToCells library graph netlist cs → HeaderHolds graph h → (¬ Enough netlist words h)
      → CheckFault library graph netlist words 10 0
  of_graph : {cs : List Cell} {h : Header} {n k : ℕ} → ToCells library graph netlist cs → HeaderHolds graph h → Enough netlist words h
      → GraphFault (drop h.next graph) h n k → CheckFault library graph netlist words n k
  -- "Some AND can't be placed; place, the lowest such variable"
  fifteen : {cs : List Cell} {h : Header} {g : Graph} {v : ℕ} → ToGraph library graph netlist words cs h g → LowestUnordered g v
      → CheckFault library graph netlist words 15 v
  -- "31 when I exceeds 12, place 0"
  thirty_one : {cs : List Cell} {h : Header} {g : Graph} → ToGraph library graph netlist words cs h g → OrderOfAll g → (¬ (length g.inputs ≤ 12))
      → CheckFault library graph netlist words 31 0
  of_netlist : {cs : List Cell} {g : Graph} {n k : ℕ} → ToNetlist library graph netlist words cs g → EditedFault cs g netlist n k
      → CheckFault library graph netlist words n k
  of_nets : {cs : List Cell} {g : Graph} {ds : List Driver} {ws : List (List ℕ)} {n k : ℕ} → ToNetlist library graph netlist words cs g
      → EditedIn cs g netlist ds → InputNames g.inputs ws → NetsFault ws ds n k → CheckFault library graph netlist words n k

-- what is compared: the graph, and the drivers of a netlist that none of these refuses
pub record CheckHolds (library graph netlist : List ℕ) (words : ℕ) (e : Edited) : Type 0 where
  pub cells : List Cell
  pub to_netlist : ToNetlist library graph netlist words cells e.graph
  pub drivers : List Driver
  pub are_drivers : EditedIn cells e.graph netlist drivers
  pub nets : List (List ℕ)
  pub are_nets : InputNames e.graph.inputs nets
  pub sound : NetsHold nets drivers e.drivers

-- the promise of a check
abbrev pub CheckRefusals : List ℕ → List ℕ → List ℕ → ℕ → Type 0
CheckRefusals library graph netlist words =
    Exactly (CheckHolds library graph netlist words) (CheckFault library graph netlist words) (read_edited library graph netlist words)
