-- 1, 22 to 24 and 18 of a genlib text as conditions over its bytes, by the forms of `GateForms`. A text is refused with a number at a place where the gates before
-- the place are accepted, and the gate there meets the number's condition and none that is tried before it. No reader's definition is used: the reader is
-- named only where `Exactly` says what it does.
use Rattle.std.specs.Prelude.{◌^◌, ◌≤◌, ◌<◌, ◌≡◌, ◌⊎◌, ◌∷◌, ◌++◌}
use Rattle.base.specs.{ℕ, Bool, false, List, [], Memᴰ, length, get_or}
use Rattle.model.specs.{bit, text, read_genlib, cells_text, genlib_text}
use Rattle.model.specs.Genlib.{Gate}
use Rattle.model.specs.GenlibDemands.{sum}
use Rattle.promises.specs.LineForms.{NameByte}
use Rattle.promises.specs.Refusals.{Exactly}
use Rattle.promises.specs.GateForms.{Blank, Stops, Usable, Worth, Deep, PinName, InOrder, RowValue, GateSays, PinSays, GateLine}
use Rattle.promises.specs.GateForms.{PinLine, Fits, Delay}

-- ---- a gate and its PIN lines

-- bytes that are PIN lines
pub data PinLines : List ℕ → List PinSays → Type 0 where
  no_line : PinLines [] []
  a_line : {l s : List ℕ} {p : PinSays} {ps : List PinSays} → PinLine l p → PinLines s ps → PinLines (l ++ s) (p ∷ ps)

-- no pin "has no PIN line"
abbrev pub AllListed : GateSays → List PinSays → Type 0
AllListed g ps = (pin : List ℕ) → Memᴰ pin g.formula → PinName pin → (p : PinSays) × Memᴰ p ps × Fits pin p

-- a GATE line and the lines below it are as 22 asks
pub record Formed (head below : List ℕ) (g : GateSays) (ps : List PinSays) : Type 0 where
  pub gate : GateLine head g
  pub lines : PinLines below ps
  pub listed : AllListed g ps

-- not "over four pins or brackets over 16 deep"
pub record Small (g : GateSays) (pins : List (List ℕ)) : Type 0 where
  pub are_ordered : InOrder g.formula pins
  pub few : length pins ≤ 4
  pub shallow : Deep 16 g.formula

-- the cell of a gate whose figures 24 accepts: "The written table must equal the expression in its 2^pins rows and be 0 above, like absent pins' delays"
pub record IsGate (g : GateSays) (ps : List PinSays) (pins : List (List ℕ)) (c : Gate) : Type 0 where
  pub name : c.name ≡ g.name
  pub area : Usable g.area c.area
  pub number : c.pins ≡ length pins
  pub rows : (r : ℕ) → r < 2 ^ c.pins → (value : List ℕ → Bool) → ((t : List ℕ) (v : Bool) → RowValue pins r t v → value t ≡ v) → Worth value 16 sum g.formula (bit c.table r)
  pub above : (r : ℕ) → 2 ^ c.pins ≤ r → bit c.table r ≡ false
  pub four : length c.delays ≡ 4
  pub delays : (j : ℕ) → j < c.pins → Delay (get_or pins j []) ps (get_or c.delays j 0)
  pub absent : (j : ℕ) → c.pins ≤ j → get_or c.delays j 0 ≡ 0

-- bytes that are gates, each a GATE line and its PIN lines, none of which is refused
pub data GatesIn : List ℕ → List Gate → Type 0 where
  no_gate : GatesIn [] []
  a_gate : {s head below : List ℕ} {cs : List Gate} {g : GateSays} {ps : List PinSays} {pins : List (List ℕ)} {c : Gate} → GatesIn s cs → Formed head below g ps → Small g pins
      → IsGate g ps pins c → GatesIn (s ++ (head ++ below)) (cs ++ (c ∷ []))

-- ---- "the lines up to the next GATE"

-- bytes without byte 10
abbrev pub Plain : List ℕ → Type 0
Plain w = (b : ℕ) → Memᴰ b w → ¬ (b ≡ 10)

-- the first word is GATE, behind blanks
pub record Opens (s : List ℕ) : Type 0 where
  pub blanks : List ℕ
  pub behind : List ℕ
  pub is_all : s ≡ blanks ++ (text "GATE" ++ behind)
  pub are_blanks : (b : ℕ) → Memᴰ b blanks → Blank b
  pub ends : Stops NameByte behind

-- one line of a text with byte 10 at its end, or the text's last without it
pub data ALine : List ℕ → List ℕ → Type 0 where
  full : {w s : List ℕ} → Plain w → ALine (w ++ (10 ∷ [])) s
  last : {w : List ℕ} → (¬ (w ≡ [])) → Plain w → ALine w []

-- lines that open no gate, up to the next that does or the text's end
pub data Below : List ℕ → List ℕ → Type 0 where
  at_end : Below [] []
  at_gate : {s : List ℕ} → Opens s → Below [] s
  further : {l below s : List ℕ} → ALine l (below ++ s) → (¬ Opens l) → Below below s → Below (l ++ below) s

-- the text from a gate's first byte on: its first line, the lines below it, the text from the next gate on
pub record Block (t : List ℕ) : Type 0 where
  pub head : List ℕ
  pub below : List ℕ
  pub rest : List ℕ
  pub is_all : t ≡ head ++ (below ++ rest)
  pub is_line : ALine head (below ++ rest)
  pub up_to : Below below rest

-- ---- the refusals, "tried in this order, gate by gate"

pub data BlockFault (head below : List ℕ) : ℕ → Type 0 where
  -- "22 when a line, even an empty one, breaks this form, a PIN line precedes every GATE or a pin has no PIN line"
  twenty_two : (¬ ((g : GateSays) × (ps : List PinSays) × Formed head below g ps)) → BlockFault head below 22
  -- "23 when a gate has over four pins or brackets over 16 deep"
  twenty_three : {g : GateSays} {ps : List PinSays} → Formed head below g ps → (¬ ((pins : List (List ℕ)) × Small g pins)) → BlockFault head below 23
  -- "24 when a used figure has over three decimals or exceeds 65.535"
  twenty_four : {g : GateSays} {ps : List PinSays} {pins : List (List ℕ)} → Formed head below g ps → Small g pins → (¬ ((c : Gate) × IsGate g ps pins c)) → BlockFault head below 24

-- "at the GATE line's offset (a line before the first, its own)": behind gates that are accepted, none of which has a further PIN line there
pub data GenlibFault : List ℕ → ℕ → ℕ → Type 0 where
  at_block : {s t : List ℕ} {cs : List Gate} {n : ℕ} → GatesIn s cs → (¬ (t ≡ [])) → (s ≡ []) ⊎ Opens t → (b : Block t) → BlockFault b.head b.below n
      → GenlibFault (s ++ t) n (length s)

-- what is promised of the reading of a genlib text that 1 accepts
abbrev pub Gates : List ℕ → Type 0
Gates t = length t ≤ 65536 → Exactly (GatesIn t) (GenlibFault t) (read_genlib t)

-- ---- the call: "1 is tried first, on the genlib text, 18 last for this memory"

pub data CallFault (t : List ℕ) (bytes : ℕ) : ℕ → ℕ → Type 0 where
  one : 65536 < length t → CallFault t bytes 1 0
  of_gates : {n k : ℕ} → length t ≤ 65536 → GenlibFault t n k → CallFault t bytes n k
  eighteen : {cs : List Gate} → length t ≤ 65536 → GatesIn t cs → bytes < length (cells_text cs) → CallFault t bytes 18 (length (cells_text cs))

pub record CallHolds (t : List ℕ) (bytes : ℕ) (u : List ℕ) : Type 0 where
  pub short : length t ≤ 65536
  pub gates : List Gate
  pub are_gates : GatesIn t gates
  pub is_text : cells_text gates ≡ u
  pub capacity : length u ≤ bytes

-- the promise of a call, for a text and so many lent bytes
abbrev pub GenlibRefusals : List ℕ → ℕ → Type 0
GenlibRefusals t bytes = Exactly (CallHolds t bytes) (CallFault t bytes) (genlib_text t bytes)
