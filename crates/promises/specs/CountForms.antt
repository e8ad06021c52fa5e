-- The lines of a netlist that is counted, as relations over bytes, written from the documents' sentences: what nets, gate lines and the other lines that mapping
-- prints are, and which may stand behind which. Each says that bytes are such a thing and what they mean; no reader stands here.
use Rattle.std.specs.Prelude.{◌<◌, ◌≡◌, ◌⊎◌, ◌∷◌, ◌++◌}
use Rattle.base.specs.{ℕ, zero, suc, Bool, true, cond, List, [], Memᴰ, length}
use Rattle.model.specs.{text, name_of, cell_at, area_of}
use Rattle.model.specs.declared.Cell.{Cell}
use Rattle.promises.specs.LineForms.{Within, Decimal, joined, LineOf}

-- ---- words

-- "net and output numbers and times may be any digits": one or more
pub data AnyDigits : List ℕ → Type 0 where
  some_digits : {b : ℕ} {w : List ℕ} → Within 48 57 b → ((x : ℕ) → Memᴰ x w → Within 48 57 x) → AnyDigits (b ∷ w)

-- a letter and digits
pub data Label (b : ℕ) : List ℕ → Type 0 where
  label : {w : List ℕ} → AnyDigits w → Label b (b ∷ w)

-- "Nets are `p` or `m` (negative) and the variable"
abbrev pub PhaseNet : List ℕ → Type 0
PhaseNet w = Label 112 w ⊎ Label 109 w

-- "a net `s` followed by the root's net name, which N11 takes in gate lines"
pub data GateNet : List ℕ → Type 0 where
  phase : {w : List ℕ} → PhaseNet w → GateNet w
  inner : {w : List ℕ} → PhaseNet w → GateNet (115 ∷ w)

-- a pin or the output, of letter b, "with `=` and its net"
pub data Bound (b : ℕ) : List ℕ → Type 0 where
  bound : {w : List ℕ} → GateNet w → Bound b (b ∷ 61 ∷ w)

-- "each pin in order with `=` and its net, then the output likewise": so many pins from letter b on, and "output O"
pub data Pins : ℕ → ℕ → List (List ℕ) → Type 0 where
  output : {b : ℕ} {w : List ℕ} → Bound 79 w → Pins b zero (w ∷ [])
  pin : {b n : ℕ} {w : List ℕ} {ws : List (List ℕ)} → Bound b w → Pins (suc b) n ws → Pins b (suc n) (w ∷ ws)

-- names of one letter, as many as there are
pub data Labels (b : ℕ) : List (List ℕ) → Type 0 where
  no_label : Labels b []
  one_label : {w : List ℕ} {ws : List (List ℕ)} → Label b w → Labels b ws → Labels b (w ∷ ws)

-- ---- lines

-- "a gate line is `.gate`, the cell's name, each pin in order with `=` and its net, then the output likewise": "pins A to D", of the listed cell at line i
pub record GateWords (cells : List Cell) (w : List ℕ) (i : ℕ) : Type 0 where
  pub listed : i < length cells
  pub nets : List (List ℕ)
  pub whole : w ≡ joined (text ".gate" ∷ name_of (cell_at cells i) ∷ nets)
  pub are_nets : Pins 65 (cell_at cells i).pins nets

-- which line is expected behind lines of a netlist: of so many outputs, with gates of these cells
pub data Expected : Type 0 where
  model_expected : Expected
  inputs_expected : Expected
  outputs_expected : Expected
  -- a gate line, or what follows the last of them
  gate_expected : (outs : ℕ) → (used : List ℕ) → Expected
  -- `.names` for so many outputs more, then `.end`
  wire_expected : (left outs : ℕ) → (used : List ℕ) → Expected
  -- the `1 1` of such a pair
  cover_expected : (left outs : ℕ) → (used : List ℕ) → Expected
  figures_expected : (outs : ℕ) → (used : List ℕ) → Expected
  -- so many timing lines more, then nothing
  timing_expected : (left : ℕ) → (used : List ℕ) → Expected

-- "the kind and form mapping prints there": a line with these contents may stand where this is expected, and then that is expected. The library's names line says whether
-- timing lines follow.
pub data Next (ranged : Bool) (cells : List Cell) : Expected → List ℕ → Expected → Type 0 where
  model : Next ranged cells model_expected (text ".model top") inputs_expected
  inputs : {ws : List (List ℕ)} → Labels 112 ws → Next ranged cells inputs_expected (joined (text ".inputs" ∷ ws)) outputs_expected
  outputs : {ws : List (List ℕ)} → Labels 111 ws → Next ranged cells outputs_expected (joined (text ".outputs" ∷ ws)) (gate_expected (length ws) [])
  gate : {n i : ℕ} {us w : List ℕ} → GateWords cells w i → Next ranged cells (gate_expected n us) w (gate_expected n (us ++ (i ∷ [])))
  behind : {n : ℕ} {us w : List ℕ} {d : Expected} → Next ranged cells (wire_expected n n us) w d → Next ranged cells (gate_expected n us) w d
  wire : {k n : ℕ} {us v o : List ℕ} → PhaseNet v → Label 111 o
      → Next ranged cells (wire_expected (suc k) n us) (joined (text ".names" ∷ v ∷ o ∷ [])) (cover_expected k n us)
  cover : {k n : ℕ} {us : List ℕ} → Next ranged cells (cover_expected k n us) (text "1 1") (wire_expected k n us)
  end : {n : ℕ} {us : List ℕ} → Next ranged cells (wire_expected zero n us) (text ".end") (figures_expected n us)
  -- not "a gate count or area that isn't that of the gates above it"
  figures : {n : ℕ} {us g a t : List ℕ} → Decimal g (length us) → Decimal a (area_of cells us) → AnyDigits t
      → Next ranged cells (figures_expected n us) (joined (text "#" ∷ text "gates" ∷ g ∷ text "area" ∷ a ∷ text "arrival" ∷ t ∷ []))
      (timing_expected (cond ranged n zero) us)
  timing : {k : ℕ} {us o l h : List ℕ} → Label 111 o → AnyDigits l → AnyDigits h
      → Next ranged cells (timing_expected (suc k) us) (joined (text "#" ∷ text "timing" ∷ o ∷ l ∷ h ∷ [])) (timing_expected k us)

-- byte 10 ends each line
abbrev pub NextLine : Bool → List Cell → Expected → List ℕ → Expected → Type 0
NextLine ranged cells d = LineOf true (Next ranged cells d)

-- bytes that are lines of a netlist, from its first on, each where it is expected; and what is expected behind them
pub data Reached (ranged : Bool) (cells : List Cell) : List ℕ → Expected → Type 0 where
  no_line : Reached ranged cells [] model_expected
  a_line : {s l : List ℕ} {d e : Expected} → Reached ranged cells s d → NextLine ranged cells d l e → Reached ranged cells (s ++ l) e
