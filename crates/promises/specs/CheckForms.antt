-- The lines of an edited netlist as relations over bytes, written from the documents' sentences: what nets, gate lines and the other lines are, and which may
-- stand behind which. Each says that bytes are such a thing and what they mean; no reader stands here.
use Rattle.std.specs.Prelude.{◌≤◌, ◌≡◌, ◌⊎◌, ◌∷◌, ◌++◌}
use Rattle.base.specs.{ℕ, zero, suc, true, List, [], Memᴰ, length}
use Rattle.model.specs.{text, name_of, Driver}
use Rattle.model.specs.Graph.{Graph}
use Rattle.model.specs.declared.Cell.{Cell}
use Rattle.promises.specs.LineForms.{Within, Letter, Decimal, joined, LineOf}

-- ---- words

-- "inner net names of 1 to 8 letters or digits"
pub record NetName (w : List ℕ) : Type 0 where
  pub least : 1 ≤ length w
  pub most : length w ≤ 8
  pub bytes : (b : ℕ) → Memᴰ b w → Letter b ⊎ Within 48 57 b

-- a pin or the output, of letter b, "with `=` and its net"
pub data Bound (b : ℕ) : List ℕ → List ℕ → Type 0 where
  bound : {n : List ℕ} → NetName n → Bound b (b ∷ 61 ∷ n) n

-- "each pin in order with `=` and its net, then the output likewise": so many pins from letter b on, and "output O"; the nets used, and the net driven
pub data Pins : ℕ → ℕ → List (List ℕ) → List (List ℕ) → List ℕ → Type 0 where
  output : {b : ℕ} {w n : List ℕ} → Bound 79 w n → Pins b zero (w ∷ []) [] n
  pin : {b k : ℕ} {w n o : List ℕ} {ws us : List (List ℕ)} → Bound b w n → Pins (suc b) k ws us o → Pins b (suc k) (w ∷ ws) (n ∷ us) o

-- the inputs' nets, `p` and the variable
pub data InputNames : List ℕ → List (List ℕ) → Type 0 where
  no_input : InputNames [] []
  one_input : {v : ℕ} {w : List ℕ} {vs : List ℕ} {ws : List (List ℕ)} → Decimal w v → InputNames vs ws → InputNames (v ∷ vs) ((112 ∷ w) ∷ ws)

-- the names `o` and k of so many outputs, from output k on
pub data OutputNames : ℕ → ℕ → List (List ℕ) → Type 0 where
  no_output : {k : ℕ} → OutputNames k zero []
  one_output : {k n : ℕ} {w : List ℕ} {ws : List (List ℕ)} → Decimal w k → OutputNames (suc k) n ws → OutputNames k (suc n) ((111 ∷ w) ∷ ws)

-- ---- lines

-- "a gate line is `.gate`, the cell's name, each pin in order with `=` and its net, then the output likewise", of a listed cell; `at` is the line's offset
pub record GateWords (cells : List Cell) (at : ℕ) (w : List ℕ) (d : Driver) : Type 0 where
  pub cell : Cell
  pub listed : Memᴰ cell cells
  pub nets : List (List ℕ)
  pub whole : w ≡ joined (text ".gate" ∷ name_of cell ∷ nets)
  pub are_nets : Pins 65 cell.pins nets d.uses d.net
  pub table : d.table ≡ cell.table
  pub place : d.offset ≡ at

-- which line is expected behind lines that drive these nets
pub data Expected : Type 0 where
  model_expected : Expected
  inputs_expected : Expected
  outputs_expected : Expected
  -- a gate line, or what follows the last of them
  gate_expected : (drivers : List Driver) → Expected
  -- `.names` of so many outputs more, from output k on, then `.end`
  wire_expected : (k left : ℕ) → (drivers : List Driver) → Expected
  -- the `1 1` of such a pair
  cover_expected : (k left : ℕ) → (drivers : List Driver) → Expected
  -- "what follows `.end` isn't read"
  nothing_expected : (drivers : List Driver) → Expected

-- the line of an output's `.names`: it drives the output's own name by the table of a wire
abbrev pub wire_driver : ℕ → List ℕ → List ℕ → Driver
wire_driver at v w = record { offset = at; table = 2; uses = v ∷ []; net = 111 ∷ w }

-- "BLIF as we print it up to `.end`, listed cells, gates in any order": a line with these contents at this offset may stand where this is expected, and then that is
-- expected. Lines with the graph's inputs and outputs have no other than these.
pub data Next (cells : List Cell) (g : Graph) (at : ℕ) : Expected → List ℕ → Expected → Type 0 where
  model : Next cells g at model_expected (text ".model top") inputs_expected
  inputs : {ws : List (List ℕ)} → InputNames g.inputs ws → Next cells g at inputs_expected (joined (text ".inputs" ∷ ws)) outputs_expected
  outputs : {ws : List (List ℕ)} → OutputNames zero (length g.outputs) ws → Next cells g at outputs_expected (joined (text ".outputs" ∷ ws)) (gate_expected [])
  gate : {ds : List Driver} {w : List ℕ} {d : Driver} → GateWords cells at w d → Next cells g at (gate_expected ds) w (gate_expected (ds ++ (d ∷ [])))
  behind : {ds : List Driver} {w : List ℕ} {e : Expected} → Next cells g at (wire_expected zero (length g.outputs) ds) w e → Next cells g at (gate_expected ds) w e
  wire : {k n : ℕ} {ds : List Driver} {v w : List ℕ} → NetName v → Decimal w k
      → Next cells g at (wire_expected k (suc n) ds) (joined (text ".names" ∷ v ∷ (111 ∷ w) ∷ [])) (cover_expected (suc k) n (ds ++ (wire_driver at v w ∷ [])))
  cover : {k n : ℕ} {ds : List Driver} → Next cells g at (cover_expected k n ds) (text "1 1") (wire_expected k n ds)
  end : {k : ℕ} {ds : List Driver} → Next cells g at (wire_expected k zero ds) (text ".end") (nothing_expected ds)

-- byte 10 ends each line
abbrev pub NextLine : List Cell → Graph → ℕ → Expected → List ℕ → Expected → Type 0
NextLine cells g at d = LineOf true (Next cells g at d)

-- bytes that are lines of an edited netlist, from its first on, each where it is expected; and what is expected behind them
pub data Reached (cells : List Cell) (g : Graph) : List ℕ → Expected → Type 0 where
  no_line : Reached cells g [] model_expected
  a_line : {s l : List ℕ} {d e : Expected} → Reached cells g s d → NextLine cells g (length s) d l e → Reached cells g (s ++ l) e
