-- What the functions that write the netlist ask, and what they leave in the bytes.
use Rattle.std.specs.Prelude.{◌≡◌, ◌+◌, ◌*◌, ◌≤◌, ◌++◌}
use Rattle.base.specs.{List, ℕ, length, drop}
use Rattle.model.specs.{each, gate_line}
use Rattle.model.specs.Graph.{Graph}
use Rattle.model.specs.declared.Library.{Library}
use Rattle.model.specs.declared.Header.{Header}
use Rattle.model.specs.declared.Figures.{Figures}
use Rattle.net_writer.specs.NetlistText.{gates_from}
use Rattle.net_writer.specs.MappedWords.{text_for, Mapped}

-- the gate lines of the marked phases
abbrev pub gate_lines_of : List ℕ → List ℕ → ℕ → List ℕ
gate_lines_of work records m = each gate_line (gates_from work records m 0 (2 * (m + 1)))

-- the words are of some mapped graph, whose netlist fits
abbrev pub Writable : List ℕ → Library → List ℕ → Header → Figures → List ℕ → Type 0
Writable work lib ids h f out = (g : Graph) × Mapped work lib ids h g × (length (text_for lib ids g f) ≤ length out)

-- its netlist first, and the other bytes kept
abbrev pub NetlistWritten : List ℕ → Library → List ℕ → Header → Figures → List ℕ → ℕ → List ℕ → Type 0
NetlistWritten work lib ids h f out r out' = (g : Graph) → Mapped work lib ids h g → (r ≡ length (text_for lib ids g f)) × (out' ≡ text_for lib ids g f ++ drop (length (text_for lib ids g f)) out)
