-- What is promised of a netlist that is printed by a certificate, over its bytes. Nothing here says what a certificate is: it must not be believed.
use Rattle.std.specs.Prelude.{◌≡◌}
use Rattle.base.specs.{ℕ, Bool, true, false, Some, List, [], map, length}
use Rattle.model.specs.{sum, largest, GateLine, TimingLine, named, read_blif, read_figures, read_timings, NetArrivals, SameValues, WithinRanges}
use Rattle.model.specs.Graph.{Graph}
use Rattle.model.specs.Blif.{Blif}
use Rattle.model.specs.declared.Cell.{Cell}
use Rattle.model.specs.declared.Figures.{Figures}

-- "the figures equal those of the printed text": nets have arrivals, and with any such arrivals the figures are the text's
pub record FiguresOf (cells : List Cell) (g : Graph) (f : Figures) (n : Blif) : Type 0 where
  pub has_arrivals : (at : List ℕ → ℕ) × NetArrivals cells n (map g.input_arrival g.inputs) at
  pub count : f.gates ≡ length n.gates
  pub area : f.area ≡ sum (map (λ (t : GateLine). (named cells t.cell).area) n.gates)
  pub arrival : (at : List ℕ → ℕ) → NetArrivals cells n (map g.input_arrival g.inputs) at → f.arrival ≡ largest (map at n.outputs)

-- a text, read by BLIF's rules with the listed cells, has the graph's value at every output for every assignment of the inputs, and says its own figures; with
-- delays as ranges its `# timing` lines have the two ends of each output
pub record Proved (ranged : Bool) (cells : List Cell) (g : Graph) (text : List ℕ) (f : Figures) : Type 0 where
  pub netlist : Blif
  pub reads : read_blif text ≡ Some netlist
  pub values : SameValues cells cells g f netlist
  pub says : read_figures text ≡ Some f
  pub figures : FiguresOf cells g f netlist
  pub timed : ranged ≡ true → (ts : List TimingLine) × (read_timings text ≡ Some ts) × WithinRanges cells g netlist ts
  pub untimed : ranged ≡ false → read_timings text ≡ Some []
