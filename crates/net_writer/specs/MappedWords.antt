-- What the lent words hold when a netlist is measured and written: a graph with its topological order, cuts, chosen and needed phases.
use Rattle.std.specs.Prelude.{◌≡◌, ◌≤◌, ◌<◌}
use Rattle.base.specs.{false, List, [], Memᴰ, ℕ, T, length, get_or}
use Rattle.model.specs.{cells_of, no_pair, pairs_of, cuts_of, over_limit, absent, chosen, Gate, gates, netlist_text, choice_text, choice_figures}
use Rattle.model.specs.Graph.{Graph}
use Rattle.model.specs.declared.Library.{Library}
use Rattle.model.specs.declared.Header.{Header}
use Rattle.model.specs.declared.Figures.{Figures}
use Rattle.theory_graph.specs.AcceptedGraph.{Accepted}
use Rattle.theory_graph.specs.{library_fits}
use Rattle.base_words.specs.{RepresentsGraph, RepresentsOrder, RepresentsPhases, RepresentsNeeded, leaves_at}
use Rattle.cells_pairs.specs.{pair_of_id, cells_by, Coded}
use Rattle.model.specs.declared.Mapped.{Mapped as Measured}

-- After refusals 1 to 17 none is left: the header's numbers are the graph's, the library and the graph are free of faults, the numbers of pairs are
-- those of the library's in their order, as far as pairs are wanted, no AND has too many
-- cuts, every output has a cover, and each pass has left its part; the functions of the cuts are not looked at any more.
pub record Mapped (w : List ℕ) (lib : Library) (ids : List ℕ) (h : Header) (g : Graph) : Type 0 where
  pub size : h.size ≡ g.size
  pub inputs : h.inputs ≡ length g.inputs
  pub outputs : h.outputs ≡ length g.outputs
  pub few_inputs : length g.inputs ≤ g.size
  pub few_outputs : length g.outputs ≤ 4096
  pub coded : Coded lib ids
  pub numbered : (i : ℕ) → i < length ids → pair_of_id (get_or ids i 0) ≡ get_or (pairs_of (cells_of lib)) i no_pair
  pub library : T (library_fits (cells_of lib))
  pub accepted : Accepted g
  pub few_cuts : over_limit g ≡ []
  pub covered : (l : ℕ) → Memᴰ l g.outputs → absent (chosen (cells_by (cells_of lib) ids) g l).source ≡ false
  pub graph : RepresentsGraph w g
  pub order : RepresentsOrder w g
  pub cuts : (v : ℕ) → v ≤ g.size → (k : ℕ) → k < length (cuts_of g v) → leaves_at w g.size v k ≡ get_or (cuts_of g v) k []
  pub phases : RepresentsPhases w (cells_by (cells_of lib) ids) g
  pub needs : RepresentsNeeded w (cells_by (cells_of lib) ids) g

-- the gates of a graph, and the netlist with given figures
abbrev pub gates_for : Library → List ℕ → Graph → List Gate
gates_for lib ids g = gates (cells_of lib) (cells_by (cells_of lib) ids) g (chosen (cells_by (cells_of lib) ids) g)

abbrev pub text_for : Library → List ℕ → Graph → Figures → List ℕ
text_for lib ids g f = netlist_text g (gates_for lib ids g) f

-- "the netlist's length and the three figures of its `# gates` line"
abbrev pub measured_for : Library → List ℕ → Graph → Measured
measured_for lib ids g = record {
  length = length (choice_text (cells_of lib) (cells_by (cells_of lib) ids) g);
  figures = choice_figures (cells_of lib) (cells_by (cells_of lib) ids) g;
}
