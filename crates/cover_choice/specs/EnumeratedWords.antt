-- What the passes before have left in the words.
use Rattle.std.specs.Prelude.{◌≡◌, ◌≤◌}
use Rattle.base.specs.{List, [], ℕ, length}
use Rattle.model.specs.Graph.{Graph}
use Rattle.model.specs.{over_limit}
use Rattle.model.specs.declared.Header.{Header}
use Rattle.theory_graph.specs.AcceptedGraph.{Accepted}
use Rattle.base_words.specs.{RepresentsGraph, RepresentsOrder, RepresentsCuts}

-- the numbers of the header are those of the graph
pub record HeaderOf (h : Header) (g : Graph) : Type 0 where
  pub size : h.size ≡ g.size
  pub inputs : h.inputs ≡ length g.inputs
  pub outputs : h.outputs ≡ length g.outputs
  pub ands : h.ands ≡ length g.ands

-- the words hold a graph that no refusal refused, whose inputs arrive by 65,535, its topological order and its cuts
pub record RepresentsEnumerated (w : List ℕ) (g : Graph) : Type 0 where
  pub accepted : Accepted g
  pub free : over_limit g ≡ []
  pub soon : (v : ℕ) → g.input_arrival v ≤ 65535
  pub graph : RepresentsGraph w g
  pub order : RepresentsOrder w g
  pub cuts : RepresentsCuts w g
