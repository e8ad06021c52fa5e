-- A netlist that can be compared with its graph, and where its outputs are wrong.
use Rattle.std.specs.Prelude.{◌+◌, ◌-◌, ◌*◌, ◌≤◌, ◌<◌, ◌≡◌}
use Rattle.base.specs.{ℕ, Bool, not, beq, List, Memᴰ, length, take, get_or}
use Rattle.model.specs.{each, holds, topological_order, literal_value, value_of, out_name, Driver, input_nets, validate_nets, net_value, run_nets, settled}
use Rattle.model.specs.{input_values, assignment_of}
use Rattle.model.specs.Graph.{Graph}
use Rattle.model.specs.declared.Header.{Header}
use Rattle.theory_graph.specs.AcceptedGraph.{Accepted}
use Rattle.graph_order.specs.{Fit, LoadedGraph}
use Rattle.check_reader.specs.{driver_words}
use Rattle.check_nets.specs.{no_driver, Ordered}
use Rattle.check_nets.specs.WiredNets.{Wired}
use Rattle.check_outputs.specs.Assignments.{word_of}

-- a graph of at most twelve inputs in the words, ordered whole, and a netlist in the array, read and validated, its nets as numbers
pub record Comparable (w : List ℕ) (h : Header) (nets : List ℕ) (n : ℕ) (refs order : List ℕ) (g : Graph) (ds : List Driver) : Type 0 where
  pub before : List ℕ
  pub fit : Fit h before
  pub graph_loaded : LoadedGraph before h w g (topological_order g)
  pub accepted : Accepted g
  pub few : length g.inputs ≤ 12
  pub stored : take (8 * n) nets ≡ each driver_words ds
  pub counted : n ≡ length ds
  pub bounded : n ≤ 10923
  pub pins : (d : Driver) → Memᴰ d ds → length d.uses ≤ 4
  pub validated : validate_nets (input_nets g) ds ≡ holds ds
  pub wired : Wired (input_nets g) ds refs
  pub in_order : Ordered ds refs order
  pub capacity : length g.outputs ≤ n
  pub outs : (k : ℕ) → k < length g.outputs → (get_or ds (n - length g.outputs + k) no_driver).net ≡ out_name k

-- the nets' values under assignment s
unfoldable pub net_at : Graph → List Driver → ℕ → List ℕ → Bool
unfolding net_value run_nets settled input_values input_nets
net_at g ds s = net_value (run_nets (settled (length ds) (input_nets g) ds) (input_values s 0 (input_nets g)))

-- output k of the graph under assignment s
unfoldable pub wanted_at : Graph → ℕ → ℕ → Bool
unfolding literal_value value_of assignment_of
wanted_at g s k = literal_value (value_of g (assignment_of s 0 g.inputs)) (get_or g.outputs k 0)

-- the assignments of block b under which output k is wrong
unfoldable pub wrong_word : Graph → List Driver → ℕ → ℕ → ℕ
unfolding word_of wanted_at net_at
wrong_word g ds b k = word_of (λ t. not (beq (wanted_at g (64 * b + t) k) (net_at g ds (64 * b + t) (out_name k))))

-- the words of all outputs
abbrev pub Wrong : Graph → List Driver → ℕ → List ℕ → Type 0
Wrong g ds b words = (k : ℕ) → k < length g.outputs → get_or words k 0 ≡ wrong_word g ds b k
