-- What the words and the array hold between the layers, and what is read from each on, in terms of `model`.
use Rattle.std.specs.Prelude.{◌+◌, ◌-◌, ◌*◌, ◌≤◌, ◌<◌, ◌≡◌, ◌∷◌}
use Rattle.base.specs.{ℕ, List, [], Memᴰ, T, leb, length, take, get_or}
use Rattle.model.specs.{each, lowest, need, Read, holds, next, unless, decimal, cells_of, topological_order, unordered, read_header, read_graph, Checked}
use Rattle.model.specs.{out_name, Driver, Edited, is_net, input_nets, read_netlist, validate_nets, unless_at, line_ends, check_read, checked_work}
use Rattle.model.specs.Graph.{Graph}
use Rattle.model.specs.declared.Library.{Library}
use Rattle.model.specs.declared.Header.{Header}
use Rattle.theory_graph.specs.AcceptedGraph.{Accepted}
use Rattle.base_words.specs.{slot_at}
use Rattle.graph_order.specs.{Fit, LoadedGraph}
use Rattle.check_names.specs.{code}
use Rattle.check_reader.specs.{driver_words}
use Rattle.check_nets.specs.{no_driver}

-- ---- what the words and the array hold

-- the number of input i's net, as the words have it
unfoldable pub input_code : List ℕ → ℕ → ℕ → ℕ
input_code w m i = code (112 ∷ decimal (slot_at w m (i + 1)))

-- after `load`
pub record Loaded (w : List ℕ) (h : Header) (g : Graph) : Type 0 where
  pub before : List ℕ
  pub fit : Fit h before
  pub graph_loaded : LoadedGraph before h w g (0 ∷ g.inputs)
  pub accepted : unordered g ≡ [] → Accepted g

-- after `place`, with neither 15 nor 31
pub record OrderedGraph (w : List ℕ) (h : Header) (g : Graph) : Type 0 where
  pub before : List ℕ
  pub fit : Fit h before
  pub graph_loaded : LoadedGraph before h w g (topological_order g)
  pub accepted : Accepted g
  pub few : length g.inputs ≤ 12

-- drivers as they are read of a netlist with so many outputs: of at most four pins, their nets of the form; the outputs' stand last, in order
pub record Formed (outs : ℕ) (ds : List Driver) : Type 0 where
  pub pins : (d : Driver) → Memᴰ d ds → length d.uses ≤ 4
  pub own : (d : Driver) → Memᴰ d ds → T (is_net d.net)
  pub used : (d : Driver) → Memᴰ d ds → (u : List ℕ) → Memᴰ u d.uses → T (is_net u)
  pub capacity : outs ≤ length ds
  pub last : (k : ℕ) → k < outs → (get_or ds (length ds - outs + k) no_driver).net ≡ out_name k

-- after `read`, without 32: the drivers stand in the array
pub record Wireable (w : List ℕ) (h : Header) (nets : List ℕ) (n : ℕ) (g : Graph) (ds : List Driver) : Type 0 where
  pub ordered : OrderedGraph w h g
  pub stored : take (8 * n) nets ≡ each driver_words ds
  pub counted : n ≡ length ds
  pub bounded : n ≤ 10923
  pub formed : Formed (length g.outputs) ds

-- ---- what is read

-- 33
unfoldable pub validated_read : Graph → List Driver → Read Edited
unfolding next validate_nets input_nets
validated_read g ds = next (validate_nets (input_nets g) ds) (λ es. holds (record { graph = g; drivers = es }))

-- 32 before it
unfoldable pub netlist_read : Library → Graph → List ℕ → Read Edited
unfolding next read_netlist cells_of validated_read
netlist_read lib g s = next (read_netlist (cells_of lib) g s) (validated_read g)

-- 15 and 31 before it
unfoldable pub ordered_read : Library → Graph → List ℕ → Read Edited
unfolding unless_at lowest unordered unless netlist_read
ordered_read lib g s = unless_at (lowest (unordered g)) 15 (unless (leb (length g.inputs) 12) 31 0 (netlist_read lib g s))

-- 11 to 14, 20 and 21 before it
unfoldable pub graph_read : Library → List ℕ → Header → List ℕ → Read Edited
unfolding next read_graph ordered_read
graph_read lib graph h s = next (read_graph graph h) (λ g. ordered_read lib g s)

-- 7 to 10 and 19 before it
unfoldable pub header_read : Library → List ℕ → List ℕ → ℕ → Read Edited
unfolding next read_header unless need line_ends graph_read
header_read lib graph s words = next (read_header graph) (λ h. unless (leb (need h.size h.outputs + 8 * line_ends s) words) 10 0 (graph_read lib graph h s))

-- an answer, and what it leaves of work memory
pub record Left (r : Read Edited) (work : List ℕ) (answer : Checked) (work_left : List ℕ) : Type 0 where
  pub answers : answer ≡ check_read r
  pub words : work_left ≡ checked_work (check_read r) work
