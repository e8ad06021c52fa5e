-- What the computed examples share: texts, kinds of case, and what it is for a case to hold.
use Prim.Native.String.{String}
use Rattle.base.specs.{ℕ, Bool, true, false, ◌&&◌, Option, None, Some, List, [], ◌∷◌, ◌++◌, eqb, get_or}
use Rattle.model.specs.{same, each, text, orders, row_map, And, cuts_of, cut_table, Outcome, refused, mapped, Read, fault, next}
use Rattle.model.specs.{holds as reads, read_header, read_graph, ascii_text, Call, map_texts, Returned, Wire, read_blif, read_figures}
use Rattle.model.specs.Graph.{Graph}
use Rattle.model.specs.Blif.{Blif}
use Rattle.model.specs.declared.Figures.{Figures}

-- "B is the listing above, its library the one meant below."
unfoldable pub library : List ℕ
unfolding text
library = text "cell pins table area d0 d1 d2 d3\ninv 1 0001 1 10 0 0 0\nnand2 2 0007 2 20 20 0 0\n"

unfoldable pub listing : List ℕ
unfolding text
listing = text ".model top\n.inputs p1 p2\n.outputs o0\n.gate inv A=m3 O=p3\n.gate nand2 A=p1 B=p2 O=m3\n.names p3 o0\n1 1\n.end\n# gates 2 area 3 arrival 30\n"

-- the library with a line added
unfoldable pub with : String → List ℕ
unfolding library text
with line = library ++ text line

unfoldable pub graph_b : String
graph_b = "aag 3 2 0 1 1\n2\n4\n6\n6 2 4\n"

unfoldable pub graph_c : String
graph_c = "aag 3 2 0 1 1\n2\n4\n6\n6 3 5\n"

unfoldable pub graph_f : String
graph_f = "aag 6 3 0 0 3\n2\n4\n6\n8 2 4\n10 8 6\n12 8 10\n"

-- what the document says of a case
pub data Case : Type 0 where
  -- the whole text, with its gates, area and arrival
  prints : List ℕ → String → List ℕ → ℕ → ℕ → ℕ → Case
  -- so many gates and this arrival
  gives : List ℕ → String → ℕ → ℕ → Case
  -- this refusal at this place
  refuses : List ℕ → String → ℕ → ℕ → Case
  -- this refusal with so many words and bytes lent
  lacks : List ℕ → String → ℕ → ℕ → ℕ → ℕ → Case
  -- so many gates and this arrival with so many words and bytes lent
  suffices : List ℕ → String → ℕ → ℕ → ℕ → ℕ → Case
  -- these cuts of a variable
  lists : String → ℕ → List (List ℕ) → Case
  -- this function of a cut of a variable
  computes : String → List ℕ → ℕ → ℕ → Case
  -- a graph's text, given as bytes: the whole text printed, with its gates, area and arrival
  prints_bytes : List ℕ → List ℕ → List ℕ → ℕ → ℕ → ℕ → Case
  -- this refusal of a graph's text, given as bytes, with so many words lent
  refuses_bytes : List ℕ → ℕ → ℕ → ℕ → Case
  -- this ASCII form of a graph's text, given as bytes
  means : List ℕ → String → Case
  -- this first AND of a graph's text, given as bytes: its variable and its literals
  has_and : List ℕ → ℕ → ℕ → ℕ → Case
  -- these cuts of a variable, and this function of one of them, of a graph's text that is given as bytes
  lists_bytes : List ℕ → ℕ → List (List ℕ) → List ℕ → ℕ → Case
  -- a graph's text and an arrivals' text, given as bytes: the whole text printed, with its gates, area and arrival
  prints_timed : List ℕ → List ℕ → List ℕ → List ℕ → ℕ → ℕ → ℕ → Case
  -- so many gates and this arrival of them
  gives_timed : List ℕ → List ℕ → List ℕ → ℕ → ℕ → Case
  -- this refusal of them, with so many words lent
  refuses_timed : List ℕ → List ℕ → List ℕ → ℕ → ℕ → ℕ → Case
  -- this order takes this row to that row
  takes : ℕ → ℕ → ℕ → Case
  -- the `# gates` line of a text says these figures
  says : List ℕ → ℕ → ℕ → ℕ → Case
  -- a text says no figures
  says_nothing : List ℕ → Case
  -- a text reads as a netlist with these outputs and wires, each wire's source and target
  wires : List ℕ → List (List ℕ) → List (List ℕ) → Case
  -- a text that does not read as a netlist
  unread : List ℕ → Case

unfoldable pub is_print : List ℕ → ℕ → ℕ → ℕ → Outcome → Bool
unfolding same
is_print t count area arrival (refused n k) = false
is_print t count area arrival (mapped u f) = same t u && (eqb count f.gates && (eqb area f.area && eqb arrival f.arrival))

unfoldable pub is_given : ℕ → ℕ → Outcome → Bool
is_given count arrival (refused n k) = false
is_given count arrival (mapped u f) = eqb count f.gates && eqb arrival f.arrival

unfoldable pub is_refusal : ℕ → ℕ → Outcome → Bool
is_refusal n k (refused m j) = eqb n m && eqb k j
is_refusal n k (mapped u f) = false

unfoldable pub same_cuts : List (List ℕ) → List (List ℕ) → Bool
unfolding same
same_cuts [] [] = true
same_cuts [] (d ∷ ds) = false
same_cuts (c ∷ cs) [] = false
same_cuts (c ∷ cs) (d ∷ ds) = same c d && same_cuts cs ds

unfoldable pub are_said : ℕ → ℕ → ℕ → Option Figures → Bool
are_said count area arrival None = false
are_said count area arrival (Some f) = eqb count f.gates && (eqb area f.area && eqb arrival f.arrival)

unfoldable pub nothing_said : Option Figures → Bool
nothing_said None = true
nothing_said (Some f) = false

unfoldable pub are_wires : List (List ℕ) → List (List ℕ) → Option Blif → Bool
unfolding same_cuts each
are_wires outs nets None = false
are_wires outs nets (Some n) = same_cuts outs n.outputs && same_cuts nets (each (λ (x : Wire). x.source ∷ x.target ∷ []) n.wires)

unfoldable pub no_netlist : Option Blif → Bool
no_netlist None = true
no_netlist (Some n) = false

-- the first of some ANDs
unfoldable pub is_and : ℕ → ℕ → ℕ → List And → Bool
is_and v l r [] = false
is_and v l r (a ∷ as') = eqb v a.var && (eqb l a.left && eqb r a.right)

-- a test of the graph that a text holds
unfoldable pub of_graph : (Graph → Bool) → Read Graph → Bool
of_graph p (reads g) = p g
of_graph p (fault n k) = false

-- a call on a library and a graph's text, with so many words and bytes lent
abbrev pub given : List ℕ → String → ℕ → ℕ → Call
given l g words bytes = record { paired = false; library = l; graph = text g; arrivals = []; words = words; bytes = bytes }

-- the same with the graph's text as bytes
abbrev pub given_bytes : List ℕ → List ℕ → ℕ → Call
given_bytes l g words = record { paired = false; library = l; graph = g; arrivals = []; words = words; bytes = 65536 }

-- the same with an arrivals' text
abbrev pub given_timed : List ℕ → List ℕ → List ℕ → ℕ → Call
given_timed l g arrivals words = record { paired = false; library = l; graph = g; arrivals = arrivals; words = words; bytes = 65536 }

-- "It lends 32,768 words and 65,536 bytes."
unfoldable pub map_text : List ℕ → String → Outcome
unfolding map_texts text
map_text l g = map_texts (given l g 32768 65536)

unfoldable pub graph_bytes : List ℕ → Read Graph
unfolding read_header read_graph next
graph_bytes g = next (read_header g) (read_graph g)

unfoldable pub graph_text : String → Read Graph
unfolding graph_bytes text
graph_text g = graph_bytes (text g)

unfoldable pub holds : Case → Bool
unfolding is_print is_given is_refusal same_cuts is_and of_graph map_text map_texts text graph_bytes graph_text ascii_text same library cuts_of cut_table row_map orders are_said nothing_said read_figures are_wires no_netlist read_blif
holds (prints l g t count area arrival) = is_print t count area arrival (map_text l g)
holds (gives l g count arrival) = is_given count arrival (map_text l g)
holds (refuses l g n k) = is_refusal n k (map_text l g)
holds (lacks l g words bytes n k) = is_refusal n k (map_texts (given l g words bytes))
holds (suffices l g words bytes count arrival) = is_given count arrival (map_texts (given l g words bytes))
holds (lists g v cuts) = of_graph (λ h. same_cuts cuts (cuts_of h v)) (graph_text g)
holds (computes g cut v f) = of_graph (λ h. eqb f (cut_table h cut v)) (graph_text g)
holds (prints_bytes l g t count area arrival) = is_print t count area arrival (map_texts (given_bytes l g 32768))
holds (refuses_bytes g words n k) = is_refusal n k (map_texts (given_bytes library g words))
holds (means g t) = of_graph (λ h. same (text t) (ascii_text h)) (graph_bytes g)
holds (has_and g v l r) = of_graph (λ h. is_and v l r h.ands) (graph_bytes g)
holds (lists_bytes g v cuts cut f) = of_graph (λ h. same_cuts cuts (cuts_of h v) && eqb f (cut_table h cut v)) (graph_bytes g)
holds (prints_timed l g ts t count area arrival) = is_print t count area arrival (map_texts (given_timed l g ts 32768))
holds (gives_timed l g ts count arrival) = is_given count arrival (map_texts (given_timed l g ts 32768))
holds (refuses_timed l g ts words n k) = is_refusal n k (map_texts (given_timed l g ts words))
holds (takes order r q) = eqb q (row_map (get_or orders order []) r)
holds (says t count area arrival) = are_said count area arrival (read_figures t)
holds (says_nothing t) = nothing_said (read_figures t)
holds (wires t outs nets) = are_wires outs nets (read_blif t)
holds (unread t) = no_netlist (read_blif t)

-- the header and the output line of B in the binary form: 16 bytes
unfoldable pub head_b : List ℕ
unfolding text
head_b = text "aig 3 2 0 1 1\n6\n"

-- an arrivals' text of these lines: they begin at byte 14
unfoldable pub arrives : String → List ℕ
unfolding text
arrives lines = text "input arrival\n" ++ text lines

-- the five values of what a call returns
unfoldable pub is_returned : ℕ → ℕ → ℕ → ℕ → ℕ → Returned → Bool
is_returned number value count area arrival r =
    eqb number r.number && (eqb value r.value && (eqb count r.gates && (eqb area r.area && eqb arrival r.arrival)))

-- a library under the longer names line
unfoldable pub longer : String → List ℕ
unfolding text
longer lines = text "cell pins table area d0 d1 d2 d3 l0 l1 l2 l3\n" ++ text lines

-- B's library with ranges: an inverter from 5 to 10, a nand2 from 10 to 20 at its first pin and from 15 to 20 at its second
unfoldable pub ranged : List ℕ
unfolding longer
ranged = longer "inv 1 0001 1 10 0 0 0 5 0 0 0\nnand2 2 0007 2 20 20 0 0 10 15 0 0\n"
