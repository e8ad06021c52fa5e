-- Texts that are read give a library that fits and a graph that is in the limits, and accepted if all its ANDs can be ordered.
use Rattle.base.specs.{ℕ, ◌≤◌, arith, ◌≡◌, refl, sym, ◌∙◌, ap, subst, Bool, false, ◌&&◌, List, [], Memᴰ, T, leb, le→leb, length}
use Rattle.base.specs.{and_yes, leb_yes}
use Rattle.model.specs.{need, holds, next, unless, read_library, is_ranged, is_clean, no_lower, cells_for, read_header, read_graph, InputArrival}
use Rattle.model.specs.{read_arrivals, timed_by, unordered, Call, Design, design_of, short, read_listed, read_texts}
use Rattle.model.specs.Graph.{Graph}
use Rattle.model.specs.declared.Cell.{Cell}
use Rattle.model.specs.declared.Header.{Header}
use Rattle.theory_graph.proofs.{is_true, timed-accepted, timed-unordered, by_read}
use Rattle.theory_graph.specs.AcceptedGraph.{Accepted}
use Rattle.theory_graph.specs.{library_fits}
use Rattle.theory_text.proofs.ReadSteps.{holds-once, unless_out, next_out}
use Rattle.theory_text.proofs.ReadLibrary.{Written, library-fits, library-few, library-written, library-ranged}
use Rattle.theory_text.specs.{GraphFits}
use Rattle.theory_text.proofs.ReadGraph.{graph-accepted, graph-fits}

-- the listed cells were read, and with their pairs, where these are wanted, they are few enough
pub listed-read : (paired : Bool) (s : List ℕ) (cells : List Cell) → read_listed paired s ≡ holds cells → (read_library s ≡ holds cells) × (length (cells_for paired cells) ≤ 256)
unfolding read_listed
listed-read paired s cells e =
    let a = next_out (read_library s) _ cells e in
    let b = unless_out (leb (length (cells_for paired a.0)) 256) 30 0 (holds a.0) cells a.2 in
    subst (λ (cs : List Cell). (read_library s ≡ holds cs) × (length (cells_for paired cs) ≤ 256)) (holds-once b.1) (a.1, leb_yes b.0)

-- where no pairs are wanted a library's text holds what it lists, which are 32 cells at most
pub listed_plain : (s : List ℕ) → read_listed false s ≡ read_library s
unfolding read_listed cells_for next unless
listed_plain s = by_read (read_library s) (λ cs q. rw q (let few : length cs ≤ 32 = library-few s cs q in ap
    (λ (b : Bool). unless b 30 0 (holds cs)) (is_true (leb (length cs) 256) (le→leb (length cs) 256 (omega arith))))) (λ n k e. rw e)

-- the texts were read: the library's, the header's, the graph's, which is the design's but for its arrivals, with words enough, and the arrivals'
pub record Texts (c : Call) (d : Design) : Type 0 where
  pub header : Header
  pub short_library : length c.library ≤ 65536
  pub short_graph : length c.graph ≤ 65536
  pub is_range : is_ranged c.library ≡ d.ranged
  pub is_library : read_library c.library ≡ holds d.listed
  pub are_cells : cells_for c.paired d.listed ≡ d.cells
  pub few_cells : length d.cells ≤ 256
  pub is_header : read_header c.graph ≡ holds header
  pub enough : need header.size header.outputs ≤ c.words
  pub meant : Graph
  pub is_graph : read_graph c.graph header ≡ holds meant
  pub short_arrivals : length c.arrivals ≤ 65536
  pub input_arrival : List InputArrival
  pub is_input_arrival : read_arrivals header.inputs c.arrivals ≡ holds input_arrival
  pub is_timed : timed_by meant input_arrival ≡ d.graph

pub texts-read : (c : Call) (d : Design) → read_texts c ≡ holds d → Texts c d
unfolding read_texts
texts-read c d e =
    let a = unless_out (short c) 1 0 _ d e in
    let p = and_yes (leb (length c.library) 65536) (leb (length c.graph) 65536 && leb (length c.arrivals) 65536) a.0 in
    let q = and_yes (leb (length c.graph) 65536) (leb (length c.arrivals) 65536) p.1 in
    let b = next_out (read_listed c.paired c.library) _ d a.1 in
    let l = listed-read c.paired c.library b.0 b.1 in
    let k = next_out (read_header c.graph) _ d b.2 in
    let f = unless_out (leb (need k.0.size k.0.outputs) c.words) 10 0 _ d k.2 in
    let g = next_out (read_graph c.graph k.0) _ d f.1 in
    let t = next_out (read_arrivals k.0.inputs c.arrivals) (λ es. holds (design_of c b.0 (timed_by g.0 es))) d g.2 in
    subst (Texts c) (holds-once t.2) (record {
      header = k.0;
      short_library = leb_yes p.0;
      short_graph = leb_yes q.0;
      is_library = l.0;
      is_range = refl;
      are_cells = refl;
      few_cells = l.1;
      is_header = k.1;
      enough = leb_yes f.0;
      meant = g.0;
      is_graph = g.1;
      short_arrivals = leb_yes q.1;
      input_arrival = t.0;
      is_input_arrival = t.1;
      is_timed = refl;
    })

-- the limits say nothing of arrivals
pub timed-fits : (g : Graph) (es : List InputArrival) → GraphFits g → GraphFits (timed_by g es)
unfolding timed_by
timed-fits g es f = record { size = f.size; outputs = f.outputs; variables = f.variables; low = record { outputs = f.low.outputs; lefts = f.low.lefts; rights = f.low.rights } }

module _ (c : Call) (d : Design) (e : read_texts c ≡ holds d) where
  -- the library is free of refusals 3 to 6
  pub design-library : T (library_fits d.listed)
  design-library = library-fits c.library d.listed (texts-read c d e).is_library

  pub design-written : (k : Cell) → Memᴰ k d.listed → Written k × T (is_clean k)
  design-written = library-written c.library d.listed (texts-read c d e).is_library

  -- and of 27
  pub design-ranged : (k : Cell) → Memᴰ k d.listed → T (no_lower k.mins k.delays)
  design-ranged = library-ranged c.library d.listed (texts-read c d e).is_library

  -- the graph is free of refusals 9 and 12
  pub design-graph : GraphFits d.graph
  design-graph = let t = texts-read c d e in subst GraphFits t.is_timed (timed-fits t.meant t.input_arrival (graph-fits c.graph t.header t.meant t.is_header t.is_graph))

  -- and of 13 to 15, if all its ANDs can be ordered
  pub design-accepted : unordered d.graph ≡ [] → Accepted d.graph
  design-accepted p =
      let t = texts-read c d e in
      subst Accepted t.is_timed (timed-accepted t.meant t.input_arrival
      (graph-accepted c.graph t.header t.meant t.is_header t.is_graph (sym (timed-unordered t.meant t.input_arrival) ∙ ap unordered t.is_timed ∙ p)))
