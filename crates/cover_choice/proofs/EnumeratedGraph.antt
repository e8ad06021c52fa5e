-- What the passes before have left gives what is asked of the words:
--     slots_in, outputs_in, cuts_in, input-arrival_in      from the graph, its topological order and its cuts
--     matches_in                          from the chosen phases
use Rattle.base.specs.{ℕ, ◌/◌, ◌≤◌, ◌<◌, arith, ◌≡◌, sym, ap, subst, ◌∙◌, List, [], ◌∷◌, Memᴰ, Memᴰ-tail, Memᴰ-append_left, T}
use Rattle.base.specs.{length, get_or}
use Rattle.model.specs.{each, cell_at, And, var_of, negated, topological_order, cuts_of, cut_table, cut_at as listed_at, phase_table, orders, IsMatch}
use Rattle.model.specs.Graph.{Graph}
use Rattle.model.specs.declared.Cell.{Cell}
use Rattle.model.specs.declared.Header.{Header}
use Rattle.model.specs.declared.Match.{Match}
use Rattle.model.specs.declared.Phase.{Phase}
use Rattle.theory_graph.proofs.{get_or_in, order-once, order_small, defined-ordered}
use Rattle.theory_graph.specs.AcceptedGraph.{Accepted}
use Rattle.theory_order.proofs.{cuts_exactly, cut_leaf}
use Rattle.theory_cover.proofs.{fits-places, is_match_lem}
use Rattle.base_words.specs.{ordered_count, HasCapacity, count_at, leaves_at, RepresentsPhases}
use Rattle.base_words.proofs.{capacity-need, represented-count, represented-cut}
use Rattle.base_truth.specs.{places_of, places_below}
use Rattle.base_truth.proofs.{places-fit}
use Rattle.cells_matching.specs.{Matchable}
use Rattle.cover_choice.specs.{HeaderOf, OutputsIn, SlotsIn, CutsIn, InputArrivalIn, MatchIn, MatchesIn}
use Rattle.cover_choice.specs.EnumeratedWords.{RepresentsEnumerated}
use Rattle.cover_choice.proofs.InverterCount.{few-ordered, all-ordered, few-cuts}

module _ (h : Header) (g : Graph) (e : HeaderOf h g) (ok : Accepted g) where
  pub ordered-is : ordered_count h ≡ length (topological_order g)
  ordered-is = omega (arith, e.inputs, e.ands, all-ordered g ok)

-- a literal of the outputs is one of the graph
pub output-small : (g : Graph) → Accepted g → (l : ℕ) → Memᴰ l g.outputs → l / 2 ≤ g.size
unfolding var_of
output-small g ok l m =
    order_small g ok (l / 2)
    (defined-ordered g ok (l / 2) (ok.used l (Memᴰ-append_left (each (λ (a : And). a.left ∷ a.right ∷ []) g.ands) m)))

-- a leaf of a listed cut is a variable of the graph
pub leaf_small : (g : Graph) → Accepted g → (v : ℕ) (c : List ℕ) → Memᴰ c (cuts_of g v) → (x : ℕ) → Memᴰ x c → x ≤ g.size
leaf_small g ok v c m x n = order_small g ok x (defined-ordered g ok x (Memᴰ-tail (cut_leaf ((cuts_exactly g ok v c).0 m) x n)))

module _ (w : List ℕ) (g : Graph) (h : RepresentsEnumerated w g) where
  pub capacity : HasCapacity w g.size
  capacity = capacity-need w g.size (length g.outputs) h.graph.capacity

  pub slots_in : SlotsIn w g.size (length (topological_order g))
  slots_in =
      record {
        capacity = capacity;
        few = few-ordered g h.accepted;
        within =
            λ i l.
            subst (λ (v : ℕ). v ≤ g.size) (sym (h.order.slots i l))
            (order_small g h.accepted (get_or (topological_order g) i 0) (get_or_in (topological_order g) i 0 l));
      }

  pub outputs_in : OutputsIn w g.size (length g.outputs)
  outputs_in =
      record {
        capacity = h.graph.capacity;
        within =
            λ i l.
            subst (λ (x : ℕ). x / 2 ≤ g.size) (sym (h.graph.outputs i l))
            (output-small g h.accepted (get_or g.outputs i 0) (get_or_in g.outputs i 0 l));
      }

  pub cuts_in : CutsIn w g.size
  cuts_in =
      record {
        capacity = capacity;
        few = λ v l. omega (arith, represented-count w g h.cuts v l, few-cuts g h.free v);
        within =
            λ v k j l b i.
            let n : k < length (cuts_of g v) = omega (arith, represented-count w g h.cuts v l) in
            let e : leaves_at w g.size v k ≡ get_or (cuts_of g v) k [] = represented-cut w g h.cuts v l k n in
            let i' : j < length (get_or (cuts_of g v) k []) = subst (λ (c : List ℕ). j < length c) e i in
            subst (λ (c : List ℕ). get_or c j 0 ≤ g.size) (sym e)
            (leaf_small g h.accepted v (get_or (cuts_of g v) k []) (get_or_in (cuts_of g v) k [] n) (get_or (get_or (cuts_of g v) k []) j 0) (get_or_in (get_or (cuts_of g v) k []) j 0 i'));
      }

  pub input-arrival_in : InputArrivalIn w g.size
  input-arrival_in = record { within = λ v l. omega (arith, h.graph.input_arrival v l, h.soon v) }

  -- a chosen match is one of the words
  match_in : (cells : List Cell) (l : ℕ) (x : Match) → l / 2 ≤ g.size → IsMatch cells g l x → MatchIn cells w g.size (l / 2) x
  unfolding var_of listed_at
  match_in cells l x b i =
      let n : x.cut < count_at w g.size (l / 2) = omega (arith, represented-count w g h.cuts (l / 2) b, i.has_cut) in
      record {
        cut = n;
        cell = i.has_cell;
        order = i.has_order;
        places =
            subst (λ (c : List ℕ). T (places_below (cell_at cells x.cell).pins (places_of x.order) (length c))) (sym (represented-cut w g h.cuts (l / 2) b x.cut i.has_cut))
            (subst T (places-fit (cell_at cells x.cell) (get_or orders x.order []) (length (get_or (cuts_of g (l / 2)) x.cut [])))
            (fits-places (cell_at cells x.cell) (get_or orders x.order []) x.mask (length (get_or (cuts_of g (l / 2)) x.cut []))
            (phase_table (negated l) (cut_table g (get_or (cuts_of g (l / 2)) x.cut []) (l / 2))) i.agrees));
      }

  pub matches_in : (cells : List Cell) → Matchable cells → RepresentsPhases w cells g → MatchesIn cells w g.size
  matches_in cells u p =
      record {
        in_bounds = u;
        cuts = cuts_in;
        matches =
            λ l b x e.
            match_in cells l x b
            (is_match_lem cells g (order-once g h.accepted) l x (ap (λ (q : Phase). q.source) (sym (p.phases l (omega arith))) ∙ e));
      }
