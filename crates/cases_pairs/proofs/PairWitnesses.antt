-- The premises of demand 3, N1, N5 and N13 hold of calls: case B is `Mappable`, with pairs wanted and without, its text `Means` a graph, it is `AlikeTexts`
-- with itself under the other line ends, and two libraries of the same cell lines are `Shuffled` for it. By computing.
use Rattle.base.specs.{refl, Bool, true, false, false≢true, [], ◌∷◌, lit≤}
use Rattle.model.specs.{text, Read, holds, fault, unordered, over_limit, Call, Design, read_texts, Mappable, on_library, Shuffled, lines_from, shown, same, AlikeTexts}
use Rattle.model.specs.{read_header, read_graph}
use Rattle.model.specs.Graph.{Graph}
use Rattle.model.specs.Demands.{Means, is_binary_text, first_word}
use Rattle.cases.proofs.{library, graph_b}
use Rattle.cases_pairs.proofs.PairCases.{pair_call}
use Rattle.cases_pairs.proofs.ShuffleCases.{in_order, reversed, lines_same}

-- what a reading holds, or a design of nothing
unfoldable pub design_in : Read Design → Design
design_in (holds d) = d
design_in (fault n k) = record { listed = []; cells = []; ranged = false; graph = record { size = 0; inputs = []; outputs = []; ands = []; input_arrival = λ _. 0 } }

-- case B with the library of three cells, in this order and in the other
unfoldable pub design : Bool → Design
unfolding design_in read_texts in_order graph_b text
design paired = design_in (read_texts (pair_call paired in_order graph_b 32768))

unfoldable pub design_permuted : Bool → Design
unfolding design_in read_texts in_order reversed graph_b text
design_permuted paired = design_in (read_texts (on_library (pair_call paired in_order graph_b 32768) reversed))

pub mappable : (paired : Bool) → Mappable (pair_call paired in_order graph_b 32768) (design paired)
unfolding design design_in read_texts in_order graph_b text unordered over_limit
mappable true = record { design = refl; ordered = refl; few = refl }
mappable false = record { design = refl; ordered = refl; few = refl }

-- document 01's own library
unfoldable pub design_b : Design
unfolding design_in read_texts library graph_b text
design_b = design_in (read_texts (pair_call false library graph_b 32768))

pub mappable_b : Mappable (pair_call false library graph_b 32768) design_b
unfolding design_b design_in read_texts library graph_b text unordered over_limit
mappable_b = record { design = refl; ordered = refl; few = refl }

pub shuffled : (paired : Bool) → Shuffled (pair_call paired in_order graph_b 32768) reversed (design paired) (design_permuted paired)
unfolding design design_permuted design_in read_texts in_order reversed graph_b text unordered
shuffled true = record { lines = lines_same; design = refl; design' = refl; ordered = refl }
shuffled false = record { lines = lines_same; design = refl; design' = refl; ordered = refl }

-- ---- N1: the graph that B's text means

unfoldable pub meant_b : Graph
meant_b = record { size = 3; inputs = 1 ∷ 2 ∷ []; outputs = 6 ∷ []; ands = record { var = 3; left = 2; right = 4 } ∷ []; input_arrival = λ _. 0 }

pub means : Means (text graph_b) meant_b
unfolding text graph_b meant_b read_header read_graph
means = record {
  header = record { size = 3; inputs = 2; latches = 0; outputs = 1; ands = 1; next = 14; binary = false };
  short = lit≤ tt;
  is_header = refl;
  is_graph = refl;
}

-- ---- N5: B with bytes 13 and 10 behind each line of its library, graph and arrivals

unfoldable pub by_ten : Call
unfolding library text graph_b
by_ten = record { paired = false; library = library; graph = text graph_b; arrivals = text "input arrival\n1 5\n"; words = 497; bytes = 134 }

unfoldable pub by_both : Call
unfolding text
by_both = record {
  paired = false;
  library = text "cell pins table area d0 d1 d2 d3\r\ninv 1 0001 1 10 0 0 0\r\nnand2 2 0007 2 20 20 0 0\r\n";
  graph = text "aag 3 2 0 1 1\r\n2\r\n4\r\n6\r\n6 2 4\r\n";
  arrivals = text "input arrival\r\n1 5\r\n";
  words = 497;
  bytes = 134;
}

pub alike_texts : AlikeTexts by_ten by_both
unfolding by_ten by_both library text graph_b lines_from shown is_binary_text first_word same
alike_texts = record {
  paired = refl;
  libraries = refl;
  graphs = refl;
  arrivals = refl;
  binary = λ e. absurd (false≢true e);
  words = refl;
  bytes = refl;
  short = record { library = lit≤ tt; graph = lit≤ tt; arrivals = lit≤ tt };
  short_too = record { library = lit≤ tt; graph = lit≤ tt; arrivals = lit≤ tt };
}
