-- What the words hold between the layers, and the outcome from each layer on, in terms of `model`.
use Rattle.std.specs.Prelude.{◌≡◌, ◌∷◌, ◌+◌, ◌*◌, ◌≤◌, ◌<◌}
use Rattle.base.specs.{Bool, List, [], Memᴰ, ℕ, T, leb, length, get_or}
use Rattle.model.specs.{need, Read, holds, next, unless, cell_at, cells_of, no_pair, pairs_of, cells_for, topological_order, unordered, over_limit, Answer}
use Rattle.model.specs.{chosen, choices, read_header, read_graph, read_arrivals, timed_by, Outcome, mapped, map_graph, map_cut, map_chosen, min_arrival_of}
use Rattle.model.specs.{followed, Design, within, map_design, answer_of, text_after, work_after, Distinct, choice_figures, printed_text}
use Rattle.model.specs.Graph.{Graph}
use Rattle.model.specs.declared.Cell.{Cell}
use Rattle.model.specs.declared.Library.{Library}
use Rattle.model.specs.declared.Header.{Header}
use Rattle.theory_graph.specs.AcceptedGraph.{Accepted}
use Rattle.theory_graph.specs.{library_fits}
use Rattle.theory_text.specs.{GraphFits}
use Rattle.base_words.specs.{ordered_count, position_at, needed_at, input_arrival_at, output_at, min_arrival_at, positive_addr, lists_from}
use Rattle.cells_pairs.specs.{pair_of_id, cells_by, Coded}
use Rattle.graph_order.specs.{Fit, LoadedGraph}
use Rattle.cut_lists.specs.RepresentedWords.{Represents}
use Rattle.cut_lists.specs.{Uncut}
use Rattle.cells_matching.specs.{LibraryInBounds}
use Rattle.cover_choice.specs.{SlotsIn, HeaderOf}
use Rattle.cover_choice.specs.EnumeratedWords.{RepresentsEnumerated}
use Rattle.net_timing.specs.{Retimable}

-- ---- what is told of an outcome

-- an answer and what it leaves of text memory
pub record Answered (o : Outcome) (before : List ℕ) (answer : Answer) (after : List ℕ) : Type 0 where
  pub answers : answer ≡ answer_of o
  pub bytes : after ≡ text_after o before

-- and of work memory
pub record Left (o : Outcome) (work text : List ℕ) (answer : Answer) (work_left text_left : List ℕ) : Type 0 where
  pub answered : Answered o text answer text_left
  pub words : work_left ≡ work_after o work

-- ---- the cells

-- the cells to map with
abbrev pub all_of : Library → List ℕ → List Cell
all_of lib ids = cells_by (cells_of lib) ids

-- place by place one list of numbers is not above another of the same length
pub data Under : List ℕ → List ℕ → Type 0 where
  done : Under [] []
  more : {a b : ℕ} {xs ys : List ℕ} → a ≤ b → Under xs ys → Under (a ∷ xs) (b ∷ ys)

-- ---- what the words hold

-- a library that was read
pub record LibraryRead (lib : Library) : Type 0 where
  pub fits : T (library_fits (cells_of lib))
  pub in_bounds : LibraryInBounds lib
  pub ranges : (c : ℕ) → Under (cell_at (cells_of lib) c).mins (cell_at (cells_of lib) c).delays

-- with the numbers of its pairs in their order, or with none
pub record LibraryOk (lib : Library) (ids : List ℕ) : Type 0 where
  pub read : LibraryRead lib
  pub coded : Coded lib ids
  pub numbered : (i : ℕ) → i < length ids → pair_of_id (get_or ids i 0) ≡ get_or (pairs_of (cells_of lib)) i no_pair

-- library, header and graph that were read: none of the refusals 1 to 14 and 19 to 21 applies, nor 25 and 26 where the graph is timed
pub record Given (lib : Library) (ids : List ℕ) (h : Header) (g : Graph) : Type 0 where
  pub library : LibraryOk lib ids
  pub header : HeaderOf h g
  pub fits : GraphFits g
  pub accepted : unordered g ≡ [] → Accepted g

-- after `load`
pub record Loaded (w : List ℕ) (lib : Library) (ids : List ℕ) (h : Header) (g : Graph) : Type 0 where
  pub given : Given lib ids h g
  pub distinct : Distinct g.inputs
  pub before : List ℕ
  pub fit : Fit h before
  pub graph_loaded : LoadedGraph before h w g (0 ∷ g.inputs)

-- after `place`, whatever it answers
pub record OrderedGraph (w : List ℕ) (lib : Library) (ids : List ℕ) (h : Header) (g : Graph) : Type 0 where
  pub given : Given lib ids h g
  pub distinct : Distinct g.inputs
  pub before : List ℕ
  pub fit : Fit h before
  pub graph_loaded : LoadedGraph before h w g (topological_order g)

-- after `graph_arrivals::read`, where neither it nor `place` refuses: the graph is timed
pub record Timed (w : List ℕ) (lib : Library) (ids : List ℕ) (h : Header) (g : Graph) : Type 0 where
  pub given : Given lib ids h g
  pub ordered : unordered g ≡ []
  pub soon : (v : ℕ) → g.input_arrival v ≤ 65535
  pub fit : Fit h w
  pub represents : Represents w h.size (ordered_count h) g
  pub uncut : Uncut w h.size
  pub outputs : (i : ℕ) → i < length g.outputs → output_at w h.size i ≡ get_or g.outputs i 0
  pub waiting : (v : ℕ) → v ≤ h.size → ¬ Memᴰ v (topological_order g) → position_at w h.size v ≡ 0
  pub input_arrival : (v : ℕ) → v ≤ h.size → input_arrival_at w h.size v ≡ g.input_arrival v
  pub unneeded : (v : ℕ) → v ≤ h.size → needed_at w h.size v ≡ 0
  pub unchosen : (a : ℕ) → positive_addr h.size 0 ≤ a → a < lists_from h.size → get_or w a 0 ≡ 0

-- after `enumerate`: no phase is chosen yet, and none is needed
pub record Cut (w : List ℕ) (lib : Library) (ids : List ℕ) (h : Header) (g : Graph) : Type 0 where
  pub given : Given lib ids h g
  pub represented : RepresentsEnumerated w g
  pub unneeded : (v : ℕ) → v ≤ g.size → needed_at w g.size v ≡ 0
  pub unchosen : (a : ℕ) → positive_addr g.size 0 ≤ a → a < lists_from g.size → get_or w a 0 ≡ 0

-- after `mark`, for `retime`: sources of the library and the graph, and arrivals that leave room
pub record Timeable (w : List ℕ) (lib : Library) (ids : List ℕ) (h : Header) (g : Graph) : Type 0 where
  pub library : LibraryOk lib ids
  pub header : HeaderOf h g
  pub retimable : Retimable (all_of lib ids) w h.size
  pub slots : SlotsIn w h.size (ordered_count h)
  pub soon : (l : ℕ) → l ≤ 2 * g.size + 1 → (chosen (all_of lib ids) g l).arrival ≤ 1073741823

-- after `retime`: the minimum arrivals of the outputs
abbrev pub Lowered : List ℕ → Library → List ℕ → Graph → Type 0
Lowered w lib ids g = (l : ℕ) → Memᴰ l g.outputs → min_arrival_at w g.size l ≡ min_arrival_of (all_of lib ids) g l

-- ---- the outcome, with timing lines where the library's delays are ranges

-- the choice's netlist, or 18
abbrev pub printed_for : Bool → Library → List ℕ → Graph → ℕ → Outcome
printed_for ranged lib ids g bytes = within bytes (mapped (printed_text ranged (cells_of lib) (all_of lib ids) g) (choice_figures (cells_of lib) (all_of lib ids) g))

-- 17 before it
abbrev pub cut_for : Bool → Library → List ℕ → Graph → ℕ → Outcome
cut_for ranged lib ids g bytes = within bytes (followed ranged (all_of lib ids) g (map_chosen (cells_of lib) (all_of lib ids) g (choices (all_of lib ids) g)))

-- 16 before it
abbrev pub ordered_for : Bool → Library → List ℕ → Graph → ℕ → Outcome
ordered_for ranged lib ids g bytes = within bytes (followed ranged (all_of lib ids) g (map_cut (cells_of lib) (all_of lib ids) g (over_limit g)))

-- 15 before it
abbrev pub loaded_for : Bool → Library → List ℕ → Graph → ℕ → Outcome
loaded_for ranged lib ids g bytes = within bytes (followed ranged (all_of lib ids) g (map_graph (cells_of lib) (all_of lib ids) g))

-- what is read with the arrivals' text t of a graph
abbrev pub times_of : Bool → Library → List ℕ → List ℕ → Header → Graph → Read Design
times_of ranged lib ids t h g = next (read_arrivals h.inputs t) (λ es. holds (record { listed = cells_of lib; cells = all_of lib ids; ranged = ranged; graph = timed_by g es }))

-- 25 and 26 before it
unfoldable pub times_for : Bool → Library → List ℕ → List ℕ → Header → Graph → ℕ → Outcome
times_for ranged lib ids t h g bytes = map_design bytes (times_of ranged lib ids t h g)

-- what is read of a graph's text s and t behind a header
abbrev pub design_of : Bool → Library → List ℕ → List ℕ → List ℕ → Header → Read Design
design_of ranged lib ids s t h = next (read_graph s h) (times_of ranged lib ids t h)

-- 11 to 14, 20 and 21 before it
unfoldable pub graph_for : Bool → Library → List ℕ → List ℕ → List ℕ → Header → ℕ → Outcome
graph_for ranged lib ids s t h bytes = map_design bytes (design_of ranged lib ids s t h)

-- 7 to 10 and 19 before it
unfoldable pub header_for : Bool → Library → List ℕ → List ℕ → List ℕ → ℕ → ℕ → Outcome
header_for ranged lib ids s t words bytes =
    map_design bytes (next (read_header s) (λ h. unless (leb (need h.size h.outputs) words) 10 0 (design_of ranged lib ids s t h)))

-- what is read of a graph's text s and t with the cells to map with, 7 to 10 and 19 first
abbrev pub headed_of : Bool → List Cell → List Cell → List ℕ → List ℕ → ℕ → Read Design
headed_of ranged listed cells s t words =
    next (read_header s) (λ h. unless (leb (need h.size h.outputs) words) 10 0
    (next (read_graph s h) (λ g. next (read_arrivals h.inputs t) (λ es. holds (record { listed = listed; cells = cells; ranged = ranged; graph = timed_by g es })))))

-- 30 before them
unfoldable pub library_for : Bool → Bool → Library → List ℕ → List ℕ → ℕ → ℕ → Outcome
unfolding cells_for
library_for paired ranged lib s t words bytes =
    map_design bytes (unless (leb (length (cells_for paired (cells_of lib))) 256) 30 0 (headed_of ranged (cells_of lib) (cells_for paired (cells_of lib)) s t words))
