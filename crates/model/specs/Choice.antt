-- The chosen source and arrival of each phase. A phase of a variable is a literal: 2v positive, 2v+1 negative.
use Rattle.std.specs.Prelude.{◌+◌, ◌^◌, ◌&&◌, ◌∷◌, ◌++◌}
use Rattle.base.specs.{ℕ, suc, max, Bool, true, false, not, cond, List, [], map, ltb, length, get_or}
use Rattle.model.specs.Base.{any, keep, each, find, run, below, same}
use Rattle.model.specs.Table.{orders}
use Rattle.model.specs.Cells.{no_cell, cell_at, is_inverter}
use Rattle.model.specs.Graph.{Graph, Node, constant, input, undefined, both, node, topological_order, var_of, negated, opposite}
use Rattle.model.specs.Cuts.{cut_lists_of, cut_at, cut_table}
use Rattle.model.specs.Matching.{phase_table, fits, match_nets}
use Rattle.model.specs.declared.Cell.{Cell}
use Rattle.model.specs.declared.Match.{Match}
use Rattle.model.specs.declared.Source.{Source}
use Rattle.model.specs.declared.Source.TheVariants.{Input, Cell as Matched, Inverter as Inverted, Nothing}
use Rattle.model.specs.declared.Phase.{Phase}

-- the two phases of a variable
pub record Phases : Type 0 where
  pub positive : Phase
  pub negative : Phase

-- "or none"
unfoldable pub no_phase : Phase
no_phase = record { source = Nothing; arrival = 0 }

-- no phase of either
unfoldable pub no_phases : Phases
unfolding no_phase
no_phases = record { positive = no_phase; negative = no_phase }

-- the phase of a literal
unfoldable pub phase_of : (ℕ → Phases) → ℕ → Phase
unfolding negated var_of
phase_of known l = let p = known (var_of l) in cond (negated l) p.negative p.positive

-- the nets that feed phase l from a source, `cuts` the variables' cut lists
unfoldable pub feeds : List Cell → (ℕ → List (List ℕ)) → ℕ → Source → List ℕ
unfolding match_nets cut_at var_of opposite
feeds cells cuts l Input = []
feeds cells cuts l Nothing = []
feeds cells cuts l (Matched m) = match_nets cells (cut_at cuts (var_of l) m.cut) m
feeds cells cuts l (Inverted c) = opposite l ∷ []

-- the cell of a source
unfoldable pub cell_of : List Cell → Source → Cell
unfolding cell_at
cell_of cells Input = no_cell
cell_of cells Nothing = no_cell
cell_of cells (Matched m) = cell_at cells m.cell
cell_of cells (Inverted c) = cell_at cells c

-- "0 for a cell without pins, otherwise the largest of feeding arrival plus pin delay"
unfoldable pub latest : List ℕ → List ℕ → ℕ
latest [] ds = 0
latest (t ∷ ts) [] = max t (latest ts [])
latest (t ∷ ts) (d ∷ ds) = max (t + d) (latest ts ds)

-- there is no source
unfoldable pub absent : Source → Bool
absent Input = false
absent Nothing = true
absent (Matched m) = false
absent (Inverted c) = false

-- "earliest arrival": the first, unless the second is strictly earlier
unfoldable pub earlier : Phase → Phase → Phase
unfolding absent
earlier a b =
    cond (absent a.source) b
    (cond (absent b.source) a
    (cond (ltb b.arrival a.arrival) b a))

-- the first of the earliest
unfoldable pub choose : List Phase → Phase
unfolding no_phase earlier
choose [] = no_phase
choose (p ∷ ps) = earlier p (choose ps)

-- the phase that a match on a cut gives; nothing if a pin's net has nothing
unfoldable pub match_phase : List Cell → (ℕ → Phases) → List ℕ → Match → Phase
unfolding match_nets latest no_phase cell_at absent phase_of any
match_phase cells known cut m =
    let pins = map (phase_of known) (match_nets cells cut m) in
    cond (any (λ (p : Phase). absent p.source) pins) no_phase
    (record { source = Matched m; arrival = latest (map (λ (p : Phase). p.arrival) pins) (cell_at cells m.cell).delays })

-- the matches of one cell on cut number k, f the cut's function in the phase: by "order number, mask, lowest first"
unfoldable pub cell_matches : Cell → ℕ → ℕ → ℕ → ℕ → List Match
unfolding each below keep fits orders
cell_matches c line k leaves f =
    each (λ (order : ℕ). map (λ (mask : ℕ). record { cut = k; cell = line; order = order; mask = mask })
    (keep (λ (mask : ℕ). fits c (get_or orders order []) mask leaves f) (below (2 ^ c.pins))))
    (below 24)

-- the matches on one cut: by "cell line"
unfoldable pub cut_matches : List Cell → ℕ → ℕ → ℕ → ℕ → List Match
unfolding cell_matches
cut_matches [] line k leaves f = []
cut_matches (c ∷ cs) line k leaves f = cell_matches c line k leaves f ++ cut_matches cs (suc line) k leaves f

-- what the matches on cut number k give, unless it is "the variable alone"
unfoldable pub cut_phases : List Cell → Graph → (ℕ → Phases) → ℕ → Bool → ℕ → List ℕ → List Phase
unfolding match_phase cut_matches phase_table cut_table same
cut_phases cells g known v neg k cut =
    let found = map (match_phase cells known cut) (cut_matches cells 0 k (length cut) (phase_table neg (cut_table g cut v))) in
    cond (same cut (v ∷ [])) [] found

-- "a cell matched on a cut other than the variable alone": by "cut", lowest first, from number k on
unfoldable pub match_phases : List Cell → Graph → (ℕ → Phases) → ℕ → Bool → ℕ → List (List ℕ) → List Phase
unfolding cut_phases
match_phases cells g known v neg k [] = []
match_phases cells g known v neg k (cut ∷ cuts) = cut_phases cells g known v neg k cut ++ match_phases cells g known v neg (suc k) cuts

-- "a one-pin cell with table 0001 fed by the opposite phase": by line
unfoldable pub inverter_phases : List Cell → ℕ → Phase → List Phase
unfolding absent is_inverter
inverter_phases [] line other = []
inverter_phases (c ∷ cs) line other =
    let rest = inverter_phases cs (suc line) other in
    cond (is_inverter c && not (absent other.source))
    (record { source = Inverted line; arrival = other.arrival + get_or c.delays 0 0 } ∷ rest)
    rest

-- a phase without inverters: "for an input's positive phase its own net", else the best match
unfoldable pub uninverted : List Cell → Graph → (ℕ → Phases) → ℕ → List (List ℕ) → Bool → Node → Phase
unfolding choose match_phases no_phase
uninverted cells g known v cuts neg constant = choose (match_phases cells g known v neg 0 cuts)
uninverted cells g known v cuts neg input = cond neg no_phase (record { source = Input; arrival = g.input_arrival v })
uninverted cells g known v cuts neg undefined = no_phase
uninverted cells g known v cuts neg (both l r) = choose (match_phases cells g known v neg 0 cuts)

-- "then a matched cell before the inverter"
unfoldable pub joined : List Cell → Phase → Phase → Phases
unfolding choose inverter_phases
joined cells p m = record { positive = choose (p ∷ inverter_phases cells 0 m); negative = choose (m ∷ inverter_phases cells 0 p) }

-- the choice for all variables, in topological order
unfoldable pub choices : List Cell → Graph → List (ℕ × Phases)
unfolding run find topological_order node cut_lists_of uninverted joined no_phases
choices cells g =
    let cuts = cut_lists_of g in
    run (λ known v.
    let look : ℕ → Phases = λ u. find no_phases u known in
    let cs : List (List ℕ) = find [] v cuts in
    joined cells (uninverted cells g look v cs false (node g v)) (uninverted cells g look v cs true (node g v)))
    (topological_order g) []

-- the chosen phase of a literal
unfoldable pub chosen : List Cell → Graph → ℕ → Phase
unfolding phase_of find choices no_phases
chosen cells g l = phase_of (λ u. find no_phases u (choices cells g)) l

-- ---- the order of preference

-- "then a matched cell before the inverter; then cut, cell line, order number, mask, lowest first"; "then first line"
unfoldable pub rank : Source → List ℕ
rank Input = []
rank Nothing = []
rank (Matched m) = 0 ∷ m.cut ∷ m.cell ∷ m.order ∷ m.mask ∷ []
rank (Inverted c) = 1 ∷ c ∷ []

-- "for an input's positive phase its own net, otherwise earliest arrival": what the choice makes least, compared left to right
unfoldable pub preference : Phase → List ℕ
unfolding rank
preference p = p.arrival ∷ rank p.source
