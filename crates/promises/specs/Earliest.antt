-- Demand 3, for every call, over the covers of `Covers`: whatever the library and the graph, no cover so timed gives a printed net earlier, and 17 comes
-- exactly where an output has no cover.
use Rattle.std.specs.Prelude.{◌≤◌, ◌<◌, ◌≡◌, ◌⊎◌, ◌↔◌, ◌∷◌}
use Rattle.base.specs.{ℕ, Bool, false, List, [], map, Memᴰ, length, get_or}
use Rattle.model.specs.{var_of, orders, cuts_of, absent, chosen, topological_order, IsInputSource, net_name, out_name, Outcome, refused, mapped, NetArrivals, driven_nets, Call}
use Rattle.model.specs.{OfPrinted, OfMappable, choice_figures, printed_text}
use Rattle.model.specs.Graph.{Graph}
use Rattle.model.specs.Blif.{Blif}
use Rattle.model.specs.Demands.{KeepsPairs}
use Rattle.model.specs.declared.Cell.{Cell}
use Rattle.model.specs.declared.Match.{Match}
use Rattle.model.specs.declared.Figures.{Figures}
use Rattle.model.specs.declared.Source.{Source as Numbered}
use Rattle.model.specs.declared.Source.TheVariants.{Input, Cell as Matched, Inverter as Inverted}
use Rattle.promises.specs.Covers.{At, CellMatch, Source, own_net, matched, inverter, Allowed, FedBy, Needed, Cover, CoverArrivals, Arrives, Precedes}

-- "for each net of the printed netlist, every cover of the outputs that has this net gives it an arrival no earlier". "A cover has a net if it needs that net's
-- phase". "The earliest-arrival promise, for `p` and `m` nets, .. range over covers with pairs too". Both arrivals start from the inputs' own
abbrev pub NoEarlier : List Cell → List Cell → Graph → Figures → Blif → Type 0
NoEarlier listed cells g f n =
    (at : List ℕ → ℕ) → NetArrivals listed n (map g.input_arrival g.inputs) at → (l : ℕ) → Memᴰ (net_name l) (driven_nets n)
    → (c : Cover listed cells g g.outputs) (arrival : ℕ → ℕ) → CoverArrivals listed cells g g.outputs c arrival → Needed cells g.outputs c.source l
    → at (net_name l) ≤ arrival l

-- the same of the nets `o0`, `o1` and so on: output k's own name arrives as its net, which every cover of the outputs has
abbrev pub OutputsNoEarlier : List Cell → List Cell → Graph → Figures → Blif → Type 0
OutputsNoEarlier listed cells g f n =
    (at : List ℕ → ℕ) → NetArrivals listed n (map g.input_arrival g.inputs) at → (k : ℕ) → k < length g.outputs
    → (at (out_name k) ≡ at (net_name (get_or g.outputs k 0)))
    × ((c : Cover listed cells g g.outputs) (arrival : ℕ → ℕ) → CoverArrivals listed cells g g.outputs c arrival → at (out_name k) ≤ arrival (get_or g.outputs k 0))

-- "arrival of the latest output (0 without outputs)": the printed figure is at least each output's, and one of them
pub record LatestOutput (listed cells : List Cell) (g : Graph) (f : Figures) (n : Blif) : Type 0 where
  pub none_later : (at : List ℕ → ℕ) → NetArrivals listed n (map g.input_arrival g.inputs) at → (o : List ℕ) → Memᴰ o n.outputs → at o ≤ f.arrival
  pub is_one : (at : List ℕ → ℕ) → NetArrivals listed n (map g.input_arrival g.inputs) at
      → ((n.outputs ≡ []) × (f.arrival ≡ 0)) ⊎ ((o : List ℕ) × Memᴰ o n.outputs × (f.arrival ≡ at o))

-- every cover has arrivals, and on the phases that it needs no others; "every arrival starts from it": an input's own net has the input's arrival
pub record Timed (listed cells : List Cell) (g : Graph) (outs : List ℕ) (c : Cover listed cells g outs) : Type 0 where
  pub has : (at : ℕ → ℕ) × CoverArrivals listed cells g outs c at
  pub alone : (at bt : ℕ → ℕ) → CoverArrivals listed cells g outs c at → CoverArrivals listed cells g outs c bt → (l : ℕ) → Needed cells outs c.source l → at l ≡ bt l
  pub starts : (at : ℕ → ℕ) → CoverArrivals listed cells g outs c at → (l : ℕ) → Needed cells outs c.source l → IsInputSource g l → at l ≡ g.input_arrival (var_of l)

abbrev pub CoversTimed : Bool → ℕ → Outcome → List Cell → List Cell → Graph → Type 0
CoversTimed ranged bytes outcome listed cells g = (outs : List ℕ) (c : Cover listed cells g outs) → Timed listed cells g outs c

-- output k is the lowest that has no cover: "a cover of one output is a cover with that as the only output"
pub record LowestUncovered (listed cells : List Cell) (g : Graph) (k : ℕ) : Type 0 where
  pub is_output : k < length g.outputs
  pub has_none : ¬ Cover listed cells g (get_or g.outputs k 0 ∷ [])
  pub before : (j : ℕ) → j < k → Cover listed cells g (get_or g.outputs j 0 ∷ [])

-- each output has a cover
abbrev pub Covered : List Cell → List Cell → Graph → Type 0
Covered listed cells g = (l : ℕ) → Memᴰ l g.outputs → Cover listed cells g (l ∷ [])

-- "refusal 17 comes exactly when some output has no cover, and names the lowest; else the netlist of the cover that 01's choice gives is
-- printed, or 18 exactly when it applies"
pub record Decided (ranged : Bool) (bytes : ℕ) (outcome : Outcome) (listed cells : List Cell) (g : Graph) : Type 0 where
  pub seventeen : (k : ℕ) → (outcome ≡ refused 17 k) ↔ LowestUncovered listed cells g k
  pub prints : Covered listed cells g → length (printed_text ranged listed cells g) ≤ bytes → outcome ≡ mapped (printed_text ranged listed cells g) (choice_figures listed cells g)
  pub eighteen : Covered listed cells g → bytes < length (printed_text ranged listed cells g) → outcome ≡ refused 18 (length (printed_text ranged listed cells g))

-- a source that the choice knows by numbers, by its data: the cut and the order of these numbers
pub data IsSource (g : Graph) (l : ℕ) : Numbered → Source → Type 0 where
  is_own_net : IsSource g l Input own_net
  is_match : {m : Match} {n : CellMatch} → At (cuts_of g (var_of l)) m.cut n.cut → m.cell ≡ n.cell → At orders m.order n.order → m.mask ≡ n.mask
      → IsSource g l (Matched m) (matched n)
  is_inverter : {k : ℕ} → IsSource g l (Inverted k) (inverter k)

-- "the cover that 01's choice gives": where every output has a cover, the chosen sources and arrivals are a cover of the outputs
pub record ChosenCover (listed cells : List Cell) (g : Graph) : Type 0 where
  pub cover : Cover listed cells g g.outputs
  pub sources : (l : ℕ) → Needed cells g.outputs cover.source l → IsSource g l (chosen cells g l).source (cover.source l)
  pub arrivals : CoverArrivals listed cells g g.outputs cover (λ l. (chosen cells g l).arrival)

-- the choice by 01's order of preference: an ordered phase for which some source is allowed, whose pins have sources, is chosen one; the chosen one is allowed
-- and timed by the rule, and no such source comes before it
pub record Preferred (listed cells : List Cell) (g : Graph) (l : ℕ) (s : Source) (t : ℕ) : Type 0 where
  pub source : Source
  pub is_chosen : IsSource g l (chosen cells g l).source source
  pub allowed : Allowed listed cells g l source
  pub timed : Arrives cells g (λ x. (chosen cells g x).arrival) l source (chosen cells g l).arrival
  pub first : ¬ Precedes s t source (chosen cells g l).arrival

pub record Chosen (ranged : Bool) (bytes : ℕ) (outcome : Outcome) (listed cells : List Cell) (g : Graph) : Type 0 where
  pub covers : Covered listed cells g → ChosenCover listed cells g
  pub preferred : (l : ℕ) → Memᴰ (var_of l) (topological_order g) → (s : Source) (t : ℕ) → Allowed listed cells g l s
      → Arrives cells g (λ x. (chosen cells g x).arrival) l s t → ((x d : ℕ) → FedBy cells l s x d → absent (chosen cells g x).source ≡ false)
      → Preferred listed cells g l s t

pub record Earliest (c : Call) : Type 0 where
  pub pairs : KeepsPairs c
  pub earliest : OfPrinted NoEarlier c
  pub outputs : OfPrinted OutputsNoEarlier c
  pub latest : OfPrinted LatestOutput c
  pub timed : OfMappable CoversTimed c
  pub decided : OfMappable Decided c
  pub choice : OfMappable Chosen c
