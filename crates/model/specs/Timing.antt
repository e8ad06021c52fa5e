-- The arrivals of the chosen phases under other pin delays: the sources stay, and `delays l` are those of the cell that drives phase l.
-- With the lowest delays they are the minimum arrivals of the `# timing` lines.
use Rattle.std.specs.Prelude.{◌∷◌, ◌++◌}
use Rattle.base.specs.{ℕ, suc, Bool, true, false, cond, List, [], map}
use Rattle.model.specs.Base.{find, run}
use Rattle.model.specs.Text.{text, decimal}
use Rattle.model.specs.Graph.{Graph, topological_order, var_of, negated, literal}
use Rattle.model.specs.Cuts.{cuts_of}
use Rattle.model.specs.Choice.{feeds, cell_of, latest, chosen}
use Rattle.model.specs.Netlist.{Outcome, refused, mapped, out_name}
use Rattle.model.specs.declared.Cell.{Cell}
use Rattle.model.specs.declared.Source.{Source}
use Rattle.model.specs.declared.Source.TheVariants.{Input, Cell as Matched, Inverter as Inverted, Nothing}

-- the arrivals of a variable's two phases
pub record Times : Type 0 where
  pub positive : ℕ
  pub negative : ℕ

abbrev pub no_times : Times
no_times = record { positive = 0; negative = 0 }

-- the arrival of a literal
unfoldable pub time_of : (ℕ → Times) → ℕ → ℕ
unfolding var_of negated
time_of known l = let t = known (var_of l) in cond (negated l) t.negative t.positive

-- a phase without an inverter: "Arrival: 0 for an input, 0 for a cell without pins, otherwise the largest of feeding arrival plus pin delay",
-- an input's being its own
unfoldable pub own_time : List Cell → Graph → List ℕ → (ℕ → Times) → ℕ → Source → ℕ
unfolding time_of latest feeds cuts_of
own_time cells g delays known l Input = g.input_arrival (var_of l)
own_time cells g delays known l Nothing = 0
own_time cells g delays known l (Matched m) = latest (map (time_of known) (feeds cells (cuts_of g) l (Matched m))) delays
own_time cells g delays known l (Inverted c) = 0

-- an inverter, which the other phase's own arrival feeds
unfoldable pub inverter_time : List ℕ → ℕ → ℕ → Source → ℕ
unfolding latest
inverter_time delays own other Input = own
inverter_time delays own other Nothing = own
inverter_time delays own other (Matched m) = own
inverter_time delays own other (Inverted c) = latest (other ∷ []) delays

-- the two phases of a variable
unfoldable pub times_at : List Cell → Graph → (ℕ → Source) → (ℕ → List ℕ) → (ℕ → Times) → ℕ → Times
unfolding own_time inverter_time literal
times_at cells g source delays known v =
    let p = own_time cells g (delays (literal false v)) known (literal false v) (source (literal false v)) in
    let m = own_time cells g (delays (literal true v)) known (literal true v) (source (literal true v)) in
    record {
      positive = inverter_time (delays (literal false v)) p m (source (literal false v));
      negative = inverter_time (delays (literal true v)) m p (source (literal true v));
    }

-- all variables, in topological order
unfoldable pub retimes : List Cell → Graph → (ℕ → Source) → (ℕ → List ℕ) → List (ℕ × Times)
unfolding run find topological_order times_at
retimes cells g source delays = run (λ known v. times_at cells g source delays (λ u. find no_times u known) v) (topological_order g) []

unfoldable pub retimed : List Cell → Graph → (ℕ → Source) → (ℕ → List ℕ) → ℕ → ℕ
unfolding retimes time_of find
retimed cells g source delays l = let known = retimes cells g source delays in time_of (λ u. find no_times u known) l

-- the minimum arrival of a phase: "the lowest delays", the sources being those that "the `d` figures" choose
-- document 02: "low arrivals"
unfoldable pub min_arrival_of : List Cell → Graph → ℕ → ℕ
unfolding retimed chosen cell_of
min_arrival_of cells g l = retimed cells g (λ x. (chosen cells g x).source) (λ x. (cell_of cells (chosen cells g x).source).mins) l

-- ---- the lines

-- "a line per output, as `# timing o0 30 35`: a low and a high arrival", from output k on
unfoldable pub timing_lines : (ℕ → ℕ) → (ℕ → ℕ) → ℕ → List ℕ → List ℕ
unfolding text decimal out_name
timing_lines low high k [] = []
timing_lines low high k (l ∷ ls) =
    text "# timing " ++ (out_name k ++ (32 ∷ decimal (low l) ++ (32 ∷ decimal (high l) ++ (text "\n" ++ timing_lines low high (suc k) ls))))

-- "The netlist is then followed by a line per output"
unfoldable pub followed : Bool → List Cell → Graph → Outcome → Outcome
unfolding timing_lines min_arrival_of chosen
followed ranged cells g (refused n k) = refused n k
followed false cells g (mapped t f) = mapped t f
followed true cells g (mapped t f) = mapped (t ++ timing_lines (min_arrival_of cells g) (λ (l : ℕ). (chosen cells g l).arrival) 0 g.outputs) f
