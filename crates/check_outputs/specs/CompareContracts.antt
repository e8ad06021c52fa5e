-- What the functions that compare outputs ask, and what they answer.
use Rattle.std.specs.Prelude.{◌≡◌, ◌+◌, ◌*◌, ◌/◌, ◌%◌, ◌^◌, ◌≤◌, ◌<◌}
use Rattle.base.specs.{List, ℕ, length, get_or}
use Rattle.model.specs.{Driver, input_nets, settled, wrong_at, compare_from}
use Rattle.model.specs.Graph.{Graph}
use Rattle.model.specs.declared.Comparison.{Comparison}
use Rattle.model.specs.declared.Header.{Header}
use Rattle.base_words.specs.{HasCapacityFor, output_at}
use Rattle.check_outputs.specs.Assignments.{literal_word, differences}
use Rattle.check_outputs.specs.Evaluation.{Readable, DriversStep}
use Rattle.check_outputs.specs.Comparable.{Wrong, Comparable}

-- the words and arrays are of some graph and drivers that can be compared
abbrev pub HasNetlist : List ℕ → Header → List ℕ → ℕ → List ℕ → List ℕ → Type 0
HasNetlist work h nets n refs order = (g : Graph) × (ds : List Driver) × Comparable work h nets n refs order g ds

-- the answer for whatever graph and drivers they are of
abbrev pub ComparedAs : List ℕ → Header → List ℕ → ℕ → List ℕ → List ℕ → Comparison → Type 0
ComparedAs work h nets n refs order r = (g : Graph) (ds : List Driver) → Comparable work h nets n refs order g ds → r ≡ compare_from (2 ^ length g.inputs) 0 (wrong_at g (settled (length ds) (input_nets g) ds))

-- within a block of 64 assignments the differences stand there already
abbrev pub Evaluable : List ℕ → Header → List ℕ → ℕ → List ℕ → List ℕ → ℕ → List ℕ → Type 0
Evaluable work h nets n refs order s wrong = (((g : Graph) × (ds : List Driver) × Comparable work h nets n refs order g ds) × (length wrong ≡ 4096)) × ((g : Graph) (ds : List Driver) → Comparable work h nets n refs order g ds → ¬ (s % 64 ≡ 0) → Wrong g ds (s / 64) wrong)

-- the differences of the block of assignment s
abbrev pub Evaluated : List ℕ → Header → List ℕ → ℕ → List ℕ → List ℕ → ℕ → List ℕ → Type 0
Evaluated work h nets n refs order s wrong' = (length wrong' ≡ 4096) × ((g : Graph) (ds : List Driver) → Comparable work h nets n refs order g ds → Wrong g ds (s / 64) wrong')

-- outputs and their drivers are within their arrays
abbrev pub OutputsReadable : List ℕ → ℕ → ℕ → ℕ → List ℕ → Type 0
OutputsReadable work m outputs first wrong = HasCapacityFor work m outputs × (outputs ≤ 4096) × (first + outputs ≤ 10923) × ((k : ℕ) → k < outputs → output_at work m k ≤ 2 * m + 1) × (length wrong ≡ 4096)

-- where each output differs from its driver
abbrev pub OutputsCompared : List ℕ → ℕ → ℕ → ℕ → List ℕ → List ℕ → List ℕ → Type 0
OutputsCompared work m outputs first variables drivers wrong' = (length wrong' ≡ 4096) × ((k : ℕ) → k < outputs → get_or wrong' k 0 ≡ differences (literal_word (output_at work m k) (get_or variables (output_at work m k / 2) 0)) (get_or drivers (first + k) 0))

-- each driver in the order can be read
abbrev pub DriversReadable : List ℕ → ℕ → List ℕ → List ℕ → List ℕ → Type 0
DriversReadable nets n refs order drivers = (n ≤ 10923) × ((p : ℕ) → p < n → Readable nets refs (get_or order p 0)) × (length drivers ≡ 10923)

-- each has its value in block b
abbrev pub DriversFilled : List ℕ → ℕ → List ℕ → List ℕ → ℕ → List ℕ → Type 0
DriversFilled nets n refs order b drivers' = (values : ℕ → ℕ) → DriversStep nets refs order n b values → (p : ℕ) → p < n → get_or drivers' (get_or order p 0) 0 ≡ values (get_or order p 0)
