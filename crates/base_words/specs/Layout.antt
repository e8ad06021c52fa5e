-- What lies where in the lent words: a column for each property of a variable, then the cuts by columns, "all sizes together, then all first leaves,
-- and so on, then all functions", and the outputs.
-- With W = M + 1 variables a column of one word for each variable takes W words, one of a word for each cut 18 W. No other crate writes a number for an
-- address, and none names the address of a cut or of its function.
use Rattle.std.specs.Prelude.{◌∷◌, ◌+◌, ◌*◌, ◌/◌, ◌%◌, ◌≤◌}
use Rattle.base.specs.{List, [], ℕ, length, get_or}
use Rattle.model.specs.{cut_limit}
use Rattle.model.specs.declared.Header.{Header}

-- ---- the kinds of a node

-- cleared words say that nothing is defined
abbrev pub undefined_kind : ℕ
undefined_kind = 0

abbrev pub constant_kind : ℕ
constant_kind = 1

abbrev pub input_kind : ℕ
input_kind = 2

abbrev pub and_kind : ℕ
and_kind = 3

-- ---- how many

-- the ordered variables: variable 0, the inputs and the ANDs
abbrev pub ordered_count : Header → ℕ
ordered_count h = h.inputs + h.ands + 1

-- ---- the addresses

-- what a variable is
abbrev pub kind_addr : ℕ → ℕ → ℕ
kind_addr m v = v

-- its operands' literals
abbrev pub left_addr : ℕ → ℕ → ℕ
left_addr m v = m + 1 + v

abbrev pub right_addr : ℕ → ℕ → ℕ
right_addr m v = 2 * (m + 1) + v

-- the variable that is ordered i-th
abbrev pub slot_addr : ℕ → ℕ → ℕ
slot_addr m i = 3 * (m + 1) + i

-- 1 and the variable's slot, 0 while it is not ordered
abbrev pub position_addr : ℕ → ℕ → ℕ
position_addr m v = 4 * (m + 1) + v

-- how many cuts it has
abbrev pub count_addr : ℕ → ℕ → ℕ
count_addr m v = 5 * (m + 1) + v

-- which of its phases are needed
abbrev pub needed_addr : ℕ → ℕ → ℕ
needed_addr m v = 6 * (m + 1) + v

-- when it arrives, of an input: "The input record gains this number"
abbrev pub input_arrival_addr : ℕ → ℕ → ℕ
input_arrival_addr m v = 7 * (m + 1) + v

-- its phases, four words for each
abbrev pub positive_addr : ℕ → ℕ → ℕ
positive_addr m v = 8 * (m + 1) + 4 * v

abbrev pub negative_addr : ℕ → ℕ → ℕ
negative_addr m v = 12 * (m + 1) + 4 * v

-- cut k of v in column c of the cuts: its size in column 0, its leaf j in column 1 + j
abbrev pub cut_addr : ℕ → ℕ → ℕ → ℕ → ℕ
cut_addr m c v k = 16 * (m + 1) + c * (cut_limit * (m + 1)) + (cut_limit * v + k)

-- the words of those five columns, for each variable
abbrev pub block : ℕ
block = 5 * cut_limit

-- the functions of v's cuts, one word for each
abbrev pub function_addr : ℕ → ℕ → ℕ → ℕ
function_addr m v k = (16 + block) * (m + 1) + cut_limit * v + k

-- once phases are chosen, these words hold the minimum arrivals instead, two words for each literal
abbrev pub min_arrival_addr : ℕ → ℕ → ℕ
min_arrival_addr m l = (16 + block) * (m + 1) + 2 * l

-- output i's literal
abbrev pub output_addr : ℕ → ℕ → ℕ
output_addr m i = (16 + block + cut_limit) * (m + 1) + i

-- ---- where columns that a pass writes whole begin and end

abbrev pub counts_from : ℕ → ℕ
counts_from m = 5 * (m + 1)

abbrev pub counts_to : ℕ → ℕ
counts_to m = 6 * (m + 1)

abbrev pub lists_from : ℕ → ℕ
lists_from m = 16 * (m + 1)

abbrev pub lists_to : ℕ → ℕ
lists_to m = (16 + block) * (m + 1)

-- ---- enough words

-- for all but the outputs: "M exceeds 4,095" is refused, and so is "Work memory has fewer than 124(M+1) + O 16-bit words"
pub record HasCapacity (w : List ℕ) (m : ℕ) : Type 0 where
  pub small : m ≤ 4095
  pub capacity : output_addr m 0 ≤ length w

-- for the outputs too
pub record HasCapacityFor (w : List ℕ) (m outputs : ℕ) : Type 0 where
  pub small : m ≤ 4095
  pub capacity : output_addr m outputs ≤ length w

-- ---- the words there

abbrev pub kind_at : List ℕ → ℕ → ℕ → ℕ
kind_at w m v = get_or w (kind_addr m v) 0

abbrev pub left_at : List ℕ → ℕ → ℕ → ℕ
left_at w m v = get_or w (left_addr m v) 0

abbrev pub right_at : List ℕ → ℕ → ℕ → ℕ
right_at w m v = get_or w (right_addr m v) 0

abbrev pub slot_at : List ℕ → ℕ → ℕ → ℕ
slot_at w m i = get_or w (slot_addr m i) 0

abbrev pub position_at : List ℕ → ℕ → ℕ → ℕ
position_at w m v = get_or w (position_addr m v) 0

abbrev pub count_at : List ℕ → ℕ → ℕ → ℕ
count_at w m v = get_or w (count_addr m v) 0

abbrev pub needed_at : List ℕ → ℕ → ℕ → ℕ
needed_at w m v = get_or w (needed_addr m v) 0

abbrev pub input_arrival_at : List ℕ → ℕ → ℕ → ℕ
input_arrival_at w m v = get_or w (input_arrival_addr m v) 0

abbrev pub output_at : List ℕ → ℕ → ℕ → ℕ
output_at w m i = get_or w (output_addr m i) 0

abbrev pub min_arrival_at : List ℕ → ℕ → ℕ → ℕ
min_arrival_at w m l = get_or w (min_arrival_addr m l) 0 + get_or w (min_arrival_addr m l + 1) 0 * 65536

abbrev pub min_arrival_words : ℕ → List ℕ
min_arrival_words t = t % 65536 ∷ t / 65536 ∷ []
