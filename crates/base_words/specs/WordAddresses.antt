-- The layout as a whole: the columns in the order in which they stand, and the address and the size of every record.
use Rattle.std.specs.Prelude.{◌∷◌, ◌≡◌, ◌+◌, ◌*◌, ◌≤◌, ◌<◌}
use Rattle.base.specs.{List, [], ℕ, zero, suc, get_or}
use Rattle.model.specs.{cut_limit}
use Rattle.base_words.specs.Layout.{kind_addr, left_addr, right_addr, slot_addr, position_addr, count_addr, needed_addr, input_arrival_addr, positive_addr}
use Rattle.base_words.specs.Layout.{negative_addr, cut_addr, function_addr, output_addr}

pub data Column : Type 0 where
  kinds lefts rights order places counts needs lates positives negatives sizes firsts seconds thirds fourths functions outputs : Column

abbrev pub columns : List Column
columns = kinds ∷ lefts ∷ rights ∷ order ∷ places ∷ counts ∷ needs ∷ lates ∷ positives ∷ negatives ∷ sizes ∷ firsts ∷ seconds ∷ thirds ∷ fourths ∷ functions ∷ outputs ∷ []

-- a column's number, from 0
abbrev pub rank : Column → ℕ
rank kinds = 0
rank lefts = 1
rank rights = 2
rank order = 3
rank places = 4
rank counts = 5
rank needs = 6
rank lates = 7
rank positives = 8
rank negatives = 9
rank sizes = 10
rank firsts = 11
rank seconds = 12
rank thirds = 13
rank fourths = 14
rank functions = 15
rank outputs = 16

-- how many words a column takes
abbrev pub width : ℕ → ℕ → Column → ℕ
width m o kinds = m + 1
width m o lefts = m + 1
width m o rights = m + 1
width m o order = m + 1
width m o places = m + 1
width m o counts = m + 1
width m o needs = m + 1
width m o lates = m + 1
width m o positives = 4 * (m + 1)
width m o negatives = 4 * (m + 1)
width m o sizes = cut_limit * (m + 1)
width m o firsts = cut_limit * (m + 1)
width m o seconds = cut_limit * (m + 1)
width m o thirds = cut_limit * (m + 1)
width m o fourths = cut_limit * (m + 1)
width m o functions = cut_limit * (m + 1)
width m o outputs = o

-- column c of the cuts: 0 the sizes, 1 + j the leaves j
abbrev pub cut_column : ℕ → Column
cut_column zero = sizes
cut_column (suc zero) = firsts
cut_column (suc (suc zero)) = seconds
cut_column (suc (suc (suc zero))) = thirds
cut_column (suc (suc (suc (suc c)))) = fourths

-- the words of the first n columns
abbrev pub edge : ℕ → ℕ → ℕ → ℕ
edge m o zero = 0
edge m o (suc n) = edge m o n + width m o (get_or columns n outputs)

-- the address of record v of a column; of a word of cut number k of variable v, and of its function
abbrev pub address_of : ℕ → Column → ℕ → ℕ → ℕ
address_of m kinds v k = kind_addr m v
address_of m lefts v k = left_addr m v
address_of m rights v k = right_addr m v
address_of m order v k = slot_addr m v
address_of m places v k = position_addr m v
address_of m counts v k = count_addr m v
address_of m needs v k = needed_addr m v
address_of m lates v k = input_arrival_addr m v
address_of m positives v k = positive_addr m v
address_of m negatives v k = negative_addr m v
address_of m sizes v k = cut_addr m 0 v k
address_of m firsts v k = cut_addr m 1 v k
address_of m seconds v k = cut_addr m 2 v k
address_of m thirds v k = cut_addr m 3 v k
address_of m fourths v k = cut_addr m 4 v k
address_of m functions v k = function_addr m v k
address_of m outputs v k = output_addr m v

-- how many words a record takes
abbrev pub size_of : Column → ℕ
size_of kinds = 1
size_of lefts = 1
size_of rights = 1
size_of order = 1
size_of places = 1
size_of counts = 1
size_of needs = 1
size_of lates = 1
size_of positives = 4
size_of negatives = 4
size_of sizes = 1
size_of firsts = 1
size_of seconds = 1
size_of thirds = 1
size_of fourths = 1
size_of functions = 1
size_of outputs = 1

-- there is such a record
abbrev pub Listed : ℕ → ℕ → Column → ℕ → ℕ → Type 0
Listed m o kinds v k = (v ≤ m) × (k ≡ 0)
Listed m o lefts v k = (v ≤ m) × (k ≡ 0)
Listed m o rights v k = (v ≤ m) × (k ≡ 0)
Listed m o order v k = (v ≤ m) × (k ≡ 0)
Listed m o places v k = (v ≤ m) × (k ≡ 0)
Listed m o counts v k = (v ≤ m) × (k ≡ 0)
Listed m o needs v k = (v ≤ m) × (k ≡ 0)
Listed m o lates v k = (v ≤ m) × (k ≡ 0)
Listed m o positives v k = (v ≤ m) × (k ≡ 0)
Listed m o negatives v k = (v ≤ m) × (k ≡ 0)
Listed m o sizes v k = (v ≤ m) × (k < cut_limit)
Listed m o firsts v k = (v ≤ m) × (k < cut_limit)
Listed m o seconds v k = (v ≤ m) × (k < cut_limit)
Listed m o thirds v k = (v ≤ m) × (k < cut_limit)
Listed m o fourths v k = (v ≤ m) × (k < cut_limit)
Listed m o functions v k = (v ≤ m) × (k < cut_limit)
Listed m o outputs v k = (v < o) × (k ≡ 0)
