-- A node as three words, its kind and its operands; a cut as five words, its count and its four leaves; a cut's function as one.
-- Other crates name a cut and its function by M, the variable and the cut's number, and read and store them by the names here: where they lie is
-- not theirs to know.
use Rattle.std.specs.Prelude.{◌∷◌, ◌++◌, ◌≤◌, ◌<◌}
use Rattle.base.specs.{cond, List, [], map, ℕ, zero, suc, eqb, length, take, get_or}
use Rattle.model.specs.{cut_limit, Node, constant, input, undefined, both}
use Rattle.model.specs.declared.Cut.{Cut}
use Rattle.base_words.specs.StoredWords.{put_at}
use Rattle.base_words.specs.Layout.{constant_kind, input_kind, and_kind, kind_addr, left_addr, right_addr, kind_at, left_at, right_at, count_at}
use Rattle.base_words.specs.Layout.{count_addr, cut_addr, function_addr}

-- the leaves of a cut
abbrev pub leaves_of : Cut → List ℕ
leaves_of c = take c.count c.leaves

-- a cut by its five words
unfoldable pub cut_by : (ℕ → ℕ) → Cut
cut_by word = record { leaves = word 1 ∷ word 2 ∷ word 3 ∷ word 4 ∷ []; count = word 0 }

-- the cut in five words
unfoldable pub cut_in : List ℕ → Cut
cut_in ws = cut_by (λ c. get_or ws c 0)

-- cut k of variable v
unfoldable pub cut_of : List ℕ → ℕ → ℕ → ℕ → Cut
cut_of w m v k = cut_by (λ c. get_or w (cut_addr m c v k) 0)

-- its leaves
abbrev pub leaves_at : List ℕ → ℕ → ℕ → ℕ → List ℕ
leaves_at w m v k = leaves_of (cut_of w m v k)

-- its function
unfoldable pub function_of : List ℕ → ℕ → ℕ → ℕ → ℕ
function_of w m v k = get_or w (function_addr m v k) 0

-- the leaves of n cuts of v, from number k on
unfoldable pub leaves_from : List ℕ → ℕ → ℕ → ℕ → ℕ → List (List ℕ)
leaves_from w m v k zero = []
leaves_from w m v k (suc n) = leaves_at w m v k ∷ leaves_from w m v (suc k) n

-- the cuts of a variable, as the words have them
unfoldable pub cuts_at : List ℕ → ℕ → ℕ → List (List ℕ)
cuts_at w m v = leaves_from w m v 0 (count_at w m v)

-- four leaves, with zeros past the last
abbrev pub padded : List ℕ → List ℕ
padded ls = take 4 (ls ++ 0 ∷ 0 ∷ 0 ∷ 0 ∷ [])

-- the words of a cut: its size and its leaves, with zeros past the last
unfoldable pub cut_words : List ℕ → List ℕ
cut_words c = length c ∷ padded c

-- the words with a word for each column of the cuts, from column c on, stored for cut k of v
unfoldable pub put_from : List ℕ → ℕ → ℕ → ℕ → ℕ → List ℕ → List ℕ
put_from w m c v k [] = w
put_from w m c v k (x ∷ xs) = put_from (put_at w (cut_addr m c v k) (x ∷ [])) m (suc c) v k xs

-- the words with a cut's five stored as cut k of v
unfoldable pub put_cut : List ℕ → ℕ → ℕ → ℕ → List ℕ → List ℕ
put_cut w m v k ws = put_from w m 0 v k ws

-- those of several cuts, as the cuts of v from number k on
unfoldable pub put_cuts : List ℕ → ℕ → ℕ → ℕ → List (List ℕ) → List ℕ
put_cuts w m v k [] = w
put_cuts w m v k (ws ∷ rest) = put_cuts (put_cut w m v k ws) m v (suc k) rest

-- the words with a list of cuts stored for a variable
unfoldable pub put_list : List ℕ → ℕ → ℕ → List (List ℕ) → List ℕ
put_list w m v cs = put_cuts (put_at w (count_addr m v) (length cs ∷ [])) m v 0 (map cut_words cs)

-- the words with functions stored for the cuts of v from number k on
unfoldable pub put_functions : List ℕ → ℕ → ℕ → ℕ → List ℕ → List ℕ
put_functions w m v k fs = put_at w (function_addr m v k) fs

-- what a kind, and the words of the operands, say a variable is
abbrev pub node_of : ℕ → ℕ → ℕ → Node
node_of k l r = cond (eqb k constant_kind) constant (cond (eqb k input_kind) input (cond (eqb k and_kind) (both l r) undefined))

-- what a variable is, as the words have it
unfoldable pub node_at : List ℕ → ℕ → ℕ → Node
node_at w m v = node_of (kind_at w m v) (left_at w m v) (right_at w m v)

-- the words with a kind and operands stored for a variable
unfoldable pub put_node : List ℕ → ℕ → ℕ → ℕ → ℕ → ℕ → List ℕ
put_node w m v k l r = put_at (put_at (put_at w (kind_addr m v) (k ∷ [])) (left_addr m v) (l ∷ [])) (right_addr m v) (r ∷ [])

-- ascending leaves from lo on, each a variable: "M exceeds 4,095" is refused
abbrev pub Leaves : ℕ → List ℕ → Type 0
Leaves lo [] = Unit {0}
Leaves lo (x ∷ xs) = (lo ≤ x) × (x < 4096) × Leaves (suc x) xs

-- "at most four members", ascending
abbrev pub Good : List ℕ → Type 0
Good c = (length c ≤ 4) × Leaves 0 c

abbrev pub AllGood : List (List ℕ) → Type 0
AllGood [] = Unit {0}
AllGood (c ∷ cs) = Good c × AllGood cs

-- the words of a variable's cut list can be read: few cuts, each of at most four ascending leaves
pub record Sound (w : List ℕ) (m v : ℕ) : Type 0 where
  pub few : count_at w m v ≤ cut_limit
  pub narrow : (k : ℕ) → k < count_at w m v → (cut_of w m v k).count ≤ 4
  pub good : AllGood (cuts_at w m v)
