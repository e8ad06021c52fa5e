-- A cut as one number, its key: its size and its four leaves, the first highest, so that "by size, then by ascending leaves compared left to right" is the order of the keys.
-- A list being built has room for one cut more than the limit; what comes after that is left out.
use Rattle.std.specs.Prelude.{◌∷◌, ◌++◌, ◌+◌, ◌-◌, ◌*◌, ◌/◌, ◌%◌, ◌≤◌, ◌≡◌}
use Rattle.base.specs.{cond, List, [], map, ℕ, zero, suc, compare, ltb, leb, length, take}
use Rattle.base.specs.{drop, Option, None, Some}
use Rattle.model.specs.{insert, union, Node, constant, input, undefined, both, var_of, cut_limit}
use Rattle.base_words.specs.{put_at, count_addr, put_cuts}

-- n leaves more, in base 4096: a leaf is a variable, and "M exceeds 4,095" is refused
unfoldable pub key_from : ℕ → ℕ → List ℕ → ℕ
key_from zero acc ls = acc
key_from (suc n) acc [] = key_from n (acc * 4096 + 0) []
key_from (suc n) acc (x ∷ xs) = key_from n (acc * 4096 + x) xs

unfoldable pub key : List ℕ → ℕ
unfolding key_from
key c = key_from 4 (length c) c

-- the size and the leaves that a key has in it
unfoldable pub key_words : ℕ → List ℕ
key_words k =
    k / 4096 / 4096 / 4096 / 4096 ∷ k / 4096 / 4096 / 4096 % 4096 ∷ k / 4096 / 4096 % 4096 ∷ k / 4096 % 4096 ∷ k % 4096 ∷ []

-- the words with the cuts that keys stand for stored for a variable
unfoldable pub put_keys : List ℕ → ℕ → ℕ → List ℕ → List ℕ
put_keys w m v ks = put_cuts (put_at w (count_addr m v) (length ks ∷ [])) m v 0 (map key_words ks)

-- one cut more than the limit
abbrev pub key_capacity : ℕ
key_capacity = cut_limit + 1

-- strictly ascending, from lo on
abbrev pub Rising : ℕ → List ℕ → Type 0
Rising lo [] = Unit {0}
Rising lo (x ∷ xs) = (lo ≤ x) × Rising (suc x) xs

-- a list that can be added to: the keys from a place on
pub record Building (keys : List ℕ) (from : ℕ) : Type 0 where
  pub capacity : length keys ≡ key_capacity
  pub fits : from ≤ key_capacity

-- where k goes among the keys, or none where it is one of them
abbrev pub InsertPosition : List ℕ → ℕ → ℕ → Option ℕ → Type 0
InsertPosition keys from k None = insert compare k (drop from keys) ≡ drop from keys
InsertPosition keys from k (Some r) =
    (from ≤ r) × (r ≤ key_capacity) × (insert compare k (drop from keys) ≡ drop from (take r keys) ++ (k ∷ drop r keys))

-- the keys before `to` stand one place before where they were, and those behind where they were
pub record Moved (keys : List ℕ) (from to : ℕ) (out : List ℕ) : Type 0 where
  pub ahead : drop (from - 1) (take (to - 1) out) ≡ drop from (take to keys)
  pub behind : drop to out ≡ drop to keys

-- "Equal sets count once"; past the room nothing is added
unfoldable pub added : ℕ → List ℕ → List ℕ
unfolding insert
added k ks = cond (ltb (length ks) key_capacity) (insert compare k ks) ks

-- "that has at most four members"
unfoldable pub added_cut : List ℕ → List ℕ → List ℕ
unfolding added key
added_cut z ks = cond (leb (length z) 4) (added (key z) ks) ks

-- the unions of a cut with each of a list
unfoldable pub merge_row_keys : List ℕ → List (List ℕ) → List ℕ → List ℕ
unfolding added_cut union
merge_row_keys c [] ks = ks
merge_row_keys c (d ∷ ds) ks = added_cut (union compare c d) (merge_row_keys c ds ks)

-- "every union of a cut of one operand's variable with a cut of the other's"
unfoldable pub merged_keys : List (List ℕ) → List (List ℕ) → List ℕ
unfolding merge_row_keys
merged_keys [] ds = []
merged_keys (c ∷ cs) ds = merge_row_keys c ds (merged_keys cs ds)

-- "The cut set of variable 0 is {∅}; of input i, {{i}}; of AND n, {{n}} and every union"
unfoldable pub node_keys : (ℕ → List (List ℕ)) → ℕ → Node → List ℕ
unfolding merged_keys added key var_of
node_keys cuts v constant = key [] ∷ []
node_keys cuts v input = key (v ∷ []) ∷ []
node_keys cuts v undefined = []
node_keys cuts v (both l r) = added (key (v ∷ [])) (merged_keys (cuts (var_of l)) (cuts (var_of r)))
