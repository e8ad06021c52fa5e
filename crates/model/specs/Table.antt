-- Tables of up to four pins, the 24 orders, the row map and the masks.
use Rattle.std.specs.Prelude.{◌+◌, ◌*◌, ◌/◌, ◌∷◌}
use Rattle.base.specs.{ℕ, zero, suc, Bool, List, [], map}
use Rattle.model.specs.Base.{bit, one, flip, each, below}

-- "bit r is the cell's value in row r"
unfoldable pub value : ℕ → ℕ → Bool
unfolding bit
value table r = bit table r

-- "bit j of r is pin j"
unfoldable pub row_of : List Bool → ℕ
unfolding one
row_of [] = 0
row_of (b ∷ bs) = one b + 2 * row_of bs

-- each element of a list with the others, in the list's order
unfoldable pub picks : List ℕ → List (ℕ × List ℕ)
picks [] = []
picks (x ∷ xs) = (x, xs) ∷ map (λ (q : ℕ × List ℕ). (q.0, x ∷ q.1)) (picks xs)

-- the orders of n places out of an ascending list, "in lexicographic order"
unfoldable pub arrange : ℕ → List ℕ → List (List ℕ)
unfolding each picks
arrange zero xs = [] ∷ []
arrange (suc n) xs = each (λ (q : ℕ × List ℕ). map (λ (o : List ℕ). q.0 ∷ o) (arrange n q.1)) (picks xs)

-- "The 24 orders of places 0 to 3 stand in lexicographic order, numbered from 0."
unfoldable pub orders : List (List ℕ)
unfolding arrange below
orders = arrange 4 (below 4)

-- the row of a cell of m pins: bit j is the bit of r at the order's place j, "complemented where mask bit j is 1"
unfoldable pub pin_row : ℕ → List ℕ → ℕ → ℕ → ℕ
unfolding bit one flip
pin_row zero order mask r = 0
pin_row (suc m) [] mask r = 0
pin_row (suc m) (place ∷ order) mask r = one (flip (bit mask 0) (bit r place)) + 2 * pin_row m order (mask / 2) r

-- "for each order and row r, the row whose bit j is the bit of r at the order's place j"
unfoldable pub row_map : List ℕ → ℕ → ℕ
unfolding pin_row
row_map order r = pin_row 4 order 0 r
