-- `base_truth::rows` meets its contract. That the table of `src/lib.rt` holds the rows of the orders antt computes.
use Rattle.base.specs.{◌≡◌, refl, List, [], ◌∷◌, map, ℕ, zero, suc, ◌<◌, arith, length, get_or}
use Rattle.model.specs.{below, row_map, orders}
use Rattle.base_truth.specs.{places_of}
use Rattle.base_truth.proofs.rows.Goals as goal

-- "for each order and row r, the row whose bit j is the bit of r at the order's place j"
entries : List (List ℕ)
unfolding row_map below orders
entries = map (λ (places : List ℕ). map (row_map places) (below 16)) orders

get-map : (f : List ℕ → List ℕ) (xs : List (List ℕ)) (i : ℕ) → i < length xs → get_or (map f xs) i [] ≡ f (get_or xs i [])
get-map f [] i h = absurd (omega arith)
get-map f (x ∷ xs) zero h = refl
get-map f (x ∷ xs) (suc i) h = get-map f xs i (omega arith)

entry : (order : ℕ) → order < 24 → get_or entries order [] ≡ map (row_map (places_of order)) (below 16)
unfolding entries orders
entry order h = get-map (λ (places : List ℕ). map (row_map places) (below 16)) orders order h

pub returns : goal.returns
unfolding entries
returns c = entry c.args.order c.requires
