-- The cut lists, and the function of a cut.
use Rattle.std.specs.Prelude.{◌+◌, ◌*◌, ◌∷◌}
use Rattle.base.specs.{ℕ, zero, suc, compare, Ordering, Ordering-lt, Ordering-eq, Ordering-gt, Bool, false, cond, Option, None}
use Rattle.base.specs.{Some, List, [], map, eqb, leb, ltb, length, get_or}
use Rattle.model.specs.Base.{bit, one, union, keep, each, find, run, or_else}
use Rattle.model.specs.Limits.{cut_limit}
use Rattle.model.specs.Graph.{Graph, Node, constant, input, undefined, both, node, topological_order, span, var_of, node_value}

-- one comparison, and the other where the first finds no difference
unfoldable pub after : Ordering → Ordering → Ordering
after Ordering-lt o = Ordering-lt
after Ordering-eq o = o
after Ordering-gt o = Ordering-gt

-- "by ascending leaves compared left to right"
unfoldable pub compare_leaves : List ℕ → List ℕ → Ordering
unfolding after
compare_leaves [] [] = Ordering-eq
compare_leaves [] (y ∷ ys) = Ordering-lt
compare_leaves (x ∷ xs) [] = Ordering-gt
compare_leaves (x ∷ xs) (y ∷ ys) = let r = compare_leaves xs ys in after (compare x y) r

-- "Cuts are listed by size, then by ascending leaves"
unfoldable pub compare_cuts : List ℕ → List ℕ → Ordering
unfolding after compare_leaves
compare_cuts c d = after (compare (length c) (length d)) (compare_leaves c d)

-- "every union of a cut of one operand's variable with a cut of the other's that has at most four members"
unfoldable pub unions : List (List ℕ) → List (List ℕ) → List (List ℕ)
unfolding keep each union
unions cs ds = keep (λ (c : List ℕ). leb (length c) 4) (each (λ (c : List ℕ). map (union compare c) ds) cs)

-- "of variable 0 is {∅}; of input i, {{i}}; of AND n, {{n}} and every union"; "Equal sets count once."
unfoldable pub node_cuts : (ℕ → List (List ℕ)) → ℕ → Node → List (List ℕ)
unfolding compare_cuts unions union var_of
node_cuts cuts v constant = [] ∷ []
node_cuts cuts v input = (v ∷ []) ∷ []
node_cuts cuts v undefined = []
node_cuts cuts v (both l r) = union compare_cuts ((v ∷ []) ∷ unions (cuts (var_of l)) (cuts (var_of r))) []

-- the cut lists of all variables, in topological order
unfoldable pub cut_lists_of : Graph → List (ℕ × List (List ℕ))
unfolding run find topological_order node node_cuts
cut_lists_of g = run (λ known v. node_cuts (λ u. find [] u known) v (node g v)) (topological_order g) []

-- the cut list of a variable
unfoldable pub cuts_of : Graph → ℕ → List (List ℕ)
unfolding cut_lists_of find
cuts_of g v = find [] v (cut_lists_of g)

-- the cut of a number in a variable's list
unfoldable pub cut_at : (ℕ → List (List ℕ)) → ℕ → ℕ → List ℕ
cut_at cuts v k = get_or (cuts v) k []

-- "An AND, used or not, has more than 18 cuts": those that have, in topological order
unfoldable pub over_limit : Graph → List ℕ
unfolding keep find cut_lists_of topological_order
over_limit g = let cuts = cut_lists_of g in keep (λ (v : ℕ). ltb cut_limit (length (find [] v cuts))) (topological_order g)

-- "leaf number i (ascending, from 0) is bit i of the row"
unfoldable pub leaf_bit : List ℕ → ℕ → ℕ → ℕ → Option Bool
unfolding bit
leaf_bit [] i r v = None
leaf_bit (x ∷ xs) i r v = let rest = leaf_bit xs (suc i) r v in cond (eqb v x) (Some (bit r i)) rest

-- "from the root down, a leaf gives its bit and the walk stops there; variable 0 gives 0; an AND gives the AND of its literals"
unfoldable pub walk : ℕ → Graph → List ℕ → ℕ → ℕ → Bool
unfolding or_else leaf_bit node node_value
walk zero g leaves r v = false
walk (suc fuel) g leaves r v =
    let below = node_value (λ u. false) (walk fuel g leaves r) v (node g v) in
    or_else (leaf_bit leaves 0 r v) below

-- the table whose bit r is f r, for the rows below n
unfoldable pub tabulate : (ℕ → Bool) → ℕ → ℕ
unfolding one
tabulate f zero = 0
tabulate f (suc n) = one (f 0) + 2 * tabulate (λ r. f (suc r)) n

-- "A cut's function": "It has 16 rows"
unfoldable pub cut_table : Graph → List ℕ → ℕ → ℕ
unfolding walk tabulate span
cut_table g leaves v = tabulate (λ r. walk (span g) g leaves r v) 16
