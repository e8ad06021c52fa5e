-- What covers are made of, by cases in which a definition that is wrong in a corner gives another answer: inverters by their fields, orders by their numbers, a
-- leaf that is reached by a complemented literal, cuts of one size, the latest of many outputs, text memory after each refusal. By computing.
use Rattle.base.specs.{ℕ, [], ◌∷◌, T}
use Rattle.model.specs.{all, same, below, text, refused, text_after}
use Rattle.cases.proofs.{library, prints, gives, lists, computes, takes, holds}
use Rattle.cases_map.proofs.MapCases.{cells}

-- "a one-pin cell with table 0001", whatever its name and area: of eight letters, and of area 0
pub inverters_hold : T (all holds (
    prints (cells "inverter 1 0001 0 10 0 0 0\n") "aag 1 1 0 1 0\n2\n3\n"
    (text ".model top\n.inputs p1\n.outputs o0\n.gate inverter A=p1 O=m1\n.names m1 o0\n1 1\n.end\n# gates 1 area 0 arrival 10\n") 1 0 10
    ∷ []
    ))
unfolding all holds cells text
inverters_hold = tt

-- "The 24 orders of places 0 to 3 stand in lexicographic order, numbered from 0": 2 and 3 are 0213 and 0231, 22 and 23 are 3201 and 3210
pub orders_hold : T (all holds (takes 2 2 4 ∷ takes 3 2 8 ∷ takes 22 1 4 ∷ takes 23 1 8 ∷ []))
unfolding all holds
orders_hold = tt

-- F with complemented literals: 4 = ¬1 AND 2, 5 = ¬4 AND 3, 6 = 4 AND ¬5. "a leaf gives its bit and the walk stops there", reached by either literal
pub complemented_hold : T (all holds (computes "aag 6 3 0 0 3\n2\n4\n6\n8 3 4\n10 9 6\n12 8 11\n" (1 ∷ 2 ∷ 3 ∷ 4 ∷ []) 6 0xff00 ∷ []))
unfolding all holds
complemented_hold = tt

-- "by size, then by ascending leaves compared left to right": {1,5} before {2,3}
pub sizes_hold : T (all holds (
    lists "aag 5 2 0 0 3\n2\n10\n4 2 10\n6 2 11\n8 4 6\n" 4 ((4 ∷ []) ∷ (1 ∷ 5 ∷ []) ∷ (2 ∷ 3 ∷ []) ∷ (1 ∷ 2 ∷ 5 ∷ []) ∷ (1 ∷ 3 ∷ 5 ∷ []) ∷ [])
    ∷ []
    ))
unfolding all holds
sizes_hold = tt

-- "arrival of the latest output": of seven, the last
pub latest_hold : T (all holds (gives library "aag 3 2 0 7 1\n2\n4\n2\n2\n2\n2\n2\n2\n6\n6 2 4\n" 2 30 ∷ []))
unfolding all holds library
latest_hold = tt

-- "a refusal .. with text memory unchanged": of every number
pub every-text-left : T (all (λ (n : ℕ). same (text_after (refused n 3) (7 ∷ 8 ∷ 9 ∷ [])) (7 ∷ 8 ∷ 9 ∷ [])) (below 40))
unfolding all same below text_after
every-text-left = tt
