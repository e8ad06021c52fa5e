-- 1,036,288 words are enough: 124 * 4096 + 4096 for the graph, and 8 for each byte of the netlist.
use Rattle.base.specs.{ℕ, suc, ◌≤◌, arith, Bool, true, false, cond, List, [], ◌∷◌, eqb, length}
use Rattle.model.specs.{need, line_ends}
use Rattle.theory_text.proofs.{header-fits}
use Rattle.checker.specs.BufferBounds.{Enough}

ends-within : (s : List ℕ) → line_ends s ≤ length s
unfolding line_ends
ends-within [] = omega arith
ends-within (b ∷ bs) = go (eqb b 10) (ends-within bs)
  where
    go : (is : Bool) → line_ends bs ≤ length bs → cond is (suc (line_ends bs)) (line_ends bs) ≤ suc (length bs)
    go true h = omega arith
    go false h = omega arith

pub buffer_enough : Enough 1036288
unfolding need
buffer_enough graph netlist h e short =
    let fits = header-fits graph h e in
    omega (arith, fits.size, fits.outputs, ends-within netlist)
