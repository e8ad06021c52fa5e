-- `genlib_expression::index` meets its contract. The invariant: the name is not among the pins passed.
use Rattle.base.specs.{◌≡◌, map, ◌+◌, ◌-◌}
use Rattle.model.specs.{from, index_of}
use Rattle.genlib_expression.specs.{name_at, names_at}
use Rattle.genlib_expression.proofs.index.Given as goal

abbrev pub invariant-loop-i : goal.invariant-loop-i
invariant-loop-i l = (index_of l.t (names_at l.w l.p) ≡ l.i + index_of l.t (map (name_at l.w l.p) (from l.i (l.p.n - l.i))))
