-- `genlib_groups::all_have_lines` meets its contract. The invariant: all tokens have their lines where the pins that are left do.
use Rattle.base.specs.{◌≡◌, map, ◌-◌, ◌≤◌, length}
use Rattle.model.specs.{all, from}
use Rattle.genlib_expression.specs.{rest_at, name_at}
use Rattle.genlib_groups.specs.{pin_has, lines_behind}
use Rattle.genlib_groups.proofs.all_have_lines.Given as goal

abbrev pub invariant-loop-i : goal.invariant-loop-i
invariant-loop-i l = (l.p.n ≤ 4) × (length l.p.at ≡ 4) × (l.from ≤ length l.s)
    × (all (pin_has (lines_behind l.s l.from)) (rest_at l.w l.start) ≡ all (pin_has (lines_behind l.s l.from)) (map (name_at l.w l.p) (from l.i (l.p.n - l.i))))
