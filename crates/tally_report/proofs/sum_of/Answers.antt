-- `tally_report::sum_of` meets its contract. The invariant: the places before this one are summed.
use Rattle.base.specs.{rules, arith, ◌≡◌, sym, ap, ◌∙◌, refl, ℕ, ◌+◌, ◌^◌, ◌≤◌, length, take, get_or}
use Rattle.model.specs.{sum}
use Rattle.tally_report.proofs.ReportLines.{sum_step}
use Rattle.tally_report.proofs.sum_of.Goals as goal

pub loop-i-preserved : goal.loop-i-preserved
loop-i-preserved c =
    let p = c.loop-i in let xs = c.args.xs in let long : length xs ≡ 32 = search rules in
    let low : get_or xs p.i 0 ≤ 2 ^ 40 = c.requires.1 p.i in
    (ap (λ (x : ℕ). x + get_or xs p.i 0) p.invariant.0 ∙ sym (sum_step xs p.i (omega arith)), omega arith)

pub returns : goal.returns
returns c =
    let p = c.loop-i in let e : p.i ≡ c.args.n = omega arith in
    p.invariant.0 ∙ ap (λ (k : ℕ). sum (take k c.args.xs)) e

pub loop-i-init : goal.loop-i-init
unfolding sum
loop-i-init c = (refl, omega arith)

pub overflow_add-total : goal.overflow_add-total
unfolding sum
overflow_add-total c = omega (arith, c.requires.1 c.loop-i.i)
