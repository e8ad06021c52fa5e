-- `check_outputs::first_wrong` meets its contract. The invariant: what is sought from here on is what is sought.
use Rattle.base.specs.{◌≡◌, sym, ap, ◌∙◌, ℕ, ◌+◌, ◌-◌, arith, get_or}
use Rattle.model.specs.{bit}
use Rattle.graph_order.specs.{seek}
use Rattle.graph_order.proofs.{seek-here, seek-past, seek-end}
use Rattle.check_outputs.specs.{found_by}
use Rattle.check_outputs.proofs.ComparisonVerdict.{found_there, found_nothing}
use Rattle.check_outputs.proofs.first_wrong.Goals as goal

pub loop-j-init : goal.loop-j-init
loop-j-init c = ap (λ (n : ℕ). seek (λ j. bit (get_or c.args.wrong.now j 0) c.args.t) n 0) (let e : c.args.outputs ≡ c.args.outputs - 0 = omega arith in e)

pub returns-then-is_set : goal.returns-then-is_set
returns-then-is_set c =
    let a = c.args in
    found_there c.loop-j.j a.outputs (omega arith)
    ∙ ap (λ (k : ℕ). found_by k a.outputs) (sym (c.loop-j.invariant
    ∙ seek-here (λ j. bit (get_or a.wrong.now j 0) a.t) _ (a.outputs - (c.loop-j.j + 1)) _ (omega arith) (sym c.is_set.ensures ∙ c.if-is_set.true)))

pub loop-j-preserved : goal.loop-j-preserved
loop-j-preserved c =
    let a = c.args in
    c.loop-j.invariant
    ∙ seek-past (λ j. bit (get_or a.wrong.now j 0) a.t) _ (a.outputs - (c.loop-j.j + 1)) _ (omega arith) (sym c.is_set.ensures ∙ c.if-is_set.false)

pub returns : goal.returns
returns c =
    let a = c.args in
    found_nothing c.loop-j.j a.outputs (omega arith)
    ∙ ap (λ (k : ℕ). found_by k a.outputs) (sym (c.loop-j.invariant ∙ seek-end (λ j. bit (get_or a.wrong.now j 0) a.t) _ _ (omega arith)))
