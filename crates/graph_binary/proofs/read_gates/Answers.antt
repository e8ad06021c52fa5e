-- `graph_binary::read_gates` meets its contract. The invariant: what the ANDs from here on give is what all give.
use Rattle.base.specs.{sym, ap, ◌∙◌, rules}
use Rattle.model.proofs.{handed_on}
use Rattle.graph_binary.specs.{as_verdict}
use Rattle.graph_binary.proofs.BinaryPasses.{rest-on, rest_stop, rest_end}
use Rattle.graph_binary.proofs.read_gates.Goals as goal

pub returns-in_err-at : goal.returns-in_err-at
returns-in_err-at c =
    let r = rest_stop _ _ _ _ _ _ _ _ _ c.loop-k.invariant c.loop-k-test.true _ _ (sym c.gate_step.ensures.answer ∙ c.in_err-at.was) c.gate_step.ensures.left in
    record { answer = handed_on _ _ c.from_residual.ensures.1 ∙ ap as_verdict r.0; left = r.1 }

pub loop-k-preserved : goal.loop-k-preserved
loop-k-preserved c =
    rest-on _ _ _ _ _ _ _ _ _ c.loop-k.invariant c.loop-k-test.true _ _ (sym c.gate_step.ensures.answer ∙ c.in_ok-at.was) c.gate_step.ensures.left (search rules)

pub returns : goal.returns
returns c =
    let r = rest_end _ _ _ _ _ _ _ _ _ c.loop-k.invariant c.loop-k-test.false in
    record { answer = ap as_verdict r.0; left = r.1 }
