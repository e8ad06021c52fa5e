-- `graph_reader::read_lines` meets its contract. The invariant: what the lines from here on give is what all lines give.
use Rattle.base.specs.{rules, sym, ◌∙◌}
use Rattle.model.proofs.{handed_on}
use Rattle.graph_reader.proofs.LineValidation.{rest-on, rest_stop, rest_end}
use Rattle.graph_reader.proofs.read_lines.Goals as goal

pub returns-in_err-at : goal.returns-in_err-at
returns-in_err-at c =
    let l = rest_stop _ _ _ _ _ _ c.loop-k.invariant c.loop-k-test.true _ _ (sym c.step_at.ensures.answer ∙ c.in_err-at.was) c.step_at.ensures.left in
    record { answer = handed_on _ _ c.from_residual.ensures.1 ∙ l.0; left = l.1 }

pub loop-k-preserved : goal.loop-k-preserved
loop-k-preserved c =
    rest-on _ _ _ _ _ _ c.loop-k.invariant c.loop-k-test.true _ _ (sym c.step_at.ensures.answer ∙ c.in_ok-at.was) c.step_at.ensures.left (search rules)

pub returns : goal.returns
returns c =
    let l = rest_end _ _ _ _ _ _ c.loop-k.invariant c.loop-k-test.false in
    record { answer = l.0; left = l.1 }
