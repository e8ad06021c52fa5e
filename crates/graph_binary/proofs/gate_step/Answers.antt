-- `graph_binary::gate_step` meets its contract: each return knows what the AND was found to be.
use Rattle.base.specs.{sym, ◌∙◌, rules}
use Rattle.model.proofs.{handed_on}
use Rattle.graph_binary.proofs.BinaryPasses.{step-gate, step-refused, gate-fit}
use Rattle.graph_binary.proofs.gate_step.Goals as goal

pub store_line-requires : goal.store_line-requires
store_line-requires c =
    (search rules, search rules, gate-fit c.args.s.now c.args.h c.args.k c.args.at c.args.work.now c.args.work.now c.requires.0 c.requires.1 c.requires.2 _ (sym c.read_gate.ensures ∙ c.in_ok-l.was))

pub returns : goal.returns
returns c =
    let t = step-gate c.args.s.now c.args.h c.args.k c.args.at c.args.work.now _ (sym c.read_gate.ensures ∙ c.in_ok-l.was) in
    record { answer = sym t.0; left = c.store_line.ensures ∙ sym t.1 }

pub returns-in_err-l : goal.returns-in_err-l
returns-in_err-l c =
    let t = step-refused c.args.s.now c.args.h c.args.k c.args.at c.args.work.now _ (sym c.read_gate.ensures ∙ c.in_err-l.was) in
    record { answer = handed_on _ _ c.from_residual.ensures.1 ∙ sym t.0; left = sym t.1 }
