-- `graph_reader::step_at` meets its contract: each return knows what the line was found to be.
use Rattle.base.specs.{sym, ap, ◌∙◌, rules}
use Rattle.graph_loading.proofs.{fit-defined}
use Rattle.model.proofs.{handed_on}
use Rattle.graph_reader.specs.{validated_at}
use Rattle.graph_reader.proofs.LineValidation.{validated-good, step-none, step-good, step_bad}
use Rattle.graph_reader.proofs.step_at.Goals as goal

pub returns-then-at-s : goal.returns-then-at-s
returns-then-at-s c =
    let t = step-none c.args.s.now c.args.at c.args.work.now c.args.h c.args.k c.if-at-s.true in record { answer = sym t.0; left = sym t.1 }

pub store_line-requires : goal.store_line-requires
store_line-requires c = (search rules, search rules, fit-defined _ _ (validated-good _ _ _ _ _ _ (sym c.validate.ensures ∙ c.in_ok-l.was)).1)

pub returns : goal.returns
returns c =
    let e = ap (validated_at c.args.s.now c.args.at c.args.work.now c.args.h.size) (sym c.expected_kind.ensures) ∙ sym c.validate.ensures ∙ c.in_ok-l.was in
    let t = step-good c.args.s.now c.args.at c.args.work.now c.args.h c.args.k _ c.if-at-s.false e in
    record { answer = sym t.0; left = c.store_line.ensures ∙ sym t.1 }

pub returns-in_err-l : goal.returns-in_err-l
returns-in_err-l c =
    let e = ap (validated_at c.args.s.now c.args.at c.args.work.now c.args.h.size) (sym c.expected_kind.ensures) ∙ sym c.validate.ensures ∙ c.in_err-l.was in
    let t = step_bad c.args.s.now c.args.at c.args.work.now c.args.h c.args.k _ c.if-at-s.false e in
    record { answer = handed_on _ _ c.from_residual.ensures.1 ∙ sym t.0; left = sym t.1 }
