-- `certificate_block::literal` meets its contract: by the slot, and by whether it has the variable.
use Rattle.base.specs.{ℕ, Some, ◌∙◌, sym, ap, take, eq-eqb, ne_eqb}
use Rattle.certificate_facts.specs.{rows_in}
use Rattle.certificate_block.proofs.SlotLookup.{looked_at, looked_none, looked_past}
use Rattle.certificate_block.proofs.literal.Goals as goal

pub returns-in_err-x : goal.returns-in_err-x
returns-in_err-x c =
    c.from_residual.ensures
    ∙ looked_none (take c.args.count (rows_in c.args.vars.now)) c.args.i c.args.l (sym c.in_err-x.was ∙ c.find.ensures)

pub returns-then-x-l : goal.returns-then-x-l
returns-then-x-l c =
    ap (λ (t : ℕ). Some t) c.phase.ensures.0
    ∙ looked_at (take c.args.count (rows_in c.args.vars.now)) c.args.i c.args.l _ (sym c.in_ok-x.was ∙ c.find.ensures)
    (eq-eqb _ _ c.if-x-l.true)

pub returns-else-x-l : goal.returns-else-x-l
returns-else-x-l c =
    looked_past (take c.args.count (rows_in c.args.vars.now)) c.args.i c.args.l _ (sym c.in_ok-x.was ∙ c.find.ensures)
    (ne_eqb _ _ c.if-x-l.false)
