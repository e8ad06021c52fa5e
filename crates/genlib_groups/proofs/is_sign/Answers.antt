-- `genlib_groups::is_sign` meets its contract, by the token’s first byte.
use Rattle.base.specs.{sym, ap, ◌∙◌, arith, ℕ, eqb, ne_eqb, le-ltb}
use Rattle.model.specs.{is_sign, lead}
use Rattle.genlib_expression.proofs.{lead-part, lead-none}
use Rattle.genlib_groups.proofs.is_sign.Goals as goal

pub returns-then-t : goal.returns-then-t
unfolding is_sign
returns-then-t c =
    ap (λ (x : ℕ). eqb x c.args.b) (sym (lead-part _ _ (omega (arith, c.nth-t.ensures.within)) _ c.if-t.true) ∙ ap lead c.nth-t.ensures.bytes)

pub returns-else-t : goal.returns-else-t
unfolding is_sign
returns-else-t c =
    le-ltb _ _ c.if-t.false
    ∙ sym (ap (λ (x : ℕ). eqb x c.args.b) (sym (ap lead c.nth-t.ensures.bytes) ∙ lead-none c.args.w.now _ _ c.if-t.false) ∙ ne_eqb 0 c.args.b (λ e. omega (arith, c.requires)))
