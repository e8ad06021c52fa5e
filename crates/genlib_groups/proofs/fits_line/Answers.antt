-- `genlib_groups::fits_line` meets its contract, by the line’s second token.
use Rattle.base.specs.{sym, ap, ◌∙◌}
use Rattle.model.specs.{same}
use Rattle.model.specs.Genlib.{fits}
use Rattle.genlib_groups.proofs.fits_line.Goals as goal

pub returns-then-is_sign : goal.returns-then-is_sign
unfolding fits
returns-then-is_sign c = c.if-is_sign.true ∙ sym (rw (sym c.is_sign.ensures ∙ c.if-is_sign.true))

pub returns-else-is_sign : goal.returns-else-is_sign
unfolding fits
returns-else-is_sign c =
    sym (rw (sym c.is_sign.ensures ∙ c.if-is_sign.false) (ap (same c.args.name.now) (sym c.nth_bytes.ensures) ∙ sym c.same_bytes.ensures))
