-- `check_names::is_out` meets its contract: an `o`, and behind it the number as it is written.
use Rattle.base.specs.{sym, ◌∙◌, ap, ℕ, eqb}
use Rattle.model.specs.{number}
use Rattle.check_names.proofs.PinLetters.{rest_all}
use Rattle.check_names.proofs.NameLines.{out_empty, out_letter, out_number, out_none}
use Rattle.check_names.proofs.is_out.Goals as goal

pub returns-in-Some : goal.returns-in-Some
returns-in-Some c =
    let a = c.args in
    ap (λ (x : ℕ). eqb x a.k) c.from.ensures ∙ out_number a.w.now a.k c.if-w-eq0.false c.if-w-ne111.false _ (sym (ap number (rest_all 1 a.w.now)) ∙ sym c.number_of.ensures ∙ c.in-Some.is)

pub returns-in-None : goal.returns-in-None
returns-in-None c =
    let a = c.args in
    sym (out_none a.w.now a.k c.if-w-eq0.false c.if-w-ne111.false c.requires (sym (ap number (rest_all 1 a.w.now)) ∙ sym c.number_of.ensures ∙ c.in-None.is))

pub returns-then-w-eq0 : goal.returns-then-w-eq0
returns-then-w-eq0 c = sym (out_empty _ _ c.if-w-eq0.true)

pub returns-then-w-ne111 : goal.returns-then-w-ne111
returns-then-w-ne111 c = sym (out_letter _ _ c.if-w-eq0.false c.if-w-ne111.true)
