-- `graph_reader::validate` meets its contract: each return knows the tests that led there.
use Rattle.base.specs.{sym, ◌∙◌, rules}
use Rattle.base_text.proofs.{and-false}
use Rattle.graph_loading.proofs.{fit-defined}
use Rattle.graph_reader.specs.{validated_at}
use Rattle.graph_reader.proofs.validate.Goals as goal
use Rattle.graph_reader.proofs.validate.Goals.{then-not-fits-via-then-not-fits, then-not-fits-via-else-not-fits+then-not-may_define}

pub returns-then-not-fits : goal.returns-then-not-fits
unfolding validated_at
returns-then-not-fits c =
    let found = sym c.read_line.ensures ∙ c.in-Some.is in
    elim c.then-not-fits.branch [
      | then-not-fits-via-then-not-fits w ↦ rw (found, sym c.fits.ensures ∙ w.if-not-fits.true)
      | then-not-fits-via-else-not-fits+then-not-may_define w ↦ rw (found, sym w.may_define.ensures ∙ w.if-not-may_define.true, and-false)
    ]

pub is_already_defined-requires : goal.is_already_defined-requires
is_already_defined-requires c = (search rules, (fit-defined _ _ (sym c.fits.ensures ∙ c.if-not-fits.false)).first)

pub returns-then-is_already_defined : goal.returns-then-is_already_defined
unfolding validated_at
returns-then-is_already_defined c =
    rw (sym c.read_line.ensures ∙ c.in-Some.is, sym c.fits.ensures ∙ c.if-not-fits.false, sym c.may_define.ensures ∙ c.if-not-may_define.false, sym c.is_already_defined.ensures ∙ c.if-is_already_defined.true)

pub returns : goal.returns
unfolding validated_at
returns c =
    rw (sym c.read_line.ensures ∙ c.in-Some.is, sym c.fits.ensures ∙ c.if-not-fits.false, sym c.may_define.ensures ∙ c.if-not-may_define.false, sym c.is_already_defined.ensures ∙ c.if-is_already_defined.false)

pub returns-in_default : goal.returns-in_default
unfolding validated_at
returns-in_default c = rw (sym c.read_line.ensures ∙ c.in_default.is)
