-- `graph_reader::check_at` meets its contract: each return knows the tests that led there.
use Rattle.base.specs.{sym, ◌∙◌, rules}
use Rattle.graph_loading.proofs.{fit-defined}
use Rattle.graph_reader.specs.{check_at}
use Rattle.graph_reader.proofs.check_at.Goals as goal
use Rattle.graph_reader.proofs.check_at.Goals.{then-not-fits-via-then-not-fits, then-not-fits-via-else-not-fits+then-not-uses_defined}

pub uses_defined-requires : goal.uses_defined-requires
uses_defined-requires c = (search rules, fit-defined _ _ (sym c.fits.ensures ∙ c.if-not-fits.false))

pub returns : goal.returns
unfolding check_at
returns c =
    rw (sym c.expected_kind-kind.ensures, sym c.read_line.ensures ∙ c.in-Some.is, sym c.fits.ensures ∙ c.if-not-fits.false, sym c.uses_defined.ensures ∙ c.if-not-uses_defined.false)

pub returns-then-not-fits : goal.returns-then-not-fits
unfolding check_at
returns-then-not-fits c =
    let kind = sym c.expected_kind-kind.ensures in
    let found = sym c.read_line.ensures ∙ c.in-Some.is in
    elim c.then-not-fits.branch [
      | then-not-fits-via-else-not-fits+then-not-uses_defined w ↦ rw (kind, found, sym c.fits.ensures ∙ w.if-not-fits.false, sym w.uses_defined.ensures ∙ w.if-not-uses_defined.true)
      | then-not-fits-via-then-not-fits w ↦ rw (kind, found, sym c.fits.ensures ∙ w.if-not-fits.true)
    ]

pub returns-in_default : goal.returns-in_default
unfolding check_at
returns-in_default c = rw (sym c.expected_kind-kind.ensures, sym c.read_line.ensures ∙ c.in_default.is)
