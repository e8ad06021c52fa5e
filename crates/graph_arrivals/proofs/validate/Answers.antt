-- `graph_arrivals::validate` meets its contract: each return knows the tests that led there.
use Rattle.base.specs.{sym, ◌∙◌, arith}
use Rattle.graph_arrivals.specs.{validated_at}
use Rattle.graph_arrivals.proofs.ArrivalLines.{validated-over, validated-again, validated-fresh}
use Rattle.graph_arrivals.proofs.validate.Goals as goal
use Rattle.graph_arrivals.proofs.validate.Goals.{then-i-inputs-via-then-i-inputs, then-i-inputs-via-else-i-inputs+then-seen-i-ne0}

pub returns-then-i-inputs : goal.returns-then-i-inputs
returns-then-i-inputs c =
    let found = sym c.read_line.ensures ∙ c.in-Some.is in
    elim c.then-i-inputs.branch [
      | then-i-inputs-via-then-i-inputs w ↦ validated-over _ _ _ _ _ _ _ found _ c.from-i.ensures w.if-i-inputs.true
      | then-i-inputs-via-else-i-inputs+then-seen-i-ne0 w ↦
          validated-again _ _ _ _ _ _ _ found _ c.from-i.ensures w.if-i-inputs.false w.if-seen-i-ne0.true
    ]

pub returns : goal.returns
returns c =
    rw c.from-i.ensures (validated-fresh _ _ _ _ _ _ _ (sym c.read_line.ensures ∙ c.in-Some.is) _ c.from-i.ensures (omega arith) c.if-seen-i-ne0.false)

pub returns-in_default : goal.returns-in_default
unfolding validated_at
returns-in_default c = rw (sym c.read_line.ensures ∙ c.in_default.is)
