-- What a count answers and hands on is what `TallyCounted` says.
use Rattle.base.specs.{ap}
use Rattle.model.specs.{Read, verdict_of, tally_after}
use Rattle.model.specs.declared.Tally.{Tally}
use Rattle.promises.specs.{TallyCounted}

pub tally_counted : (t : Tally) (o : Read Tally) → TallyCounted t o (verdict_of o) (tally_after t o)
unfolding verdict_of tally_after
tally_counted t o = record {
  success = λ u e. (ap verdict_of e, ap (tally_after t) e);
  refusal = λ n k e. (ap verdict_of e, ap (tally_after t) e);
}
