-- `arraymap::arraymap_count` meets its contract, thin over `tally_call::count`.
use Rattle.arraymap.proofs.AnswerValues.{verdict-values}
use Rattle.arraymap.proofs.arraymap_count.Goals as goal

pub returns : goal.returns
returns c = let r = c.count in record { outcome = r.result; values = verdict-values r.result _ c.into.ensures; count = r.ensures }
