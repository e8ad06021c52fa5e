-- `arraymap::arraymap_check` meets its contract, thin over `check_call::check_texts`.
use Rattle.arraymap.proofs.AnswerValues.{checked_values}
use Rattle.arraymap.proofs.arraymap_check.Goals as goal

pub returns : goal.returns
returns c = let r = c.check_texts in record { outcome = r.result; values = checked_values r.result _ c.into.ensures; check = r.ensures }
