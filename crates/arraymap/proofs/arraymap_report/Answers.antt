-- `arraymap::arraymap_report` meets its contract, thin over `tally_call::report`.
use Rattle.arraymap.proofs.AnswerValues.{text-values}
use Rattle.arraymap.proofs.arraymap_report.Goals as goal

pub returns : goal.returns
returns c = let r = c.report in record { outcome = r.result; values = text-values r.result _ c.into.ensures; report = r.ensures }
