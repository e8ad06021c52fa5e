-- `arraymap::arraymap_cells` meets its contract, thin over `genlib_call::convert`.
use Rattle.arraymap.proofs.AnswerValues.{text-values}
use Rattle.arraymap.proofs.arraymap_cells.Goals as goal

pub returns : goal.returns
returns c = let r = c.convert in record { outcome = r.result; values = text-values r.result _ c.into.ensures; conversion = r.ensures }
