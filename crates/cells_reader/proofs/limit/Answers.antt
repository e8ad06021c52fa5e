-- `cells_reader::limit` meets its contract: the shifts stay below their widths.
use Rattle.cells_reader.proofs.CellValidation.{shift_fits, limit_is}
use Rattle.cells_reader.proofs.limit.Goals as goal

pub overflow_shl-result-2 : goal.overflow_shl-result-2
overflow_shl-result-2 c = shift_fits _ c.requires

pub returns : goal.returns
returns c = limit_is _ c.requires
