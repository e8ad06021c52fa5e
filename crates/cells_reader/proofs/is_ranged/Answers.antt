-- `cells_reader::is_ranged` meets its contract: the contents of the first line.
use Rattle.base.specs.{sym, ◌∙◌, length-take-le}
use Rattle.model.specs.{text}
use Rattle.base_text.proofs.{first_fits}
use Rattle.cells_reader.specs.{longer_line}
use Rattle.cells_reader.proofs.NamesLine.{names-ranged}
use Rattle.cells_reader.proofs.is_ranged.Goals as goal

pub slice_bounds-same_bytes-end : goal.slice_bounds-same_bytes-end
slice_bounds-same_bytes-end c = sym (length-take-le c.line-first.result.stop c.args.s.now (first_fits _ _ c.line-first.ensures))

pub returns : goal.returns
unfolding longer_line text
returns c = c.same_bytes.ensures ∙ names-ranged _ _ c.line-first.ensures
