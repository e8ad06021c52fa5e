-- `tally_call::load` meets its contract: column by column.
use Rattle.base.specs.{arith, ◌∙◌}
use Rattle.tally_call.proofs.TallyColumns.{tally_short, tally_is}
use Rattle.tally_call.proofs.load.Goals as goal

pub returns-then-s-ne97 : goal.returns-then-s-ne97
returns-then-s-ne97 c = c.no_tally.ensures ∙ tally_short c.args.s.now c.if-s-ne97.true

pub returns : goal.returns
returns c = tally_is c.args.s.now (omega arith) _ _ _ c.column-gates.ensures c.column-areas.ensures c.column-occurs.ensures
