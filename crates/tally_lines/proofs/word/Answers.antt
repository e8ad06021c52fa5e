-- `tally_lines::word` meets its contract, by that of `field`.
use Rattle.tally_lines.specs.{kind_test}
use Rattle.tally_lines.proofs.word.Goals as goal

pub returns : goal.returns
unfolding kind_test
returns c = c.field.ensures
