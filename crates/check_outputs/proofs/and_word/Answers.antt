-- `check_outputs::and_word` meets its contract, by those of the two literals.
use Rattle.base.specs.{◌∙◌, bit_and}
use Rattle.check_outputs.proofs.GateWords.{and-literals}
use Rattle.check_outputs.proofs.and_word.Goals as goal

pub returns : goal.returns
returns c = (λ i. bit_and (c.literal_word.ensures i) (c.literal_word-2.ensures i)) ∙ and-literals c.args.l c.args.x c.args.r c.args.y
