-- `check_outputs::literal_word` meets its contract, by the phase.
use Rattle.base.specs.{◌%◌, eq-eqb, ne_eqb, arith}
use Rattle.check_outputs.proofs.GateWords.{negative, positive}
use Rattle.check_outputs.proofs.literal_word.Goals as goal

pub returns-then-l-eq1 : goal.returns-then-l-eq1
returns-then-l-eq1 c = negative c.args.l c.args.x (omega arith) (eq-eqb (c.args.l % 2) 1 c.if-l-eq1.true)

pub returns-else-l-eq1 : goal.returns-else-l-eq1
returns-else-l-eq1 c = positive c.args.l c.args.x (omega arith) (ne_eqb (c.args.l % 2) 1 c.if-l-eq1.false)
