-- `base_text::is_letter` meets its contract: each way out of the `match` knows the tests that `is_letter` asks.
use Rattle.base.specs.{arith, le-leb, lt-leb}
use Rattle.model.specs.{is_letter, between}
use Rattle.base_text.proofs.is_letter.Goals as goal

pub returns-in-65-to-90 : goal.returns-in-65-to-90
unfolding is_letter between
returns-in-65-to-90 c = let b = c.args.b in simp (le-leb 65 b (omega arith), le-leb b 90 (omega arith))

pub returns-in-97-to-122 : goal.returns-in-97-to-122
unfolding is_letter between
returns-in-97-to-122 c = let b = c.args.b in simp (le-leb 65 b (omega arith), lt-leb b 90 (omega arith), le-leb 97 b (omega arith), le-leb b 122 (omega arith))

pub returns-in_default : goal.returns-in_default
unfolding is_letter between
returns-in_default c = let b = c.args.b in simp (lt-leb 65 b (omega arith), lt-leb 97 b (omega arith))

pub returns-in_default-2 : goal.returns-in_default-2
unfolding is_letter between
returns-in_default-2 c = let b = c.args.b in simp (le-leb 65 b (omega arith), lt-leb b 90 (omega arith), lt-leb 97 b (omega arith))

pub returns-in_default-3 : goal.returns-in_default-3
unfolding is_letter between
returns-in_default-3 c = let b = c.args.b in simp (le-leb 65 b (omega arith), lt-leb b 90 (omega arith), le-leb 97 b (omega arith), lt-leb b 122 (omega arith))
