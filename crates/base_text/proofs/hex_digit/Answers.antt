-- `base_text::hex_digit` meets its contract: each way out of the `match` knows the tests that `hex_digit` picks by.
use Rattle.base.specs.{arith, le-leb, lt-leb, ◌+◌, ◌-◌, ◌≡◌}
use Rattle.model.specs.{hex_digit, between}
use Rattle.base_text.proofs.hex_digit.Goals as goal

pub returns-in-48-to-57 : goal.returns-in-48-to-57
unfolding hex_digit between
returns-in-48-to-57 c = let b = c.args.b in simp (c.from.ensures, le-leb 48 b (omega arith), le-leb b 57 (omega arith))

pub returns-in-97-to-102 : goal.returns-in-97-to-102
unfolding hex_digit between
returns-in-97-to-102 c =
    let b = c.args.b in
    let e : b - 97 + 10 ≡ b - 87 = omega arith in
    simp (c.from-in-97-to-102.ensures, le-leb 48 b (omega arith), lt-leb b 57 (omega arith), le-leb 97 b (omega arith), le-leb b 102 (omega arith), e)

pub returns-in_default : goal.returns-in_default
unfolding hex_digit between
returns-in_default c = let b = c.args.b in simp (lt-leb 48 b (omega arith), lt-leb 97 b (omega arith))

pub returns-in_default-2 : goal.returns-in_default-2
unfolding hex_digit between
returns-in_default-2 c = let b = c.args.b in simp (le-leb 48 b (omega arith), lt-leb b 57 (omega arith), lt-leb 97 b (omega arith))

pub returns-in_default-3 : goal.returns-in_default-3
unfolding hex_digit between
returns-in_default-3 c = let b = c.args.b in simp (le-leb 48 b (omega arith), lt-leb b 57 (omega arith), le-leb 97 b (omega arith), lt-leb b 102 (omega arith))
