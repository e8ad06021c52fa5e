-- `check_nets::is_on_cycle` meets its contract.
use Rattle.base.specs.{arith, false≢true}
use Rattle.check_nets.proofs.ComponentNumbers.{below_none}
use Rattle.check_nets.proofs.is_on_cycle.Goals as goal

pub returns-then-flags-i-ne0 : goal.returns-then-flags-i-ne0
returns-then-flags-i-ne0 c = record { cycle = λ e. absurd (false≢true e); none = λ e z. absurd (c.if-flags-i-ne0.true z) }

pub is_increasing-requires : goal.is_increasing-requires
is_increasing-requires c = (c.requires.0, c.requires.1, omega arith)

pub returns-then-is_increasing : goal.returns-then-is_increasing
returns-then-is_increasing c =
    let t = below_none c.args.refs.now c.args.components.now _ c.requires.0 (c.requires.2 c.if-ranked.true) _ c.requires.1 (c.is_increasing.ensures c.if-is_increasing.true) in
    record { cycle = λ e. absurd (false≢true e); none = λ e z. t }

pub returns : goal.returns
returns c = record { cycle = c.feeds_itself.ensures.cycle; none = λ e z. c.feeds_itself.ensures.none e }
