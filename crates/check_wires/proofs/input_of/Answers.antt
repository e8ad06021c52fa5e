-- `check_wires::input_of` meets its contract. The invariant: none of the inputs passed has the number.
use Rattle.base.specs.{arith, below_more}
use Rattle.check_wires.proofs.input_of.Goals as goal

pub loop-k-init : goal.loop-k-init
loop-k-init c = λ m h e. omega arith

pub returns-then-inputs-k : goal.returns-then-inputs-k
returns-then-inputs-k c =
    (c.loop-k-test.true, c.if-inputs-k.true, c.loop-k.invariant)

pub loop-k-preserved : goal.loop-k-preserved
loop-k-preserved c = below_more _ _ c.loop-k.invariant c.if-inputs-k.false

pub returns : goal.returns
returns c =
    λ m h. c.loop-k.invariant m (omega arith)
