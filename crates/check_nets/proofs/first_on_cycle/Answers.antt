-- `check_nets::first_on_cycle` meets its contract. The invariant: no driver passed is on a cycle.
use Rattle.base.specs.{arith, below_more}
use Rattle.check_nets.proofs.first_on_cycle.Goals as goal

pub number_components-requires : goal.number_components-requires
number_components-requires c = c.requires.few

pub loop-i-init : goal.loop-i-init
loop-i-init c = λ k h. absurd (omega arith)

pub is_on_cycle-requires : goal.is_on_cycle-requires
is_on_cycle-requires c =
    (c.requires, c.loop-i-test.true, c.all_increase-ranked.ensures)

pub returns-then-is_on_cycle : goal.returns-then-is_on_cycle
returns-then-is_on_cycle c =
    record { most = omega arith; before = c.loop-i.invariant; cycle = λ h. c.is_on_cycle.ensures.cycle c.if-is_on_cycle.true }

pub loop-i-preserved : goal.loop-i-preserved
loop-i-preserved c =
    below_more _ _ c.loop-i.invariant (c.is_on_cycle.ensures.none c.if-is_on_cycle.false)

pub returns : goal.returns
returns c =
    record { most = omega arith; before = λ k h. c.loop-i.invariant k (omega arith); cycle = λ h. absurd (omega arith) }
