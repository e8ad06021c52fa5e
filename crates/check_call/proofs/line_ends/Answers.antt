-- `check_call::line_ends` meets its contract. The invariant: the number is that of the bytes passed, from the last on.
use Rattle.base.specs.{◌≡◌, ◌∙◌, ap, ℕ, arith, drop}
use Rattle.model.specs.{line_ends}
use Rattle.check_call.proofs.LineEndChecks.{ends-none, ends-one, ends_other}
use Rattle.check_call.proofs.line_ends.Goals as goal

pub loop-i-init : goal.loop-i-init
loop-i-init c = (omega arith, ends-none c.args.s.now)

pub loop-i-preserved-then-s-i-eq10 : goal.loop-i-preserved-then-s-i-eq10
loop-i-preserved-then-s-i-eq10 c =
    (omega arith, ends-one c.args.s.now c.loop-i.i c.loop-i.n (omega arith) c.loop-i.invariant.1 (omega arith) c.if-s-i-eq10.true)

pub loop-i-preserved : goal.loop-i-preserved
loop-i-preserved c =
    (omega arith, ends_other c.args.s.now c.loop-i.i c.loop-i.n (omega arith) c.loop-i.invariant.1 (omega arith) c.if-s-i-eq10.false)

pub returns : goal.returns
returns c =
    (c.loop-i.invariant.1 ∙ ap (λ (i : ℕ). line_ends (drop i c.args.s.now)) (let z : c.loop-i.i ≡ 0 = omega arith in z), omega arith)
