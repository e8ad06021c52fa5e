-- `check_order::is_ready` meets its contract. The invariant: the pins passed are fed.
use Rattle.base.specs.{arith, refl, sym, ◌∙◌, true≢false, false≢true, below_more}
use Rattle.check_order.proofs.SortSteps.{ready-stops, ready_goes, ready-ends}
use Rattle.check_order.proofs.is_ready.Goals as goal

pub loop-j-init : goal.loop-j-init
loop-j-init c = (λ t h. absurd (omega arith), refl)

pub is_fed-requires : goal.is_fed-requires
is_fed-requires c = (c.requires.0, c.requires.1, c.loop-j-test.true)

pub returns-then-not-is_fed : goal.returns-then-not-is_fed
returns-then-not-is_fed c =
    let a = c.args in
    let f = c.is_fed in
    record { is = sym (c.loop-j.invariant.1 ∙ ready-stops a.refs.now a.flags.now a.i c.loop-j.j c.loop-j-test.true (sym f.ensures.is ∙ c.if-not-is_fed.true)); ready = λ e. absurd (false≢true e); stuck = λ e. c.is_fed.ensures.waits c.if-not-is_fed.true }

pub loop-j-preserved : goal.loop-j-preserved
loop-j-preserved c =
    let a = c.args in
    let f = c.is_fed in (
      below_more _ _ c.loop-j.invariant.0 (f.ensures.fed c.if-not-is_fed.false),
      c.loop-j.invariant.1 ∙ ready_goes a.refs.now a.flags.now a.i c.loop-j.j c.loop-j-test.true (sym f.ensures.is ∙ c.if-not-is_fed.false),
    )

pub returns : goal.returns
returns c =
    let a = c.args in
    record { is = sym (c.loop-j.invariant.1 ∙ ready-ends a.refs.now a.flags.now a.i c.loop-j.j c.loop-j-test.false); ready = λ e t k f. c.loop-j.invariant.0 t (omega (arith, f.0, c.loop-j-test.false)) k f; stuck = λ e. absurd (true≢false e) }
