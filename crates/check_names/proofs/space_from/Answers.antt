-- `check_names::space_from` meets its contract. The invariant: the field from here on ends where that from the start does.
use Rattle.base.specs.{◌≡◌, refl, sym, ◌∙◌, arith, length, max}
use Rattle.check_names.proofs.WordSplits.{space-here, space-later, space-end}
use Rattle.check_names.proofs.space_from.Goals as goal

pub returns-then-l-at-eq32 : goal.returns-then-l-at-eq32
returns-then-l-at-eq32 c = sym (c.loop-at.invariant.1 ∙ space-here _ _ c.loop-at-test.true c.if-l-at-eq32.true)

pub loop-at-preserved : goal.loop-at-preserved
loop-at-preserved c = (omega arith, c.loop-at.invariant.1 ∙ space-later _ _ c.loop-at-test.true c.if-l-at-eq32.false)

pub loop-at-init : goal.loop-at-init
loop-at-init c = (omega arith, refl)

pub returns : goal.returns
returns c = sym (c.loop-at.invariant.1 ∙ space-end _ _ c.loop-at-test.false ∙ (let z : c.loop-at.at ≡ max c.args.from (length c.args.l.now) = omega arith in z) ∙ sym c.max.ensures)
