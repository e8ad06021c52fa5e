-- `genlib_groups::all_have_lines` meets its contract. The invariant: all tokens have their lines where the pins that are left do.
use Rattle.base.specs.{◌≡◌, sym, ap, ◌∙◌, arith, ◌-◌}
use Rattle.model.specs.{all, below}
use Rattle.genlib_expression.specs.{names_at}
use Rattle.genlib_groups.specs.{pin_has, lines_behind}
use Rattle.genlib_groups.proofs.GroupReading.{pins-all, pins-step, pins-end, has-free}
use Rattle.genlib_groups.proofs.all_have_lines.Goals as goal

pub loop-i-init : goal.loop-i-init
unfolding names_at below
loop-i-init c =
    let f = c.find_pins-p in
    let has = pin_has (lines_behind c.args.s.now c.args.from) in
    let n = f.result.n in
    let z : n - 0 ≡ n = omega arith in
    (c.if-p-gt4.false, f.ensures.0, c.requires.0, rw z (pins-all has (has-free _) _ ∙ ap (all has) (sym (f.ensures.1.few c.if-p-gt4.false))))

pub returns-then-not-has_line : goal.returns-then-not-has_line
returns-then-not-has_line c =
    sym (c.loop-i.invariant.3 ∙ pins-step _ _ _ _ c.loop-i-test.true ∙ rw (ap (pin_has _) (sym c.word_at.ensures) ∙ sym c.has_line.ensures ∙ c.if-not-has_line.true))

pub loop-i-preserved : goal.loop-i-preserved
loop-i-preserved c =
    let l = c.loop-i.invariant in
    (l.0, l.1, l.2, l.3 ∙ pins-step _ _ _ _ c.loop-i-test.true ∙ rw (ap (pin_has _) (sym c.word_at.ensures) ∙ sym c.has_line.ensures ∙ c.if-not-has_line.false))

pub returns : goal.returns
returns c = sym (c.loop-i.invariant.3 ∙ pins-end _ _ _ _ (omega arith))
