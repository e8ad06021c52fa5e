-- `check_names::bound` meets its contract. The invariant: so many words are bound, and the others are expected.
use Rattle.base.specs.{◌≡◌, refl, sym, ◌∙◌, ap, [], ◌∷◌, arith}
use Rattle.model.specs.{bound_nets}
use Rattle.check_names.specs.{pin_at, letters, fields_from, nets_of, own_nets}
use Rattle.check_names.proofs.WordSplits.{fields-none, fields-part}
use Rattle.check_names.proofs.PinBinding.{part-start, part_none, part_step, part_end, own-none, own-more, own-last}
use Rattle.check_names.proofs.bound.Goals as goal
use Rattle.check_names.proofs.bound.Goals.{After-pin_at-2}

pub loop-j-init : goal.loop-j-init
loop-j-init c = part-start c.args.l.now c.args.from c.args.n _ refl

pub returns-in_err-pin : goal.returns-in_err-pin
returns-in_err-pin c =
    let a = c.args in
    c.from_residual.ensures
    ∙ sym (part_none a.l.now a.from a.n c.loop-j.at c.loop-j.j c.loop-j.codes c.loop-j.invariant c.loop-j-test.true
    (ap (pin_at a.l.now c.loop-j.at) (sym c.letter.ensures) ∙ sym c.in_err-pin.ensures))

pub loop-j-preserved : goal.loop-j-preserved
loop-j-preserved c =
    let a = c.args in
    part_step a.l.now a.from a.n c.loop-j.at c.loop-j.j c.loop-j.codes c.loop-j.invariant c.loop-j-test.true c.requires c.in_ok-pin.pin
    (ap (pin_at a.l.now c.loop-j.at) (sym c.letter.ensures) ∙ sym c.in_ok-pin.ensures)

-- the words of the pins are bound, and the gate's own is expected
own-expected : (c : After-pin_at-2) →
    nets_of c.args.n (bound_nets (letters 0 c.args.n) (fields_from c.args.l.now c.args.from))
    ≡ own_nets c.loop-j.codes (bound_nets (79 ∷ []) (fields_from c.args.l.now c.loop-j.at))
own-expected c =
    let a = c.args in
    part_end a.l.now a.from a.n c.loop-j.at c.loop-j.j c.loop-j.codes c.loop-j.invariant (omega arith)

pub returns-in_err-own : goal.returns-in_err-own
returns-in_err-own c =
    let a = c.args in
    c.from_residual-in_err-own.ensures
    ∙ sym (own-expected (goal.at.returns-in_err-own c).After-pin_at-2 ∙ own-none a.l.now c.loop-j.at c.loop-j.codes (sym c.in_err-own.ensures))

pub returns-then-own-l : goal.returns-then-own-l
returns-then-own-l c =
    let a = c.args in
    sym (own-expected (goal.at.returns-then-own-l c).After-pin_at-2
    ∙ own-more a.l.now c.loop-j.at c.loop-j.codes c.in_ok-own.own (sym c.in_ok-own.ensures) _ _ (fields-part a.l.now c.in_ok-own.own.next c.if-own-l.true))

pub returns : goal.returns
returns c =
    let a = c.args in
    sym (own-expected (goal.at.returns c).After-pin_at-2
    ∙ own-last a.l.now c.loop-j.at c.loop-j.codes c.in_ok-own.own (sym c.in_ok-own.ensures) (fields-none a.l.now c.in_ok-own.own.next c.if-own-l.false))
