-- `check_names::pin_code` meets its contract: each return knows the bytes that it met.
use Rattle.base.specs.{sym, ◌∙◌, ap}
use Rattle.check_names.specs.{net_code}
use Rattle.check_names.proofs.PinLetters.{rest_all, pin-short, pin-letter, pin-sign, pin-rest}
use Rattle.check_names.proofs.pin_code.Goals as goal

pub returns-then-w-ne61 : goal.returns-then-w-ne61
returns-then-w-ne61 c = sym (pin-sign _ _ c.if-w-lt2.false c.if-w-ne61.true)

pub returns : goal.returns
returns c =
    let w = c.args.w.now in
    c.net_code.ensures ∙ ap net_code (rest_all 2 w) ∙ sym (pin-rest _ w c.if-w-lt2.false c.if-w-b.false c.if-w-ne61.false)

pub returns-then-w-lt2 : goal.returns-then-w-lt2
returns-then-w-lt2 c = sym (pin-short _ _ c.if-w-lt2.true)

pub returns-then-w-b : goal.returns-then-w-b
returns-then-w-b c = sym (pin-letter _ _ c.if-w-lt2.false c.if-w-b.true)
