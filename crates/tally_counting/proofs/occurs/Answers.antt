-- `tally_counting::occurs` meets its contract: by the number.
use Rattle.base.specs.{◌≡◌, refl, ◌∙◌, Bool, true, false, ltb}
use mir.Val.{bool_byte}
use Rattle.model.specs.{one}
use Rattle.tally_counting.proofs.occurs.Goals as goal

byte-one : (b : Bool) → bool_byte b ≡ one b
unfolding one
byte-one true = refl
byte-one false = refl

pub returns : goal.returns
returns c = c.from.ensures ∙ byte-one (ltb 0 c.args.n)
