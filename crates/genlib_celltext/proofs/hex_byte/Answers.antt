-- `genlib_celltext::hex_byte` meets its contract.
use Rattle.base.specs.{sym, ap, Bool, cond, ◌+◌, lt-ltb, le-ltb}
use Rattle.model.specs.{hex_byte}
use Rattle.genlib_celltext.proofs.hex_byte.Goals as goal

pub returns-then-d-lt10 : goal.returns-then-d-lt10
unfolding hex_byte
returns-then-d-lt10 c = let d = c.args.d in sym (ap (λ (b : Bool). cond b (48 + d) (87 + d)) (lt-ltb d 10 c.if-d-lt10.true))

pub returns-else-d-lt10 : goal.returns-else-d-lt10
unfolding hex_byte
returns-else-d-lt10 c = let d = c.args.d in sym (ap (λ (b : Bool). cond b (48 + d) (87 + d)) (le-ltb d 10 c.if-d-lt10.false))
