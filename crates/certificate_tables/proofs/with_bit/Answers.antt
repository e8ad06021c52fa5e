-- `certificate_tables::with_bit` meets its contract, by the bit.
use Rattle.base.specs.{ℕ, ◌+◌, ◌*◌, ◌≡◌, refl, ◌∙◌, ap, Bool, true, false}
use Rattle.std.specs.Int.{from_bool}
use Rattle.model.specs.{one}
use Rattle.certificate_tables.proofs.with_bit.Goals as goal

from_bool-one : (b : Bool) → from_bool b ≡ one b
unfolding one
from_bool-one true = refl
from_bool-one false = refl

pub returns : goal.returns
returns c = ap (λ (x : ℕ). x + 2 * c.args.n) (c.from.ensures ∙ from_bool-one c.args.b)
