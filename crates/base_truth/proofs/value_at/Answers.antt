-- `base_truth::value_at` meets its contract: the row of its pins is below 16.
use Rattle.base.specs.{ap, ℕ, ◌%◌, mod-lt, arith, pow_pos, pow_mono}
use Rattle.base_truth.proofs.Tables.{power}
use Rattle.base_truth.proofs.value_at.Goals as goal

pub bit-requires : goal.bit-requires
bit-requires c =
    let a = c.args in let e = ap (λ (x : ℕ). a.row % x) (power a.pins c.requires) in
    omega (arith, e, mod-lt a.row (pow_pos a.pins), pow_mono {i = a.pins} {j = 4} c.requires)
