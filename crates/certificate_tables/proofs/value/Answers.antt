-- `certificate_tables::value` meets its contract: the row of as many pins as there are.
use Rattle.base.specs.{ap, ap₂, ◌∙◌, ℕ, ◌%◌, mod-lt, arith, pow_pos, pow_mono}
use Rattle.model.specs.{value}
use Rattle.base_truth.proofs.{power}
use Rattle.certificate_tables.proofs.value.Goals as goal

pub nonzero_rem-row : goal.nonzero_rem-row
nonzero_rem-row c = omega (arith, power c.args.pins c.requires.0, pow_pos c.args.pins)

pub bit-requires : goal.bit-requires
bit-requires c =
    let e = ap (λ (x : ℕ). c.bits.result % x) (power c.args.pins c.requires.0) in
    omega (arith, e, mod-lt c.bits.result (pow_pos c.args.pins), pow_mono {i = c.args.pins} {j = 4} c.requires.0)

pub returns : goal.returns
returns c =
    c.bit.ensures ∙ ap₂ (λ (x y : ℕ). value c.args.table (x % y)) c.bits.ensures.0 (power c.args.pins c.requires.0)
