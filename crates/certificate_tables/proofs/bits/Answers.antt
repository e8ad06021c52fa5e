-- `certificate_tables::bits` meets its contract: four bits, each put below those above it.
use Rattle.base.specs.{ap, ap₂, ◌∙◌, Bool, ℕ, ◌+◌, ◌*◌, arith}
use Rattle.model.specs.{one, row_of}
use Rattle.base_truth.proofs.{one-small}
use Rattle.certificate_tables.proofs.bits.Goals as goal

pub with_bit-c-requires : goal.with_bit-c-requires
with_bit-c-requires c = omega (arith, one-small c.bit.result, c.with_bit-d.ensures)

pub with_bit-b-requires : goal.with_bit-b-requires
with_bit-b-requires c =
    omega (arith, one-small c.bit.result, c.with_bit-d.ensures, one-small c.bit-2.result, c.with_bit-c.ensures)

pub with_bit-requires : goal.with_bit-requires
with_bit-requires c =
    omega (arith, one-small c.bit.result, c.with_bit-d.ensures, one-small c.bit-2.result, c.with_bit-c.ensures, one-small c.bit-3.result, c.with_bit-b.ensures)

pub returns : goal.returns
unfolding row_of
returns c =
    let put : Bool → ℕ → ℕ = λ b x. one b + 2 * x in (
      c.with_bit.ensures
          ∙ ap₂ put c.bit-4.ensures (c.with_bit-b.ensures ∙ ap₂ put c.bit-3.ensures
          (c.with_bit-c.ensures ∙ ap₂ put c.bit-2.ensures (c.with_bit-d.ensures ∙ ap (λ (b : Bool). put b 0) c.bit.ensures))),
      omega (arith, one-small c.bit.result, c.with_bit-d.ensures, one-small c.bit-2.result, c.with_bit-c.ensures, one-small c.bit-3.result, c.with_bit-b.ensures, one-small c.bit-4.result, c.with_bit.ensures),
    )
