-- `genlib_celltext::field_len` meets its contract: a space and at most five digits.
use Rattle.base.specs.{◌≡◌, ap, ◌∙◌, ℕ, length, arith}
use Rattle.model.specs.{decimal}
use Rattle.genlib_celltext.proofs.CellTextLength.{field_length, five-digits}
use Rattle.genlib_celltext.proofs.field_len.Goals as goal

pub overflow_add-result : goal.overflow_add-result
overflow_add-result c = omega (arith, c.number_len.ensures, c.from.ensures, five-digits c.from.result (omega (arith, c.from.ensures)))

pub returns : goal.returns
returns c =
    let n = c.args.n in
    let e : c.number_len.result ≡ length (decimal n) = c.number_len.ensures ∙ ap (λ (x : ℕ). length (decimal x)) c.from.ensures in
    (omega (arith, e, field_length n), omega (arith, e, five-digits n (omega arith)))
