-- `tally_lines::is_number` meets its contract: the number's digits are written, and compared.
use Rattle.base.specs.{length, length-take-le, rules, arith, ◌≡◌, sym, ap, ◌∙◌, List, ℕ}
use Rattle.model.specs.{same}
use Rattle.tally_lines.proofs.FieldDigits.{ten-digits, written}
use Rattle.tally_lines.proofs.is_number.Goals as goal

pub slice_bounds-digits-end : goal.slice_bounds-digits-end
slice_bounds-digits-end c =
    let long : length c.put_number-end.new.out ≡ 10 = search rules in
    omega (arith, c.put_number-end.ensures.0, ten-digits c.args.n (search rules))

pub slice_bounds-same_bytes-end : goal.slice_bounds-same_bytes-end
slice_bounds-same_bytes-end c =
    let long : length c.put_number-end.new.out ≡ 10 = search rules in
    sym (length-take-le c.put_number-end.result c.put_number-end.new.out (omega (arith, c.put_number-end.ensures.0, ten-digits c.args.n (search rules))))

pub returns : goal.returns
returns c =
    let a = c.args in
    let p = c.put_number-end in
    c.same_bytes.ensures ∙ ap (λ (x : List ℕ). same x a.w.now) (written a.n p.result p.new.out p.ensures.0 p.ensures.1)

pub put_number-end-requires : goal.put_number-end-requires
put_number-end-requires c = omega (arith, ten-digits c.args.n (search rules))
