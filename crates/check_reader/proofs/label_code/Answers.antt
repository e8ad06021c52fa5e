-- `check_reader::label_code` meets its contract: the number is written behind the letter.
use Rattle.base.specs.{refl, sym, ◌∙◌, ap, ap₂, List, ℕ, arith, length, take, length-take-le}
use Rattle.check_names.specs.{code}
use Rattle.check_reader.proofs.NameLineReading.{label_bytes, out_long, out_size, out_put}
use Rattle.check_reader.proofs.label_code.Goals as goal

pub slice_bounds-name-end : goal.slice_bounds-name-end
slice_bounds-name-end c = omega (arith, c.put_number-end.ensures.0, ap length c.put_number-end.ensures.1, out_size c.args.letter c.args.k c.requires, out_long c.args.k c.requires)

pub slice_bounds-code_of-end : goal.slice_bounds-code_of-end
slice_bounds-code_of-end c = sym (length-take-le c.put_number-end.result c.put_number-end.new.out (omega (arith, c.put_number-end.ensures.0, ap length c.put_number-end.ensures.1, out_size c.args.letter c.args.k c.requires, out_long c.args.k c.requires)))

pub code_of-requires : goal.code_of-requires
code_of-requires c = omega (arith, c.put_number-end.ensures.0, ap length c.put_number-end.ensures.1, out_size c.args.letter c.args.k c.requires, out_long c.args.k c.requires, length-take-le c.put_number-end.result c.put_number-end.new.out (omega (arith, c.put_number-end.ensures.0, ap length c.put_number-end.ensures.1, out_size c.args.letter c.args.k c.requires, out_long c.args.k c.requires)))

pub returns : goal.returns
returns c =
    c.code_of.ensures ∙ ap code (ap₂ (λ (n : ℕ) (w : List ℕ). take n w) c.put_number-end.ensures.0 c.put_number-end.ensures.1 ∙ out_put (label_bytes c.args.letter) c.args.letter c.args.k refl refl)

pub put_number-end-requires : goal.put_number-end-requires
put_number-end-requires c = omega (arith, out_long c.args.k c.requires)
