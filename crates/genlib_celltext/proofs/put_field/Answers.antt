-- `genlib_celltext::put_field` meets its contract: a space, and the number behind it.
use Rattle.base.specs.{refl, sym, ◌∷◌, [], append-nil, ℕ, ◌+◌, ◌≤◌, List, length, arith}
use Rattle.model.specs.{decimal, number_text}
use Rattle.base_text.specs.{Wrote}
use Rattle.base_text.proofs.{Partly, begin, step, capacity, finish, as_wrote}
use Rattle.genlib_celltext.proofs.CellTextLength.{field_is, field_length}
use Rattle.genlib_celltext.proofs.put_field.Goals as goal

-- the space is written
one : (o : List ℕ) (at n : ℕ) → at + length (number_text n) ≤ length o → {w : List ℕ} {next : ℕ} → Wrote o w at next (32 ∷ []) → Partly o w at next (number_text n) (decimal n)
one o at n room e = step room (begin o at (field_is n)) _ _ (32 ∷ []) (decimal n) refl e

pub put_byte-a-requires : goal.put_byte-a-requires
put_byte-a-requires c = omega (arith, field_length c.args.n)

pub put_number-requires : goal.put_number-requires
put_number-requires c =
    let n = c.args.n in
    rw c.from.ensures (capacity c.requires (one c.args.out.now c.args.at n c.requires c.put_byte-a.ensures) (decimal n) [] (sym (append-nil (decimal n))))

pub returns : goal.returns
returns c =
    let written = rw c.from.ensures at c.put_number.ensures in
    finish c.requires (one c.args.out.now c.args.at c.args.n c.requires c.put_byte-a.ensures) (as_wrote written)
