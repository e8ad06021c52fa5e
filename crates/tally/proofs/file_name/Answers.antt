-- `tally::file_name` is safe: a name has at most fifteen bytes, and is ASCII.
use Rattle.std.specs.Prelude.{◌≡◌, ◌≤◌, ◌∷◌}
use Rattle.base.specs.{arith, length, [], rules}
use Rattle.model.specs.{decimal}
use Rattle.std.proofs.lemmas.Str.{IsUtf8-from_ascii}
use Rattle.tally.proofs.FileNames.{written_ascii, has_value}
use Rattle.tally.proofs.TallyBounds.{ten-digits}
use Rattle.tally.proofs.file_name.Goals as goal

pub put_number-at-requires : goal.put_number-at-requires
put_number-at-requires c = let long : length c.args.name.now ≡ 16 = search rules in omega (arith, ten-digits c.args.k (search rules))

pub put_bytes-end-requires : goal.put_bytes-end-requires
put_bytes-end-requires c =
    let p = c.put_number-at in
    let long : length p.new.out ≡ 16 = search rules in
    omega (arith, p.ensures.0, ten-digits c.args.k (search rules))

pub shared_ref_as_front-from_utf8 : goal.shared_ref_as_front-from_utf8
shared_ref_as_front-from_utf8 c = omega (arith, c.put_number-at.ensures.0, c.put_bytes-end.ensures.ends, ten-digits c.args.k (search rules))

pub unwrap-requires : goal.unwrap-requires
unwrap-requires c =
    let w = c.args.name.now in
    let long : length w ≡ 16 = search rules in
    let ten : length (decimal c.args.k) ≤ 10 = ten-digits c.args.k (search rules) in
    has_value c.from_utf8.result _ _ _ c.from_utf8.ensures.cases
    (IsUtf8-from_ascii _ (written_ascii w _ _ c.args.k _ _ (46 ∷ 98 ∷ 108 ∷ 105 ∷ 102 ∷ []) (omega arith) (λ i. search arith)
    c.put_number-at.ensures c.put_bytes-end.ensures))
