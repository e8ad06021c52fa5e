-- `net_writer::put_name` meets its contract: an array has eight bytes, so no name is longer.
use Rattle.base.specs.{◌≡◌, sym, ap, subst, List, ℕ, arith, length, length-take-le, rules}
use Rattle.base_text.specs.{Wrote}
use Rattle.net_writer.proofs.put_name.Goals as goal

pub slice_bounds-put_bytes-end : goal.slice_bounds-put_bytes-end
slice_bounds-put_bytes-end c =
    let eight : length c.args.name ≡ 8 = search rules in
    sym (length-take-le c.name_len-n.result c.args.name (omega (arith, c.name_len-n.ensures.0)))

pub put_bytes-requires : goal.put_bytes-requires
put_bytes-requires c =
    let eight : length c.args.name ≡ 8 = search rules in
    omega (arith, c.requires, ap length (c.name_len-n.ensures.1 c.args.name eight))

pub returns : goal.returns
returns c =
    let eight : length c.args.name ≡ 8 = search rules in
    subst (λ (bs : List ℕ). Wrote c.args.out.now c.put_bytes.new.out c.args.at c.put_bytes.result bs)
    (c.name_len-n.ensures.1 c.args.name eight) c.put_bytes.ensures
