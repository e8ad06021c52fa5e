-- `cut_lists::packed` meets its contract.
use Rattle.base.specs.{◌≡◌, length, rules}
use Rattle.cut_lists.proofs.CutPacking.{pack-digits}
use Rattle.cut_lists.proofs.packed.Goals as goal

pub returns : goal.returns
returns c =
    let four : length c.args.c.leaves ≡ 4 = search rules in
    pack-digits c.args.c.leaves c.args.c.count _ _ _ _ four c.requires.0 c.digit-a.ensures c.digit-b.ensures c.digit-c.ensures c.digit-d.ensures
