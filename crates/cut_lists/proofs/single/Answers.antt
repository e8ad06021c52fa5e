-- `cut_lists::single` meets its contract.
use Rattle.base.specs.{◌∙◌, List, ◌∷◌, ◌++◌, ℕ, arith, drop_of_length-le}
use Rattle.cut_lists.proofs.KeyInsertion.{none_between, put-at}
use Rattle.cut_lists.proofs.single.Goals as goal

pub returns : goal.returns
returns c =
    let L : List ℕ = c.args.keys.now in
    let k : ℕ = c.args.k in
    let e = drop_of_length-le L {i = 19} (omega (arith, c.requires)) in
    (put-at L 18 18 (omega arith) (omega (arith, c.requires)) k ∙ (λ i. none_between L 18 i ++ (k ∷ e i)), omega arith)
