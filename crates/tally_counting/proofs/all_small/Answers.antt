-- `tally_counting::all_small` meets its contract.
use Rattle.base.specs.{◌≡◌, refl, ◌∙◌, ap, Bool, ◌&&◌, ℕ, List, [], ◌∷◌, ◌^◌, leb}
use Rattle.std.specs.List.{list_all}
use Rattle.std.proofs.Common.{rules, tests}
use Rattle.std.proofs.lemmas.Iterator.{YieldsList-from_slice}
use Rattle.std.proofs.lemmas.Iterator.Search.{all_from_yields_List}
use Rattle.model.specs.{all}
use Rattle.tally_counting.proofs.all_small.Goals as goal

abbrev small : ℕ → Bool
small n = leb n (2 ^ 40)

all-same : (xs : List ℕ) → list_all small xs ≡ all small xs
unfolding all
all-same [] = refl
all-same (n ∷ xs) = ap (λ (t : Bool). small n && t) (all-same xs)

pub returns : goal.returns
returns c = (
  all_from_yields_List small _ _ c.all.result c.all.ensures.ran (YieldsList-from_slice c.args.xs cc) (λ x b q k. search (rules, tests))
      ∙ all-same c.args.xs,
  search rules,
)
