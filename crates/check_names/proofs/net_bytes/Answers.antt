-- `check_names::net_bytes` meets its contract.
use Rattle.base.specs.{◌≡◌, refl, ◌∙◌, ap, Bool, ◌&&◌, ℕ, List, [], ◌∷◌}
use Rattle.std.specs.List.{list_all}
use Rattle.std.proofs.Common.{rules, tests}
use Rattle.std.proofs.lemmas.Iterator.{YieldsList-from_slice}
use Rattle.std.proofs.lemmas.Iterator.Search.{all_from_yields_List}
use Rattle.model.specs.{all}
use Rattle.check_names.specs.{is_net_byte}
use Rattle.check_names.proofs.net_bytes.Goals as goal

all-same : (w : List ℕ) → list_all is_net_byte w ≡ all is_net_byte w
unfolding all
all-same [] = refl
all-same (b ∷ w) = ap (λ (t : Bool). is_net_byte b && t) (all-same w)

pub returns : goal.returns
returns c =
    all_from_yields_List is_net_byte _ _ c.all.result c.all.ensures.ran (YieldsList-from_slice c.args.w.now cc) (λ x b q k. search (rules, tests))
    ∙ all-same c.args.w.now
