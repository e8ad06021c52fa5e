-- `cover_choice::times` meets its contract.
use Rattle.base.specs.{◌∷◌, []}
use Rattle.cover_choice.specs.{times_at}
use Rattle.cover_choice.proofs.times.Goals as goal

pub returns : goal.returns
unfolding times_at
returns c =
    λ i.
    c.leaf_time.ensures i ∷ c.leaf_time-2.ensures i ∷ c.leaf_time-3.ensures i ∷ c.leaf_time-4.ensures i
    ∷ c.leaf_time-5.ensures i ∷ c.leaf_time-6.ensures i ∷ c.leaf_time-7.ensures i ∷ c.leaf_time-8.ensures i
    ∷ 0 ∷ 0 ∷ 0 ∷ 0 ∷ 0 ∷ 0 ∷ 0 ∷ 0 ∷ []
