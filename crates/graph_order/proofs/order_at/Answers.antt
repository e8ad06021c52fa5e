-- `graph_order::order_at` meets its contract, by those of the two stores.
use Rattle.base.specs.{ap, ◌∙◌, List, [], ◌∷◌, ℕ, ◌+◌}
use Rattle.base_words.specs.{put_at, position_addr}
use Rattle.graph_order.specs.{put_ordered}
use Rattle.graph_order.proofs.order_at.Goals as goal

pub returns : goal.returns
unfolding put_ordered
returns c =
    c.set_order_position.ensures ∙ ap (λ (x : List ℕ). put_at x (position_addr c.args.m c.args.v) ((c.args.i + 1) ∷ [])) c.set_slot.ensures
