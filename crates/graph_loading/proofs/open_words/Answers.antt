-- `graph_loading::open_words` meets its contract, by those of the three stores.
use Rattle.base.specs.{ap, ◌∙◌, List, ℕ}
use Rattle.base_words.specs.{constant_kind, put_node}
use Rattle.graph_order.specs.{put_ordered}
use Rattle.graph_loading.specs.{opened}
use Rattle.graph_loading.proofs.open_words.Goals as goal

pub returns : goal.returns
unfolding opened
returns c =
    c.order_at.ensures ∙ ap (λ (x : List ℕ). put_ordered x c.args.m 0 0) (c.store_node.ensures ∙ ap (λ (x : List ℕ). put_node x c.args.m 0 constant_kind 0 0) c.clear_columns.ensures)
