-- What an expected line leaves in the words, and the words before the first.
use Rattle.std.specs.Prelude.{◌+◌, ◌-◌, ◌/◌, ◌∷◌}
use Rattle.base.specs.{ℕ, List, [], ltb}
use Rattle.model.specs.declared.Header.{Header}
use Rattle.base_words.specs.{put_at, zeros, constant_kind, input_kind, and_kind, output_addr, lists_from, put_node}
use Rattle.graph_order.specs.{pick_words, put_ordered}
use Rattle.graph_loading.specs.declared.Literals.{Literals}

-- all columns zero but for variable 0, which stands first in the topological order
unfoldable pub opened : List ℕ → ℕ → List ℕ
unfolding put_ordered
opened w m = put_ordered (put_node (put_at w 0 (zeros (lists_from m))) m 0 constant_kind 0 0) m 0 0

unfoldable pub stored_input : List ℕ → ℕ → ℕ → ℕ → List ℕ
unfolding put_ordered
stored_input w m k v = put_ordered (put_node w m v input_kind 0 0) m (k + 1) v

unfoldable pub stored_line : List ℕ → Header → ℕ → Literals → List ℕ
unfolding stored_input
stored_line w h k l =
    pick_words (ltb k h.inputs) (stored_input w h.size k (l.first / 2))
    (pick_words (ltb k (h.inputs + h.outputs)) (put_at w (output_addr h.size (k - h.inputs)) (l.first ∷ []))
    (put_node w h.size (l.first / 2) and_kind l.left l.right))
