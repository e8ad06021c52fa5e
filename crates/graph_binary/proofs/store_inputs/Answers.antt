-- `graph_binary::store_inputs` meets its contract. The invariant: what the inputs from here on leave is what all leave.
use Rattle.base.specs.{refl, ap, ◌∙◌, arith, rules}
use Rattle.graph_loading.specs.{stored_line}
use Rattle.graph_binary.specs.{input_left}
use Rattle.graph_binary.proofs.BinaryPasses.{rest-on, rest_end}
use Rattle.graph_binary.proofs.store_inputs.Goals as goal

pub loop-k-preserved : goal.loop-k-preserved
unfolding input_left
loop-k-preserved c =
    rest-on _ _ _ _ _ _ _ _ _ c.loop-k.invariant (omega arith) _ _ refl (c.store_line.ensures ∙ ap (stored_line _ _ _) c.input_literals.ensures) (search rules)

pub returns : goal.returns
returns c = (rest_end _ _ _ _ _ _ _ _ _ c.loop-k.invariant (omega arith)).1
