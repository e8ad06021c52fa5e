-- Which variables are inputs.
use Rattle.base.specs.{ℕ, ◌≡◌, refl, sym, ◌∙◌, ap, Bool, true, false, cond, false≢true, List, [], ◌∷◌, Memᴰ, Memᴰ-append_left}
use Rattle.base.specs.{Memᴰ-cast, eqb, eqb→eq, length}
use Rattle.model.specs.{elem, And, Node, constant, input, undefined, both, node, find_and, order_from, topological_order, Distinct}
use Rattle.model.specs.Graph.{Graph}
use Rattle.theory_graph.proofs.ListLaws.{elem_in, elem_out}
use Rattle.theory_graph.proofs.ListSplits.{by_bool}

pub node-input : (g : Graph) (v : ℕ) → Distinct (topological_order g) → Memᴰ v g.inputs → node g v ≡ input
unfolding node topological_order
node-input g v once m = by_bool (eqb v 0) (λ e. rw e (absurd
    (once.0 (Memᴰ-append_left (order_from (length g.ands) g.ands (0 ∷ g.inputs)) (Memᴰ-cast (sym ((rw e at (eqb→eq v 0)) tt)) m)))))
    (λ q. rw q) ∙ ap (λ (b : Bool). cond b input (find_and v g.ands)) (elem_in v g.inputs m)

is_in : Node → Bool
is_in constant = false
is_in input = true
is_in undefined = false
is_in (both l r) = false

and-not_in : (v : ℕ) (as' : List And) → is_in (find_and v as') ≡ false
unfolding find_and is_in
and-not_in v [] = refl
and-not_in v (a ∷ as') = by_bool (eqb v a.var) (λ e. cc) (λ q. cc (and-not_in v as'))

pub input_out : (g : Graph) (v : ℕ) → node g v ≡ input → Memᴰ v g.inputs
unfolding node is_in
input_out g v e = by_bool (eqb v 0) (λ q. absurd (false≢true (rw q at (ap is_in e)))) (λ p. by_bool (elem v g.inputs)
    (λ r. elem_out v g.inputs r) (λ z. absurd (false≢true (sym (and-not_in v g.ands) ∙ (rw z at (rw p at (ap is_in e)))))))
