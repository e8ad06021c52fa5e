-- In the words that represent an accepted graph each AND is ordered behind its operands:
--     and-ordered, operands_in     an AND and its operands' variables are ordered
--     place_of                    a variable's place is 1 and its index in the topological order
--     ordered, earlier-slot        what the walks over cones ask for
use Rattle.base.specs.{◌≡◌, refl, sym, ap, ◌∙◌, subst, ◌⊎◌, inl, inr, List, [], ◌∷◌, ◌++◌, append_assoc, Memᴰ, Memᴰ-head}
use Rattle.base.specs.{Memᴰ-tail, Memᴰ-not-nil, Memᴰ-append_cases, Memᴰ-append_right, ℕ, ◌+◌, ◌/◌, ◌≤◌, ◌<◌, arith, length}
use Rattle.base.specs.{get_or, length-append, get_or-append-add}
use Rattle.model.specs.Graph.{Graph}
use Rattle.model.specs.{And, node, both, var_of, topological_order, and_vars, Distinct}
use Rattle.theory_graph.specs.AcceptedGraph.{Accepted}
use Rattle.theory_graph.proofs.{map_in, each_in, order-once, defined-ordered, Found, node-and, Closed, order-closed, operands_before}
use Rattle.theory_order.proofs.{split_at}
use Rattle.base_words.specs.{and_kind, kind_at, left_at, right_at, slot_at, position_at, node_of, node_at}
use Rattle.cut_lists.specs.RepresentedWords.{Represents}
use Rattle.cut_lists.proofs.{slot-inside}
use Rattle.cut_functions.specs.{Ordered, Earlier}

-- an AND of an accepted graph
module _ (g : Graph) (ok : Accepted g) (v l r : ℕ) (e : node g v ≡ both l r) where
  found : Found g.ands v l r
  found = node-and g v l r e

  pub and-ordered : Memᴰ v (topological_order g)
  and-ordered =
      defined-ordered g ok v
      (Memᴰ-tail (Memᴰ-append_right g.inputs
      (subst (λ (x : ℕ). Memᴰ x (and_vars g)) found.is_var (map_in (λ (a : And). a.var) found.is_line))))

  used-ordered : (x : ℕ) → Memᴰ x (found.line.left ∷ found.line.right ∷ []) → Memᴰ (var_of x) (topological_order g)
  used-ordered x there =
      defined-ordered g ok (var_of x)
      (ok.used x (Memᴰ-append_right g.outputs (each_in (λ (a : And). a.left ∷ a.right ∷ []) found.is_line there)))

  pub operands_in : Memᴰ (var_of l) (topological_order g) × Memᴰ (var_of r) (topological_order g)
  operands_in = (
    subst (λ (x : ℕ). Memᴰ (var_of x) (topological_order g)) found.is_left (used-ordered found.line.left (Memᴰ-head refl)),
    subst (λ (x : ℕ). Memᴰ (var_of x) (topological_order g)) found.is_right (used-ordered found.line.right (Memᴰ-tail (Memᴰ-head refl))),
  )

-- what is ordered and does not come after v comes before it
in_front : (xs pre : List ℕ) (v : ℕ) (post : List ℕ) → xs ≡ pre ++ (v ∷ post) → (x : ℕ) → Memᴰ x xs → ¬ Memᴰ x (v ∷ post) → Memᴰ x pre
in_front xs pre v post s x there out = go (Memᴰ-append_cases pre (subst (λ (ys : List ℕ). Memᴰ x ys) s there))
  where
    go : Memᴰ x pre ⊎ Memᴰ x (v ∷ post) → Memᴰ x pre
    go (inl h) = h
    go (inr h) = absurd (out h)

module _ (w : List ℕ) (m n : ℕ) (g : Graph) (rep : Represents w m n g) (ok : Accepted g) where
  pub place_of : (pre : List ℕ) (v : ℕ) (post : List ℕ) → topological_order g ≡ pre ++ (v ∷ post) → position_at w m v ≡ length pre + 1
  place_of pre v post e =
      let long : length (topological_order g) ≡ length pre + length (v ∷ post) = ap length e ∙ length-append pre (v ∷ post) in
      let zero_more : length pre ≡ length pre + 0 = omega arith in
      let here : get_or (topological_order g) (length pre) 0 ≡ v =
      (λ i. get_or (e i) (zero_more i) 0) ∙ get_or-append-add pre (v ∷ post) 0 0 in
      ap (position_at w m) (sym here) ∙ rep.places (length pre) (omega (arith, rep.long))

  earlier : (pre : List ℕ) (v : ℕ) (post : List ℕ) → topological_order g ≡ pre ++ (v ∷ post) → (x : ℕ) → Memᴰ x pre
      → (0 < position_at w m x) × (position_at w m x < position_at w m v)
  earlier pre v post e x there =
      let s = split_at pre there in
      let first : List ℕ = s.0 in
      let second : List ℕ = s.1 in
      let whole : topological_order g ≡ first ++ (x ∷ (second ++ (v ∷ post))) =
      e ∙ ap (λ (l : List ℕ). l ++ (v ∷ post)) s.2 ∙ append_assoc first (x ∷ second) (v ∷ post) in
      let long : length pre ≡ length first + length (x ∷ second) = ap length s.2 ∙ length-append first (x ∷ second) in
      let px : position_at w m x ≡ length first + 1 = place_of first x (second ++ (v ∷ post)) whole in
      let pv : position_at w m v ≡ length pre + 1 = place_of pre v post e in
      (omega arith, omega arith)

  -- an operand's variable stands before the AND
  pub operands_ordered : (v l r : ℕ) → node g v ≡ both l r
      → ((0 < position_at w m (var_of l)) × (position_at w m (var_of l) < position_at w m v)) × ((0 < position_at w m (var_of r)) × (position_at w m (var_of r) < position_at w m v))
  operands_ordered v l r e =
      let s = split_at (topological_order g) (and-ordered g ok v l r e) in
      let pre : List ℕ = s.0 in
      let post : List ℕ = s.1 in
      let o =
      operands_before g ok pre v post [] (subst (Closed g []) s.2 (order-closed g ok)) (subst Distinct s.2 (order-once g ok)) (λ x h. absurd (Memᴰ-not-nil h)) l r e in
      let there = operands_in g ok v l r e in (
        earlier pre v post s.2 (var_of l) (in_front (topological_order g) pre v post s.2 (var_of l) there.0 o.0),
        earlier pre v post s.2 (var_of r) (in_front (topological_order g) pre v post s.2 (var_of r) there.1 o.1),
      )

  -- what the words call an AND is one
  and-here : (v : ℕ) → v ≤ m → kind_at w m v ≡ and_kind → node g v ≡ both (left_at w m v) (right_at w m v)
  unfolding node_at
  and-here v h k = sym (rep.nodes v h) ∙ ap (λ (x : ℕ). node_of x (left_at w m v) (right_at w m v)) k

  pub ordered : Ordered w m
  unfolding var_of
  ordered =
      record {
        capacity = rep.capacity;
        lefts = rep.lefts;
        rights = rep.rights;
        left-ordered = λ v h k. (operands_ordered v (left_at w m v) (right_at w m v) (and-here v h k)).0.0;
        right-ordered = λ v h k. (operands_ordered v (left_at w m v) (right_at w m v) (and-here v h k)).1.0;
        left-first = λ v h k. (operands_ordered v (left_at w m v) (right_at w m v) (and-here v h k)).0.1;
        right-first = λ v h k. (operands_ordered v (left_at w m v) (right_at w m v) (and-here v h k)).1.1;
      }

  -- a variable of the topological order stands in the slot of its place
  in_slot : (u : ℕ) → Memᴰ u (topological_order g) → (i : ℕ) → i < n → position_at w m u < position_at w m (slot_at w m i) → Earlier w m i u
  in_slot u there i h first =
      let s = split_at (topological_order g) there in
      let j : ℕ = length s.0 in
      let long : length (topological_order g) ≡ j + length (u ∷ s.1) = ap length s.2 ∙ length-append s.0 (u ∷ s.1) in
      let zero_more : j ≡ j + 0 = omega arith in
      let place : position_at w m u ≡ j + 1 = place_of s.0 u s.1 s.2 in
      let mine : position_at w m (slot_at w m i) ≡ i + 1 = ap (position_at w m) (rep.order i h) ∙ rep.places i h in
      record {
        slot = j;
        before = omega arith;
        there = rep.order j (omega (arith, rep.long)) ∙ (λ q. get_or (s.2 q) (zero_more q) 0) ∙ get_or-append-add s.0 (u ∷ s.1) 0 0;
      }

  -- the operands of the AND in slot i stand in earlier slots
  pub earlier-slot : (i : ℕ) → i < n → kind_at w m (slot_at w m i) ≡ and_kind
      → Earlier w m i (left_at w m (slot_at w m i) / 2) × Earlier w m i (right_at w m (slot_at w m i) / 2)
  unfolding var_of
  earlier-slot i h k =
      let v : ℕ = slot_at w m i in
      let inside : v ≤ m = slot-inside w m n g rep ok i h in
      let e : node g v ≡ both (left_at w m v) (right_at w m v) = and-here v inside k in
      let there = operands_in g ok v (left_at w m v) (right_at w m v) e in
      let first = operands_ordered v (left_at w m v) (right_at w m v) e in
      (in_slot (left_at w m v / 2) there.0 i h first.0.1, in_slot (right_at w m v / 2) there.1 i h first.1.1)
