-- The words of the graph are its values:
--     slots-ready         what the pass over the topological order asks for
--     value_word           a variable's values in block b
--     slots-step          each variable has its word by those of variables ordered before it
--     slot_of             an ordered variable stands in a slot
use Rattle.base.specs.{ℕ, zero, suc, ◌+◌, ◌-◌, ◌*◌, ◌/◌, ◌≤◌, ◌<◌, arith, add-one, ◌≡◌, refl, sym, ap, ap₂, ◌∙◌, Bool, true, false, cond}
use Rattle.base.specs.{◌&&◌, List, [], ◌∷◌, ◌++◌, Memᴰ, Memᴰ-head, Memᴰ-tail, Memᴰ-cast, T, eqb, leb, eqb→eq, length, get_or}
use Rattle.base.specs.{length-append, get_or-append, get_or-append-add, eqb-true, eqb-false, leb-true, leb-false}
use Rattle.model.specs.{bit, flip, And, Node, constant, input, undefined, both, node, order_from, topological_order, var_of, negated, literal_value}
use Rattle.model.specs.{node_value, value_of, Driver, assignment_of, Distinct}
use Rattle.model.specs.Graph.{Graph}
use Rattle.model.specs.declared.Header.{Header}
use Rattle.theory_graph.proofs.{get_or_in, is_true, map_out, ordered-and, value_of_valuation, and-node, values_exist}
use Rattle.theory_check.proofs.{inputs-once}
use Rattle.base_words.specs.{ordered_count, and_kind, kind_at, left_at, right_at, slot_at}
use Rattle.graph_order.specs.{Fit, kind_of, left_of, right_of, Operands}
use Rattle.graph_order.proofs.{fit_length, fit-capacity, loaded_operands, holds-nodes}
use Rattle.cut_lists.specs.RepresentedWords.{Represents}
use Rattle.cut_lists.proofs.{slot-inside}
use Rattle.cut_pass.proofs.{earlier-slot}
use Rattle.cover_choice.proofs.{all-ordered}
use Rattle.check_outputs.specs.{word_of, input_word, and_word, and_at, slot_word, Slots, SlotsStep}
use Rattle.check_outputs.proofs.AssignmentBits.{bit_word, words_same, no_bits}
use Rattle.check_outputs.specs.Comparable.{Comparable}

-- ---- the assignment of an input

pub assignment_at : (s k : ℕ) (us : List ℕ) → Distinct us → (j : ℕ) → j < length us → assignment_of s k us (get_or us j 0) ≡ bit s (k + j)
unfolding assignment_of
assignment_at s k [] once j h = absurd (omega arith)
assignment_at s k (u ∷ us) once zero h =
    ap (λ (t : Bool). cond t (bit s k) (assignment_of s (suc k) us u)) (is_true (eqb u u) (lib.Dec.eqb_refl u)) ∙ ap (bit s) (let e : k ≡ k + 0 = omega arith in e)
assignment_at s k (u ∷ us) once (suc j) h =
    go (eqb u (get_or us j 0)) (eqb→eq u (get_or us j 0)) ∙ assignment_at s (suc k) us once.1 j (omega arith) ∙ ap (bit s) (let e : suc k + j ≡ k + suc j = omega arith in e)
  where
    go : (t : Bool) → (T t → u ≡ get_or us j 0) → cond t (bit s k) (assignment_of s (suc k) us (get_or us j 0)) ≡ assignment_of s (suc k) us (get_or us j 0)
    go true y = absurd (once.0 (Memᴰ-cast (y tt) (get_or_in us j 0 (omega arith))))
    go false y = refl

-- an element stands somewhere
index_of_lem : (u : ℕ) (xs : List ℕ) → Memᴰ u xs → (i : ℕ) × (i < length xs) × (get_or xs i 0 ≡ u)
index_of_lem u [] m = elim m [ ]
index_of_lem u (x ∷ xs) (Memᴰ-head e) = (0, omega arith, sym e)
index_of_lem u (x ∷ xs) (Memᴰ-tail m) = let r = index_of_lem u xs m in (suc r.0, omega (arith, r.1), r.2)

module _ (w : List ℕ) (h : Header) (nets : List ℕ) (n : ℕ) (refs order : List ℕ) (g : Graph) (ds : List Driver) (c : Comparable w h nets n refs order g ds) where
  pub fits : Fit h w
  fits = fit_length h c.before w c.fit c.graph_loaded.represented.long

  operands : Operands w h.size
  operands = loaded_operands c.before h w g (topological_order g) c.graph_loaded

  lefts : (v : ℕ) → v ≤ h.size → left_at w h.size v ≤ 2 * h.size + 1
  lefts v l = go (node g v) refl
    where
      at : left_at w h.size v ≡ left_of (node g v)
      at = c.graph_loaded.represented.lefts v l

      go : (k : Node) → node g v ≡ k → left_at w h.size v ≤ 2 * h.size + 1
      go constant e = omega (arith, at ∙ ap left_of e)
      go input e = omega (arith, at ∙ ap left_of e)
      go undefined e = omega (arith, at ∙ ap left_of e)
      go (both a b) e = operands.left v l (c.graph_loaded.represented.kinds v l ∙ ap kind_of e)

  rights : (v : ℕ) → v ≤ h.size → right_at w h.size v ≤ 2 * h.size + 1
  rights v l = go (node g v) refl
    where
      at : right_at w h.size v ≡ right_of (node g v)
      at = c.graph_loaded.represented.rights v l

      go : (k : Node) → node g v ≡ k → right_at w h.size v ≤ 2 * h.size + 1
      go constant e = omega (arith, at ∙ ap right_of e)
      go input e = omega (arith, at ∙ ap right_of e)
      go undefined e = omega (arith, at ∙ ap right_of e)
      go (both a b) e = operands.right v l (c.graph_loaded.represented.kinds v l ∙ ap kind_of e)

  ordered-is : ordered_count h ≡ length (topological_order g)
  ordered-is = omega (arith, c.graph_loaded.ins, c.graph_loaded.gates, all-ordered g c.accepted)

  represents : Represents w h.size (ordered_count h) g
  represents =
      let long : ordered_count h ≡ length (topological_order g) = ordered-is in
      record {
        capacity = fit-capacity h w fits;
        size = c.graph_loaded.size;
        nodes = holds-nodes c.before h w g (topological_order g) c.graph_loaded;
        lefts = lefts;
        rights = rights;
        within = omega (arith, fits.lines);
        long = sym long;
        order = λ i l. c.graph_loaded.represented.in_order.slots i (omega arith);
        places = λ i l. c.graph_loaded.represented.in_order.places i (omega arith);
      }

  inside : (i : ℕ) → i < ordered_count h → slot_at w h.size i ≤ h.size
  inside = slot-inside w h.size (ordered_count h) g represents c.accepted

  pub slots-ready : Slots w h.size h.inputs (ordered_count h)
  slots-ready = record {
    capacity = fit-capacity h w fits;
    within = omega (arith, fits.lines);
    few = omega (arith, c.graph_loaded.ins, c.few);
    slots = inside;
    lefts = lefts;
    rights = rights;
  }

  -- ---- what stands in a slot

  pub slot_of : (u : ℕ) → Memᴰ u (topological_order g) → (i : ℕ) × (i < ordered_count h) × (slot_at w h.size i ≡ u)
  slot_of u there =
      let r = index_of_lem u (topological_order g) there in
      (r.0, omega (arith, r.1, ordered-is), c.graph_loaded.represented.in_order.slots r.0 r.1 ∙ r.2)

  slot_is : (i : ℕ) → i < ordered_count h → slot_at w h.size i ≡ get_or (topological_order g) i 0
  slot_is i l = represents.order i l

  first_slot : 0 < ordered_count h → slot_at w h.size 0 ≡ 0
  unfolding topological_order
  first_slot l = slot_is 0 l

  rest : List ℕ
  rest = order_from (length g.ands) g.ands (0 ∷ g.inputs)

  input-slot : (k : ℕ) → k < length g.inputs → k + 1 < ordered_count h → slot_at w h.size (k + 1) ≡ get_or g.inputs k 0
  unfolding topological_order rest
  input-slot k l s = slot_is (k + 1) s ∙ ap (λ (i : ℕ). get_or (0 ∷ g.inputs ++ rest) i 0) (add-one k) ∙ get_or-append g.inputs rest 0 k l

  and-slot : (i : ℕ) → h.inputs < i → i < ordered_count h → (a : And) × Memᴰ a g.ands × (slot_at w h.size i ≡ a.var)
  unfolding topological_order rest
  and-slot i l s =
      let j : ℕ = i - 1 - length g.inputs in let at : i ≡ suc (length g.inputs + j) = omega (arith, c.graph_loaded.ins) in
      let e : slot_at w h.size i ≡ get_or rest j 0 =
      slot_is i s ∙ ap (λ (x : ℕ). get_or (0 ∷ g.inputs ++ rest) x 0) at ∙ get_or-append-add g.inputs rest j 0 in
      let fewer : j < length rest = omega (arith, ordered-is, length-append g.inputs rest, c.graph_loaded.ins) in
      let o = map_out (λ (a : And). a.var) g.ands (ordered-and (length g.ands) g.ands (0 ∷ g.inputs) (get_or rest j 0) (get_or_in rest j 0 fewer)) in
      (o.0, o.1, e ∙ o.2)

  -- the AND in a slot behind the inputs, by its operands in the words
  slot-node : (i : ℕ) → h.inputs < i → i < ordered_count h
      → node g (slot_at w h.size i) ≡ both (left_at w h.size (slot_at w h.size i)) (right_at w h.size (slot_at w h.size i))
  slot-node i l s =
      let o = and-slot i l s in let v : ℕ = slot_at w h.size i in
      let e : node g v ≡ both o.0.left o.0.right = ap (node g) o.2 ∙ and-node g c.accepted o.0 o.1 in
      e ∙ sym (ap₂ both (c.graph_loaded.represented.lefts v (inside i s) ∙ ap left_of e) (c.graph_loaded.represented.rights v (inside i s) ∙ ap right_of e))

  kind-and : (i : ℕ) → h.inputs < i → i < ordered_count h → kind_at w h.size (slot_at w h.size i) ≡ and_kind
  kind-and i l s = c.graph_loaded.represented.kinds (slot_at w h.size i) (inside i s) ∙ ap kind_of (slot-node i l s)

  -- ---- the values in block b

  module _ (b : ℕ) where
    pub value_word : ℕ → ℕ
    value_word v = word_of (λ t. value_of g (assignment_of (64 * b + t) 0 g.inputs) v)

    pub value-bit : (v t : ℕ) → t < 64 → bit (value_word v) t ≡ value_of g (assignment_of (64 * b + t) 0 g.inputs) v
    unfolding value_word
    value-bit v t l = bit_word (λ t. value_of g (assignment_of (64 * b + t) 0 g.inputs) v) t l

    step-zero : (v : ℕ) → v ≡ 0 → value_word v ≡ 0
    unfolding value_word
    step-zero v e =
        words_same (λ t. value_of g (assignment_of (64 * b + t) 0 g.inputs) v) (λ t. false)
        (λ t l. ap (value_of g (assignment_of (64 * b + t) 0 g.inputs)) e ∙ (values_exist g c.accepted (assignment_of (64 * b + t) 0 g.inputs)).at_constant)
        ∙ no_bits

    step-input : (v k : ℕ) → k < length g.inputs → v ≡ get_or g.inputs k 0 → value_word v ≡ input_word k b
    unfolding value_word input_word
    step-input v k l e =
        words_same (λ t. value_of g (assignment_of (64 * b + t) 0 g.inputs) v) (λ t. bit (64 * b + t) k)
        (λ t r.
        ap (value_of g (assignment_of (64 * b + t) 0 g.inputs)) e
        ∙ (values_exist g c.accepted (assignment_of (64 * b + t) 0 g.inputs)).at_inputs (get_or g.inputs k 0) (get_or_in g.inputs k 0 l)
        ∙ assignment_at (64 * b + t) 0 g.inputs (inputs-once g c.accepted) k l ∙ ap (bit (64 * b + t)) (let z : 0 + k ≡ k = omega arith in z))

    step-and : (v l r : ℕ) → node g v ≡ both l r → value_word v ≡ and_word l (value_word (l / 2)) r (value_word (r / 2))
    unfolding value_word and_word node_value literal_value var_of
    step-and v l r e =
        words_same (λ t. value_of g (assignment_of (64 * b + t) 0 g.inputs) v) (λ t. flip (negated l) (bit (value_word (l / 2)) t) && flip (negated r) (bit (value_word (r / 2)) t))
        (λ t s.
        value_of_valuation g c.accepted (assignment_of (64 * b + t) 0 g.inputs) v
        ∙ ap (node_value (assignment_of (64 * b + t) 0 g.inputs) (value_of g (assignment_of (64 * b + t) 0 g.inputs)) v) e
        ∙ sym (ap₂ (λ (x y : Bool). flip (negated l) x && flip (negated r) y) (value-bit (l / 2) t s) (value-bit (r / 2) t s)))

    step-slot : (i : ℕ) → i < ordered_count h → value_word (slot_at w h.size i) ≡ slot_word w h.size h.inputs b value_word i
    unfolding slot_word and_at
    step-slot i l = go (eqb i 0) (leb i h.inputs) refl refl
      where
        v : ℕ
        v = slot_at w h.size i

        go : (x y : Bool) → eqb i 0 ≡ x → leb i h.inputs ≡ y → value_word v ≡ cond x 0 (cond y (input_word (i - 1) b) (and_at w h.size value_word (slot_at w h.size i)))
        go true y e f = let z : i ≡ 0 = eqb-true i 0 e in step-zero v (ap (slot_at w h.size) z ∙ first_slot (omega arith))
        go false true e f =
            let d = eqb-false i 0 e in let z : i ≤ h.inputs = leb-true i h.inputs f in let at : i ≡ i - 1 + 1 = omega (arith, d) in
            let few : i - 1 < length g.inputs = omega (arith, d, c.graph_loaded.ins) in
            step-input v (i - 1) few (ap (slot_at w h.size) at ∙ input-slot (i - 1) few (omega arith))
        go false false e f = step-and v (left_at w h.size v) (right_at w h.size v) (slot-node i (leb-false i h.inputs f) l)

    pub slots-step : SlotsStep w h.size h.inputs (ordered_count h) b value_word
    slots-step = record {
      step = step-slot;
      left-earlier = λ i s l. (earlier-slot w h.size (ordered_count h) g represents c.accepted i l (kind-and i s l)).0;
      right-earlier = λ i s l. (earlier-slot w h.size (ordered_count h) g represents c.accepted i l (kind-and i s l)).1;
    }
