-- The words hold the graph of the lines so far:
--     State            so they do after k expected lines, and say which variables are defined
--     state_first, state_more     before the first line, and a line on
use Rattle.base.specs.{◌≡◌, refl, sym, ap, ◌∙◌, subst, ◌⊎◌, inl, inr, Bool, true, false, not, List, [], ◌∷◌, ◌++◌, Memᴰ}
use Rattle.base.specs.{Memᴰ-append_cases, Memᴰ-not-nil, Memᴰ-eq_of_singleton, ℕ, suc, ◌+◌, ◌-◌, ◌/◌, ◌≤◌, ◌<◌, min, arith}
use Rattle.base.specs.{eqb, ltb, length, length-append, eq-eqb, ne_eqb, ltb-true, ltb-false}
use Rattle.model.specs.{elem, any, And, undefined, both, node, var_of, Kind, an_input, an_output, an_and}
use Rattle.model.specs.Graph.{Graph}
use Rattle.model.specs.declared.Header.{Header}
use Rattle.theory_graph.proofs.{by_eqb}
use Rattle.base_words.specs.{put_at, HasCapacity, undefined_kind, input_kind, and_kind, kind_at, output_addr, put_node}
use Rattle.graph_order.specs.{Fit, kind_of, left_of, right_of, Within, Sure, put_ordered}
use Rattle.graph_order.specs.LoadedWords.{Loaded}
use Rattle.graph_order.proofs.{within_snoc, position_holds}
use Rattle.graph_loading.specs.declared.Literals.{Literals}
use Rattle.graph_loading.specs.{expected_code, expected_count, literals_fit, is_already_defined, stored_input, stored_line, opened}
use Rattle.graph_loading.proofs.LineTestLaws.{expected_kind_value, Fresh, fresh}
use Rattle.graph_loading.proofs.DefinitionStores.{node-holds, output-holds, opened-holds, with_input, with_output, with_and, nothing, Free}
use Rattle.graph_loading.proofs.DefinitionStores.{free-node, free-ordered, kind-none, input_new, input_other, and_new, and_other, output-node}
use Rattle.graph_loading.proofs.DefinitionStores.{node-none}

-- ---- the graph of the lines so far

abbrev pub and_of : Literals → And
and_of l = record { var = l.first / 2; left = l.left; right = l.right }

abbrev pub grown : Kind → Graph → Literals → Graph
grown an_input g l = with_input g (l.first / 2)
grown an_output g l = with_output g l.first
grown an_and g l = with_and g (and_of l)

abbrev pub more : Kind → List ℕ → Literals → List ℕ
more an_input before l = var_of l.first ∷ before
more an_output before l = before
more an_and before l = var_of l.first ∷ before

pub record State (h : Header) (w₀ : List ℕ) (k : ℕ) (w : List ℕ) (before : List ℕ) (g : Graph) : Type 0 where
  pub represented : Loaded w₀ h.size w g (0 ∷ g.inputs)
  pub known : (v : ℕ) → v ≤ h.size → (v ≡ 0 → ⊥) → elem v before ≡ not (eqb (kind_at w h.size v) undefined_kind)
  pub ins : length g.inputs ≡ min k h.inputs
  pub outs : length g.outputs ≡ min (k - h.inputs) h.outputs
  pub gates : length g.ands ≡ k - (h.inputs + h.outputs)
  pub small : Within h.size (0 ∷ g.inputs)
  pub sure : (a : And) → Memᴰ a g.ands → Sure h.size g a

-- what is defined, with v more
module _ (w₀ : List ℕ) (m : ℕ) (w x : List ℕ) (g g' : Graph) (o o' : List ℕ) (before : List ℕ) (v c : ℕ) (represented : Loaded w₀ m w g o) (then : Loaded w₀ m x g' o')
    (known : (u : ℕ) → u ≤ m → (u ≡ 0 → ⊥) → elem u before ≡ not (eqb (kind_at w m u) undefined_kind)) where
  known_more : kind_of (node g' v) ≡ suc c → ((u : ℕ) → (u ≡ v → ⊥) → node g' u ≡ node g u)
      → (u : ℕ) → u ≤ m → (u ≡ 0 → ⊥) → elem u (v ∷ before) ≡ not (eqb (kind_at x m u) undefined_kind)
  unfolding elem any
  known_more n other u l d = by_eqb u v
      (λ e.
      let k : kind_at x m u ≡ suc c = then.kinds u l ∙ ap (λ (y : ℕ). kind_of (node g' y)) e ∙ n in
      rw (eq-eqb u v e, ne_eqb (kind_at x m u) undefined_kind (λ z. omega arith)))
      (λ e.
      let k : kind_at x m u ≡ kind_at w m u = then.kinds u l ∙ ap kind_of (other u e) ∙ sym (represented.kinds u l) in
      rw (ne_eqb u v e, k) (known u l d))

  known_same : ((u : ℕ) → node g' u ≡ node g u) → (u : ℕ) → u ≤ m → (u ≡ 0 → ⊥) → elem u before ≡ not (eqb (kind_at x m u) undefined_kind)
  known_same other u l d =
      let k : kind_at x m u ≡ kind_at w m u = then.kinds u l ∙ ap kind_of (other u) ∙ sym (represented.kinds u l) in
      rw k (known u l d)

sure_other : (m : ℕ) (g g' : Graph) (a : And) (v : ℕ) → Free g v → ((u : ℕ) → (u ≡ v → ⊥) → node g' u ≡ node g u) → node g v ≡ undefined → Sure m g a → Sure m g' a
sure_other m g g' a v free other nil s =
    let d : (a.var ≡ v) → ⊥ = λ e. let q : both a.left a.right ≡ undefined = sym s.node ∙ ap (node g) e ∙ nil in let z : ◌≡◌ {A = ℕ} 0 1 = cc in omega arith in
    record { var = s.var; node = other a.var d ∙ s.node; left = s.left; right = s.right }

-- ---- one line more

module _ (h : Header) (w₀ : List ℕ) (fit : Fit h w₀) (k : ℕ) (w : List ℕ) (before : List ℕ) (g : Graph) (st : State h w₀ k w before g) (l : Literals) where
  capacity : HasCapacity w h.size
  capacity = record { small = fit.capacity.small; capacity = omega (arith, fit.capacity.capacity, st.represented.long) }

  few : length (0 ∷ g.inputs) ≤ suc h.size
  few = omega (arith, st.ins, fit.lines)

  module _ (new : Fresh h.size w l) where
    inside : l.first / 2 ≤ h.size
    inside = omega (arith, new.fit.first)

    undef : node g (l.first / 2) ≡ undefined
    undef = kind-none (node g (l.first / 2)) (sym (st.represented.kinds (l.first / 2) inside) ∙ new.none)

    free : Free g (l.first / 2)
    free = free-node g (l.first / 2) undef

    input-node : Loaded w₀ h.size (put_node w h.size (l.first / 2) input_kind 0 0) (with_input g (l.first / 2)) (0 ∷ g.inputs)
    input-node =
        let e = input_new g (l.first / 2) free in
        node-holds w₀ h.size w g (0 ∷ g.inputs) capacity few st.small st.represented (l.first / 2) input_kind 0 0 (with_input g (l.first / 2)) inside refl (ap kind_of e) (ap left_of e) (ap right_of e) (input_other g (l.first / 2))

    input-ordered : k < h.inputs → Loaded w₀ h.size (stored_input w h.size k (l.first / 2)) (with_input g (l.first / 2)) (0 ∷ g.inputs ++ (l.first / 2 ∷ []))
    unfolding stored_input
    input-ordered b =
        let slot : length (0 ∷ g.inputs) ≡ k + 1 = omega (arith, st.ins) in
        let capacity' : HasCapacity (put_node w h.size (l.first / 2) input_kind 0 0) h.size = record { small = fit.capacity.small; capacity = omega (arith, fit.capacity.capacity, input-node.long) } in
        subst (λ (i : ℕ). Loaded w₀ h.size (put_ordered (put_node w h.size (l.first / 2) input_kind 0 0) h.size i (l.first / 2)) (with_input g (l.first / 2)) (0 ∷ g.inputs ++ (l.first / 2 ∷ []))) slot
        (position_holds w₀ h.size (put_node w h.size (l.first / 2) input_kind 0 0) (with_input g (l.first / 2)) (0 ∷ g.inputs) capacity' st.small input-node (l.first / 2) inside (omega (arith, fit.lines)) (free-ordered g (l.first / 2) free))

    input-more : k < h.inputs → State h w₀ (k + 1) (stored_input w h.size k (l.first / 2)) (var_of l.first ∷ before) (with_input g (l.first / 2))
    unfolding var_of
    input-more b = record {
      represented = input-ordered b;
      known = known_more w₀ h.size w (stored_input w h.size k (l.first / 2)) g (with_input g (l.first / 2)) (0 ∷ g.inputs) (0 ∷ g.inputs ++ (l.first / 2 ∷ [])) before (l.first / 2) 1 st.represented (input-ordered b) st.known
          (ap kind_of (input_new g (l.first / 2) free)) (input_other g (l.first / 2));
      ins = omega (arith, length-append g.inputs (l.first / 2 ∷ []), st.ins);
      outs = omega (arith, st.outs);
      gates = omega (arith, st.gates);
      small = within_snoc h.size (0 ∷ g.inputs) (l.first / 2) inside st.small;
      sure = λ a n. sure_other h.size g (with_input g (l.first / 2)) a (l.first / 2) free (input_other g (l.first / 2)) undef (st.sure a n);
    }

    and-node : Loaded w₀ h.size (put_node w h.size (l.first / 2) and_kind l.left l.right) (with_and g (and_of l)) (0 ∷ g.inputs)
    and-node =
        let e = and_new g (and_of l) free in
        node-holds w₀ h.size w g (0 ∷ g.inputs) capacity few st.small st.represented (l.first / 2) and_kind l.left l.right (with_and g (and_of l)) inside refl (ap kind_of e) (ap left_of e) (ap right_of e) (and_other g (and_of l))

    and-sure : (a : And) → Memᴰ a g.ands ⊎ Memᴰ a (and_of l ∷ []) → Sure h.size (with_and g (and_of l)) a
    and-sure a (inl n) = sure_other h.size g (with_and g (and_of l)) a (l.first / 2) free (and_other g (and_of l)) undef (st.sure a n)
    and-sure a (inr n) =
        subst (Sure h.size (with_and g (and_of l))) (sym (Memᴰ-eq_of_singleton n))
        (record { var = inside; node = and_new g (and_of l) free; left = new.fit.left; right = new.fit.right })

    and-more : h.inputs + h.outputs ≤ k → State h w₀ (k + 1) (put_node w h.size (l.first / 2) and_kind l.left l.right) (var_of l.first ∷ before) (with_and g (and_of l))
    unfolding var_of
    and-more b = record {
      represented = and-node;
      known = known_more w₀ h.size w (put_node w h.size (l.first / 2) and_kind l.left l.right) g (with_and g (and_of l)) (0 ∷ g.inputs) (0 ∷ g.inputs) before (l.first / 2) 2 st.represented and-node st.known
          (ap kind_of (and_new g (and_of l) free)) (and_other g (and_of l));
      ins = omega (arith, st.ins);
      outs = omega (arith, st.outs);
      gates = omega (arith, length-append g.ands (and_of l ∷ []), st.gates);
      small = st.small;
      sure = λ a n. and-sure a (Memᴰ-append_cases g.ands n);
    }

  output-stored : h.inputs ≤ k → k < h.inputs + h.outputs → Loaded w₀ h.size (put_at w (output_addr h.size (k - h.inputs)) (l.first ∷ [])) (with_output g l.first) (0 ∷ g.inputs)
  output-stored a b =
      let i : length g.outputs ≡ k - h.inputs = omega (arith, st.outs) in
      subst (λ (j : ℕ). Loaded w₀ h.size (put_at w (output_addr h.size j) (l.first ∷ [])) (with_output g l.first) (0 ∷ g.inputs)) i
      (output-holds w₀ h.size w g (0 ∷ g.inputs) capacity few st.small st.represented l.first (with_output g l.first) (omega (arith, fit.capacity.capacity, st.represented.long)) refl (output-node g l.first))

  sure-output : (a : And) → Sure h.size g a → Sure h.size (with_output g l.first) a
  sure-output a s = record { var = s.var; node = output-node g l.first a.var ∙ s.node; left = s.left; right = s.right }

  output-more : h.inputs ≤ k → k < h.inputs + h.outputs → State h w₀ (k + 1) (put_at w (output_addr h.size (k - h.inputs)) (l.first ∷ [])) before (with_output g l.first)
  output-more a b = record {
    represented = output-stored a b;
    known = known_same w₀ h.size w (put_at w (output_addr h.size (k - h.inputs)) (l.first ∷ [])) g (with_output g l.first) (0 ∷ g.inputs) (0 ∷ g.inputs) before 0 0 st.represented (output-stored a b) st.known (output-node g l.first);
    ins = omega (arith, st.ins);
    outs = omega (arith, length-append g.outputs (l.first ∷ []), st.outs);
    gates = omega (arith, st.gates);
    small = st.small;
    sure = λ x n. sure-output x (st.sure x n);
  }

  -- whichever line is expected
  pub state_more : k < expected_count h → literals_fit h.size l ≡ true → is_already_defined w h.size (expected_code h k) l.first ≡ false
      → State h w₀ (k + 1) (stored_line w h k l) (more (expected_kind_value h k) before l) (grown (expected_kind_value h k) g l)
  unfolding stored_line
  state_more b f t = go (ltb k h.inputs) (ltb k (h.inputs + h.outputs)) refl refl
    where
      go : (x y : Bool) → ltb k h.inputs ≡ x → ltb k (h.inputs + h.outputs) ≡ y
          → State h w₀ (k + 1) (stored_line w h k l) (more (expected_kind_value h k) before l) (grown (expected_kind_value h k) g l)
      go true y p q =
          let d : eqb (expected_code h k) undefined_kind ≡ false = rw p in
          rw p (input-more (fresh h.size w (expected_code h k) l d f t) (ltb-true k h.inputs p))
      go false true p q = rw (p, q) (output-more (ltb-false k h.inputs p) (ltb-true k (h.inputs + h.outputs) q))
      go false false p q =
          let d : eqb (expected_code h k) undefined_kind ≡ false = rw (p, q) in
          rw (p, q) (and-more (fresh h.size w (expected_code h k) l d f t) (ltb-false k (h.inputs + h.outputs) q))

-- before the first line
pub state_first : (h : Header) (w : List ℕ) → Fit h w → State h w 0 (opened w h.size) [] (nothing h.size)
unfolding elem any
state_first h w fit =
    let capacity : HasCapacity w h.size = record { small = fit.capacity.small; capacity = omega (arith, fit.capacity.capacity) } in
    let represented = opened-holds w h.size capacity in
    record {
      represented = represented;
      known = λ v l d. let k : kind_at (opened w h.size) h.size v ≡ undefined_kind = represented.kinds v l ∙ ap kind_of (none_yet v d) in rw k;
      ins = omega arith;
      outs = omega arith;
      gates = omega arith;
      small = λ i l. let z : i ≡ 0 = omega arith in rw z (omega arith);
      sure = λ a n. absurd (Memᴰ-not-nil n);
    }
  where
    none_yet : (v : ℕ) → (v ≡ 0 → ⊥) → node (nothing h.size) v ≡ undefined
    none_yet v d = node-none h.size v d
