-- A graph that grows by a line, and the words that hold it:
--     node-holds, output-holds     the words hold it with a node or an output more
--     input_new, input_other, and_new, and_other, output-node     its nodes with a line more
--     opened-holds     nothing but variable 0 at first
use Rattle.base.specs.{◌≡◌, refl, sym, ap, ◌∙◌, Bool, true, false, cond, List, [], ◌∷◌, ◌++◌, Memᴰ, Memᴰ-head, Memᴰ-tail}
use Rattle.base.specs.{Memᴰ-not-nil, Memᴰ-append_right, ℕ, suc, ◌+◌, ◌≤◌, ◌<◌, arith, eqb, length, get_or, get_or-append}
use Rattle.base.specs.{length-append, length-replicate, get_or-append_seam, eqb-false, eq-eqb, ne_eqb}
use Rattle.model.specs.{elem, any, And, Node, constant, input, undefined, both, find_and, node}
use Rattle.model.specs.Graph.{Graph}
use Rattle.theory_graph.proofs.{by_eqb, elem_in}
use Rattle.base_words.specs.{put_at, zeros, HasCapacity, undefined_kind, constant_kind, kind_addr, left_addr, right_addr, slot_addr, position_addr, lists_from}
use Rattle.base_words.specs.{output_addr, kind_at, left_at, right_at, slot_at, position_at, output_at, put_node}
use Rattle.base_words.proofs.{length-put, get_put-above, word-put, word-apart, zero-put, node-length, node-apart}
use Rattle.graph_order.specs.{kind_of, left_of, right_of, Within, InOrder}
use Rattle.graph_order.specs.LoadedWords.{Loaded}
use Rattle.graph_order.proofs.{elem_snoc, position_holds}
use Rattle.graph_loading.specs.{opened}

-- ---- the words of a node that was stored

module _ (w : List ℕ) (m v k l r : ℕ) (fits : HasCapacity w m) (within : v ≤ m) where
  one-long : length (put_at w (kind_addr m v) (k ∷ [])) ≡ length w
  one-long = length-put w (kind_addr m v) (k ∷ []) (omega (arith, fits.capacity))

  two-long : length (put_at (put_at w (kind_addr m v) (k ∷ [])) (left_addr m v) (l ∷ [])) ≡ length w
  two-long = length-put (put_at w (kind_addr m v) (k ∷ [])) (left_addr m v) (l ∷ []) (omega (arith, fits.capacity, one-long)) ∙ one-long

  kind-stored : kind_at (put_node w m v k l r) m v ≡ k
  unfolding put_node
  kind-stored =
      word-apart (put_at (put_at w (kind_addr m v) (k ∷ [])) (left_addr m v) (l ∷ [])) (right_addr m v) r (omega (arith, fits.capacity, two-long)) (kind_addr m v) (omega arith)
      ∙ word-apart (put_at w (kind_addr m v) (k ∷ [])) (left_addr m v) l (omega (arith, fits.capacity, one-long)) (kind_addr m v) (omega arith)
      ∙ word-put w (kind_addr m v) k (omega (arith, fits.capacity))

  left-stored : left_at (put_node w m v k l r) m v ≡ l
  unfolding put_node
  left-stored =
      word-apart (put_at (put_at w (kind_addr m v) (k ∷ [])) (left_addr m v) (l ∷ [])) (right_addr m v) r (omega (arith, fits.capacity, two-long)) (left_addr m v) (omega arith)
      ∙ word-put (put_at w (kind_addr m v) (k ∷ [])) (left_addr m v) l (omega (arith, fits.capacity, one-long))

  right-stored : right_at (put_node w m v k l r) m v ≡ r
  unfolding put_node
  right-stored = word-put (put_at (put_at w (kind_addr m v) (k ∷ [])) (left_addr m v) (l ∷ [])) (right_addr m v) r (omega (arith, fits.capacity, two-long))

-- the order is as before where its words are
pub in_order-same : (w x : List ℕ) (m : ℕ) (order : List ℕ) → ((i : ℕ) → i ≤ m → slot_at x m i ≡ slot_at w m i) → ((v : ℕ) → v ≤ m → position_at x m v ≡ position_at w m v)
    → length order ≤ suc m → Within m order → InOrder w m order → InOrder x m order
in_order-same w x m order s p few small o = record {
  slots = λ i h. s i (omega arith) ∙ o.slots i h;
  empty = λ i h k. s i k ∙ o.empty i h k;
  places = λ i h. p (get_or order i 0) (small i h) ∙ o.places i h;
  waiting = λ v h n. p v h ∙ o.waiting v h n;
}

-- ---- the words of a graph, with a node more

module _ (w₀ : List ℕ) (m : ℕ) (w : List ℕ) (g : Graph) (order : List ℕ) (fits : HasCapacity w m) (few : length order ≤ suc m) (small : Within m order) (represented : Loaded w₀ m w g order) where
  pub node-holds : (v k l r : ℕ) (g' : Graph) → v ≤ m → g'.outputs ≡ g.outputs → kind_of (node g' v) ≡ k → left_of (node g' v) ≡ l → right_of (node g' v) ≡ r
      → ((u : ℕ) → (u ≡ v → ⊥) → node g' u ≡ node g u) → Loaded w₀ m (put_node w m v k l r) g' order
  node-holds v k l r g' within same ek el er other =
      let apart = node-apart w m v k l r fits within in
      record {
        long = node-length w m v k l r fits within ∙ represented.long;
        kinds = λ u h. by_eqb u v
            (λ e. ap (kind_at (put_node w m v k l r) m) e ∙ kind-stored w m v k l r fits within ∙ sym ek ∙ ap (λ (x : ℕ). kind_of (node g' x)) (sym e))
            (λ d. apart (kind_addr m u) (omega arith) (omega arith) (omega arith) ∙ represented.kinds u h ∙ ap kind_of (sym (other u d)));
        lefts = λ u h. by_eqb u v
            (λ e. ap (left_at (put_node w m v k l r) m) e ∙ left-stored w m v k l r fits within ∙ sym el ∙ ap (λ (x : ℕ). left_of (node g' x)) (sym e))
            (λ d. apart (left_addr m u) (omega arith) (omega arith) (omega arith) ∙ represented.lefts u h ∙ ap left_of (sym (other u d)));
        rights = λ u h. by_eqb u v
            (λ e. ap (right_at (put_node w m v k l r) m) e ∙ right-stored w m v k l r fits within ∙ sym er ∙ ap (λ (x : ℕ). right_of (node g' x)) (sym e))
            (λ d. apart (right_addr m u) (omega arith) (omega arith) (omega arith) ∙ represented.rights u h ∙ ap right_of (sym (other u d)));
        in_order = in_order-same w (put_node w m v k l r) m order
            (λ i h. apart (slot_addr m i) (omega arith) (omega arith) (omega arith))
            (λ u h. apart (position_addr m u) (omega arith) (omega arith) (omega arith)) few small represented.in_order;
        zero = λ a b e. apart a (omega arith) (omega arith) (omega arith) ∙ represented.zero a b e;
        others = λ a b e. apart a (omega arith) (omega arith) (omega arith) ∙ represented.others a b e;
        outs = λ i h. apart (output_addr m i) (omega arith) (omega arith) (omega arith) ∙ represented.outs i (omega (arith, ap length same)) ∙ ap (λ (xs : List ℕ). get_or xs i 0) (sym same);
        behind = λ a b. apart a (omega (arith, ap length same)) (omega (arith, ap length same)) (omega (arith, ap length same)) ∙ represented.behind a (omega (arith, ap length same));
      }

  -- with an output more
  pub output-holds : (x : ℕ) (g' : Graph) → output_addr m (length g.outputs) < length w → g'.outputs ≡ g.outputs ++ (x ∷ []) → ((u : ℕ) → node g' u ≡ node g u)
      → Loaded w₀ m (put_at w (output_addr m (length g.outputs)) (x ∷ [])) g' order
  output-holds x g' capacity grown same =
      let apart = word-apart w (output_addr m (length g.outputs)) x capacity in
      let more : length g'.outputs ≡ length g.outputs + 1 = ap length grown ∙ length-append g.outputs (x ∷ []) in
      record {
        long = length-put w (output_addr m (length g.outputs)) (x ∷ []) (omega arith) ∙ represented.long;
        kinds = λ u h. apart (kind_addr m u) (omega arith) ∙ represented.kinds u h ∙ ap kind_of (sym (same u));
        lefts = λ u h. apart (left_addr m u) (omega arith) ∙ represented.lefts u h ∙ ap left_of (sym (same u));
        rights = λ u h. apart (right_addr m u) (omega arith) ∙ represented.rights u h ∙ ap right_of (sym (same u));
        in_order = in_order-same w (put_at w (output_addr m (length g.outputs)) (x ∷ [])) m order
            (λ i h. apart (slot_addr m i) (omega arith)) (λ u h. apart (position_addr m u) (omega arith)) few small represented.in_order;
        zero = λ a b e. apart a (omega arith) ∙ represented.zero a b e;
        others = λ a b e. apart a (omega arith) ∙ represented.others a b e;
        outs = λ i h. by_eqb i (length g.outputs)
            (λ e. ap (output_at (put_at w (output_addr m (length g.outputs)) (x ∷ [])) m) e ∙ word-put w (output_addr m (length g.outputs)) x capacity
            ∙ sym (ap (λ (xs : List ℕ). get_or xs i 0) grown ∙ ap (λ (j : ℕ). get_or (g.outputs ++ (x ∷ [])) j 0) e ∙ get_or-append_seam g.outputs x [] 0))
            (λ d. apart (output_addr m i) (omega arith) ∙ represented.outs i (omega arith)
            ∙ sym (ap (λ (xs : List ℕ). get_or xs i 0) grown ∙ get_or-append g.outputs (x ∷ []) 0 i (omega arith)));
        behind = λ a b. apart a (omega arith) ∙ represented.behind a (omega arith);
      }

-- ---- a graph with a line more

abbrev pub with_input : Graph → ℕ → Graph
with_input g v = record { size = g.size; inputs = g.inputs ++ (v ∷ []); outputs = g.outputs; ands = g.ands; input_arrival = g.input_arrival }

abbrev pub with_output : Graph → ℕ → Graph
with_output g l = record { size = g.size; inputs = g.inputs; outputs = g.outputs ++ (l ∷ []); ands = g.ands; input_arrival = g.input_arrival }

abbrev pub with_and : Graph → And → Graph
with_and g a = record { size = g.size; inputs = g.inputs; outputs = g.outputs; ands = g.ands ++ (a ∷ []); input_arrival = g.input_arrival }

find_snoc : (u : ℕ) (a : And) (as' : List And) → (u ≡ a.var → ⊥) → find_and u (as' ++ (a ∷ [])) ≡ find_and u as'
unfolding find_and
find_snoc u a [] d = rw (ne_eqb u a.var d)
find_snoc u a (x ∷ as') d = rw (find_snoc u a as' d)

both_undefined : {l r : ℕ} → both l r ≡ undefined → ⊥
both_undefined {l} {r} e = let z : ◌≡◌ {A = ℕ} 0 1 = cc in omega arith

find_new : (a : And) (as' : List And) → find_and a.var as' ≡ undefined → find_and a.var (as' ++ (a ∷ [])) ≡ both a.left a.right
unfolding find_and
find_new a [] e = rw (eq-eqb a.var a.var refl)
find_new a (x ∷ as') e = go (eqb a.var x.var) refl e (find_new a as')
  where
    go : (t : Bool) → eqb a.var x.var ≡ t → cond t (both x.left x.right) (find_and a.var as') ≡ undefined
        → (find_and a.var as' ≡ undefined → find_and a.var (as' ++ (a ∷ [])) ≡ both a.left a.right)
        → cond (eqb a.var x.var) (both x.left x.right) (find_and a.var (as' ++ (a ∷ []))) ≡ both a.left a.right
    go true q h more = absurd (both_undefined h)
    go false q h more = rw q (more h)

-- a variable that is nothing yet
pub record Free (g : Graph) (v : ℕ) : Type 0 where
  pub nonzero : v ≡ 0 → ⊥
  pub no_input : elem v g.inputs ≡ false
  pub no_and : find_and v g.ands ≡ undefined

pub free-node : (g : Graph) (v : ℕ) → node g v ≡ undefined → Free g v
unfolding node
free-node g v e = go (eqb v 0) (elem v g.inputs) refl refl e
  where
    go : (t u : Bool) → eqb v 0 ≡ t → elem v g.inputs ≡ u → cond t constant (cond u input (find_and v g.ands)) ≡ undefined → Free g v
    go true u x y h = let z : ◌≡◌ {A = ℕ} 0 1 = cc in absurd (omega arith)
    go false true x y h = let z : ◌≡◌ {A = ℕ} 0 1 = cc in absurd (omega arith)
    go false false x y h = record { nonzero = eqb-false v 0 x; no_input = y; no_and = h }

pub kind-none : (n : Node) → kind_of n ≡ undefined_kind → n ≡ undefined
kind-none constant e = absurd (omega arith)
kind-none input e = absurd (omega arith)
kind-none undefined e = refl
kind-none (both l r) e = absurd (omega arith)

module _ (g : Graph) (v : ℕ) where
  pub input_new : Free g v → node (with_input g v) v ≡ input
  unfolding node
  input_new f = rw (ne_eqb v 0 f.nonzero, elem_in v (g.inputs ++ (v ∷ [])) (Memᴰ-append_right g.inputs (Memᴰ-head refl)))

  pub input_other : (u : ℕ) → (u ≡ v → ⊥) → node (with_input g v) u ≡ node g u
  unfolding node
  input_other u d = rw (elem_snoc u v g.inputs d)

  pub free-ordered : Free g v → ¬ Memᴰ v (0 ∷ g.inputs)
  free-ordered f (Memᴰ-head e) = f.nonzero e
  free-ordered f (Memᴰ-tail n) = let z : ◌≡◌ {A = Bool} true false = sym (elem_in v g.inputs n) ∙ f.no_input in let y : ◌≡◌ {A = ℕ} 0 1 = cc in omega arith

module _ (g : Graph) (a : And) where
  pub and_new : Free g a.var → node (with_and g a) a.var ≡ both a.left a.right
  unfolding node
  and_new f = rw (ne_eqb a.var 0 f.nonzero, f.no_input) (find_new a g.ands f.no_and)

  pub and_other : (u : ℕ) → (u ≡ a.var → ⊥) → node (with_and g a) u ≡ node g u
  unfolding node
  and_other u d = rw (find_snoc u a g.ands d)

pub output-node : (g : Graph) (l u : ℕ) → node (with_output g l) u ≡ node g u
unfolding node
output-node g l u = refl

-- ---- nothing but variable 0

abbrev pub nothing : ℕ → Graph
nothing m = record { size = m; inputs = []; outputs = []; ands = []; input_arrival = λ _. 0 }

node-zero : (m : ℕ) → node (nothing m) 0 ≡ constant
unfolding node
node-zero m = refl

pub node-none : (m v : ℕ) → (v ≡ 0 → ⊥) → node (nothing m) v ≡ undefined
unfolding node elem any find_and
node-none m v d = rw (ne_eqb v 0 d)

module _ (w : List ℕ) (m : ℕ) (fits : HasCapacity w m) where
  cleared : List ℕ
  cleared = put_at w 0 (zeros (lists_from m))

  cleared_long : length cleared ≡ length w
  unfolding cleared
  cleared_long = length-put w 0 (zeros (lists_from m)) (omega (arith, fits.capacity, length-replicate {A = ℕ} (lists_from m) 0))

  clear_fits : HasCapacity cleared m
  clear_fits = record { small = fits.small; capacity = omega (arith, fits.capacity, cleared_long) }

  clear_zero : (a : ℕ) → a < lists_from m → get_or cleared a 0 ≡ 0
  unfolding cleared
  clear_zero a h = zero-put w 0 (lists_from m) (omega (arith, fits.capacity)) a (omega arith) (omega arith)

  clear_apart : (a : ℕ) → lists_from m ≤ a → get_or cleared a 0 ≡ get_or w a 0
  unfolding cleared
  clear_apart a h = get_put-above w 0 (zeros (lists_from m)) (omega (arith, fits.capacity, length-replicate {A = ℕ} (lists_from m) 0)) a (omega (arith, length-replicate {A = ℕ} (lists_from m) 0))

  first : List ℕ
  first = put_node cleared m 0 constant_kind 0 0

  first-apart : (a : ℕ) → (a ≡ kind_addr m 0 → ⊥) → (a ≡ left_addr m 0 → ⊥) → (a ≡ right_addr m 0 → ⊥) → get_or first a 0 ≡ get_or cleared a 0
  unfolding first
  first-apart = node-apart cleared m 0 constant_kind 0 0 clear_fits (omega arith)

  first-long : length first ≡ length w
  unfolding first
  first-long = node-length cleared m 0 constant_kind 0 0 clear_fits (omega arith) ∙ cleared_long

  first_fits : HasCapacity first m
  first_fits = record { small = fits.small; capacity = omega (arith, fits.capacity, first-long) }

  first_kind : kind_at first m 0 ≡ constant_kind
  unfolding first
  first_kind = kind-stored cleared m 0 constant_kind 0 0 clear_fits (omega arith)

  first-left : left_at first m 0 ≡ 0
  unfolding first
  first-left = left-stored cleared m 0 constant_kind 0 0 clear_fits (omega arith)

  first-right : right_at first m 0 ≡ 0
  unfolding first
  first-right = right-stored cleared m 0 constant_kind 0 0 clear_fits (omega arith)

  first-order : InOrder first m []
  first-order = record {
    slots = λ i h. absurd (omega arith);
    empty = λ i h k. first-apart (slot_addr m i) (omega arith) (omega arith) (omega arith) ∙ clear_zero (slot_addr m i) (omega arith);
    places = λ i h. absurd (omega arith);
    waiting = λ v h n. first-apart (position_addr m v) (omega arith) (omega arith) (omega arith) ∙ clear_zero (position_addr m v) (omega arith);
  }

  first_holds : Loaded w m first (nothing m) []
  first_holds = record {
    long = first-long;
    kinds = λ v h. by_eqb v 0
        (λ e. ap (kind_at first m) e ∙ first_kind ∙ sym (ap (λ (x : ℕ). kind_of (node (nothing m) x)) e ∙ ap kind_of (node-zero m)))
        (λ d. first-apart (kind_addr m v) d (omega arith) (omega arith) ∙ clear_zero (kind_addr m v) (omega arith) ∙ ap kind_of (sym (node-none m v d)));
    lefts = λ v h. by_eqb v 0
        (λ e. ap (left_at first m) e ∙ first-left ∙ sym (ap (λ (x : ℕ). left_of (node (nothing m) x)) e ∙ ap left_of (node-zero m)))
        (λ d. first-apart (left_addr m v) (omega arith) (omega arith) (omega arith) ∙ clear_zero (left_addr m v) (omega arith) ∙ ap left_of (sym (node-none m v d)));
    rights = λ v h. by_eqb v 0
        (λ e. ap (right_at first m) e ∙ first-right ∙ sym (ap (λ (x : ℕ). right_of (node (nothing m) x)) e ∙ ap right_of (node-zero m)))
        (λ d. first-apart (right_addr m v) (omega arith) (omega arith) (omega arith) ∙ clear_zero (right_addr m v) (omega arith) ∙ ap right_of (sym (node-none m v d)));
    in_order = first-order;
    zero = λ a b e. first-apart a (omega arith) (omega arith) (omega arith) ∙ clear_zero a e;
    others = λ a b e. first-apart a (omega arith) (omega arith) (omega arith) ∙ clear_apart a b;
    outs = λ i h. absurd (omega arith);
    behind = λ a b. first-apart a (omega arith) (omega arith) (omega arith) ∙ clear_apart a (omega arith);
  }

  pub opened-holds : Loaded w m (opened w m) (nothing m) (0 ∷ [])
  unfolding opened first cleared
  opened-holds = position_holds w m first (nothing m) [] first_fits (λ i h. absurd (omega arith)) first_holds 0 (omega arith) (omega arith) Memᴰ-not-nil
