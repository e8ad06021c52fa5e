-- Ordering the ANDs is the crate model's topological order:
--     ready-and        an AND is ready by the words just where it is by the model
--     order_law        the slots that are filled hold `order_from`
--     order-verdict    `order_graph` answers `order_verdict`
--     ordering_law        and the words hold `topological_order`
--     holds-nodes      the words hold the graph's nodes, as the layers above ask
use Rattle.std.specs.Prelude.{Ok}
use Rattle.model.specs.{refused_with}
use Rattle.base.specs.{◌≡◌, refl, sym, ap, ◌∙◌, subst, Bool, true, false, not, None, Some, List, [], ◌∷◌, ◌++◌, map, append-nil, Memᴰ}
use Rattle.base.specs.{Memᴰ-head, Memᴰ-tail, Memᴰ-append_right, ℕ, zero, suc, ◌+◌, ◌-◌, ◌*◌, ◌/◌, ◌≤◌, ◌<◌, arith, T, eqb, leb}
use Rattle.base.specs.{length, get_or, length-append, append_snoc, eq-eqb, ne_eqb, leb-true, leb-false}
use Rattle.model.specs.{elem, any, keep, lowest, refused_at, And, Node, constant, input, undefined, both, node, var_of, ready, and_on, order_from}
use Rattle.model.specs.{topological_order, unordered, order_verdict}
use Rattle.model.specs.Graph.{Graph}
use Rattle.model.specs.declared.Header.{Header}
use Rattle.theory_graph.proofs.{by_eqb, elem_in, elem_out, map_in, map_out, keep_in, keep_out, is_true, Found, node-and}
use Rattle.base_words.specs.{HasCapacity, constant_kind, and_kind, kind_at, left_at, right_at, position_at, node_of, node_at}
use Rattle.graph_order.specs.{Fit, kind_of, left_of, right_of, InOrder, Within, Sure, LoadedGraph, put_ordered, Operands, is_waiting}
use Rattle.graph_order.specs.{is_ordered, is_ready, seek, waiting_from, next_and, order_words, order_low, ordered_words, ordered_verdict}
use Rattle.graph_order.specs.{pick_verdict}
use Rattle.graph_order.specs.LoadedWords.{Loaded}
use Rattle.graph_order.proofs.OrderSlots.{fit-capacity, position_holds, elem_snoc, within_snoc}
use Rattle.graph_order.proofs.ReadySearch.{seek-under, seek_found, seek-lowest, seek-nothing}
use Rattle.graph_order.proofs.OrderedWords.{waits-kind, waits_position, waiting-is, ready-is-seek, waiting_to, waits_less, ready-waits}
use Rattle.graph_order.proofs.OrderedWords.{not-ready, order-on, order_off, order-end}

-- ---- which variables are ordered

pub mem_index : (xs : List ℕ) (u : ℕ) → Memᴰ u xs → (i : ℕ) × (i < length xs) × (get_or xs i 0 ≡ u)
mem_index (x ∷ xs) u (Memᴰ-head e) = (0, omega arith, sym e)
mem_index (x ∷ xs) u (Memᴰ-tail n) = let r = mem_index xs u n in (suc r.0, omega (arith, r.1), r.2)
mem_index [] u x' = elim x' [ ]

not-elem : (u : ℕ) (xs : List ℕ) → elem u xs ≡ false → ¬ Memᴰ u xs
not-elem u xs e n = let t : elem u xs ≡ true = elem_in u xs n in let z : ◌≡◌ {A = ℕ} 0 1 = cc in omega arith

ordered_word : (w : List ℕ) (m : ℕ) (order : List ℕ) → InOrder w m order → (u : ℕ) → u ≤ m → not (eqb (position_at w m u) 0) ≡ elem u order
ordered_word w m order o u l = go (elem u order) refl
  where
    go : (t : Bool) → elem u order ≡ t → not (eqb (position_at w m u) 0) ≡ elem u order
    go true e =
        let i = mem_index order u (elem_out u order e) in
        let p : position_at w m u ≡ i.0 + 1 = ap (position_at w m) (sym i.2) ∙ o.places i.0 i.1 in
        rw (ne_eqb (position_at w m u) 0 (λ z. omega arith), e)
    go false e = let p : position_at w m u ≡ 0 = o.waiting u l (not-elem u order e) in rw (p, e)

not-not : (t u : Bool) → not t ≡ u → t ≡ not u
not-not true u e = ap not e
not-not false u e = ap not e

-- ---- an AND, by the words and by the model

module _ (w₀ : List ℕ) (m : ℕ) (g : Graph) (sure : (a : And) → Memᴰ a g.ands → Sure m g a) (w : List ℕ) (order : List ℕ) (represented : Loaded w₀ m w g order) where
  and-kind : (a : And) → Memᴰ a g.ands → kind_at w m a.var ≡ and_kind
  and-kind a n = represented.kinds a.var (sure a n).var ∙ ap kind_of (sure a n).node

  waiting-and : (a : And) → Memᴰ a g.ands → is_waiting w m a.var ≡ not (elem a.var order)
  unfolding is_waiting
  waiting-and a n = rw (and-kind a n) (not-not (eqb (position_at w m a.var) 0) (elem a.var order) (ordered_word w m order represented.in_order a.var (sure a n).var))

  operand : (l : ℕ) → l ≤ 2 * m + 1 → is_ordered w m l ≡ elem (var_of l) order
  unfolding is_ordered var_of
  operand l b = ordered_word w m order represented.in_order (l / 2) (omega arith)

  ready-and : (ordered : List ℕ) → ((u : ℕ) → elem u ordered ≡ elem u order) → (a : And) → Memᴰ a g.ands → is_ready w m a.var ≡ ready ordered a
  unfolding is_ready ready
  ready-and ordered same a n =
      let s = sure a n in let l : left_at w m a.var ≡ a.left = represented.lefts a.var s.var ∙ ap left_of s.node in
      let r : right_at w m a.var ≡ a.right = represented.rights a.var s.var ∙ ap right_of s.node in
      rw (waiting-and a n, l, r, operand a.left s.left, operand a.right s.right, same a.var, same (var_of a.left), same (var_of a.right))

  -- a variable of an AND's kind is an AND's
  kind-both : (n : Node) → kind_of n ≡ and_kind → n ≡ both (left_of n) (right_of n)
  kind-both constant e = absurd (omega arith)
  kind-both input e = absurd (omega arith)
  kind-both undefined e = absurd (omega arith)
  kind-both (both l r) e = refl

  and_of_lem : (u : ℕ) → u ≤ m → kind_at w m u ≡ and_kind → Found g.ands u (left_of (node g u)) (right_of (node g u))
  and_of_lem u l e = node-and g u (left_of (node g u)) (right_of (node g u)) (kind-both (node g u) (sym (represented.kinds u l) ∙ e))

  -- the ANDs that are ready
  module _ (ordered : List ℕ) (same : (u : ℕ) → elem u ordered ≡ elem u order) where
    readies : List ℕ
    readies = map (λ (a : And). a.var) (keep (ready ordered) g.ands)

    ready_in : (u : ℕ) → u ≤ m → is_ready w m u ≡ true → Memᴰ u readies
    unfolding readies
    ready_in u l e =
        let f = and_of_lem u l (waits-kind w m u (ready-waits w m u e)) in
        let t : ready ordered f.line ≡ true = sym (ready-and ordered same f.line f.is_line) ∙ ap (is_ready w m) f.is_var ∙ e in
        subst (λ (x : ℕ). Memᴰ x (map (λ (a : And). a.var) (keep (ready ordered) g.ands))) f.is_var
        (map_in (λ (a : And). a.var) (keep_in (ready ordered) f.is_line (subst T (sym t) tt)))

    ready_out : (u : ℕ) → Memᴰ u readies → (u ≤ m) × (is_ready w m u ≡ true)
    unfolding readies
    ready_out u n =
        let o = map_out (λ (a : And). a.var) (keep (ready ordered) g.ands) n in let k = keep_out (ready ordered) g.ands o.1 in
        (omega (arith, o.2, (sure o.0 k.0).var), ap (is_ready w m) o.2 ∙ ready-and ordered same o.0 k.0 ∙ is_true (ready ordered o.0) k.1)

  -- the ANDs that wait
  unordered_in : (u : ℕ) → u ≤ m → is_waiting w m u ≡ true → Memᴰ u (keep (λ (v : ℕ). not (elem v order)) (map (λ (a : And). a.var) g.ands))
  unordered_in u l e =
      let f = and_of_lem u l (waits-kind w m u e) in
      let t : not (elem f.line.var order) ≡ true = sym (waiting-and f.line f.is_line) ∙ ap (is_waiting w m) f.is_var ∙ e in
      subst (λ (x : ℕ). Memᴰ x (keep (λ (v : ℕ). not (elem v order)) (map (λ (a : And). a.var) g.ands))) f.is_var
      (keep_in (λ (v : ℕ). not (elem v order)) (map_in (λ (a : And). a.var) f.is_line) (subst T (sym t) tt))

  unordered_out : (u : ℕ) → Memᴰ u (keep (λ (v : ℕ). not (elem v order)) (map (λ (a : And). a.var) g.ands)) → (u ≤ m) × (is_waiting w m u ≡ true)
  unordered_out u n =
      let k = keep_out (λ (v : ℕ). not (elem v order)) (map (λ (a : And). a.var) g.ands) n in
      let o = map_out (λ (a : And). a.var) g.ands k.0 in
      (omega (arith, o.2, (sure o.0 o.1).var), ap (is_waiting w m) o.2 ∙ waiting-and o.0 o.1 ∙ ap (λ (x : ℕ). not (elem x order)) (sym o.2) ∙ is_true (not (elem u order)) k.1)

-- ---- the loop

-- so far: `order` is ordered, the model has it in the other order, and no AND below `low` waits
pub record Went (w₀ : List ℕ) (m : ℕ) (g : Graph) (w : List ℕ) (low : ℕ) (order ordered : List ℕ) : Type 0 where
  pub represented : Loaded w₀ m w g order
  pub same : (u : ℕ) → elem u ordered ≡ elem u order
  pub small : Within m order
  pub under : low ≤ m + 1
  pub below : (u : ℕ) → u < low → is_waiting w m u ≡ false

elem_both : (u v : ℕ) (ordered order : List ℕ) → elem u ordered ≡ elem u order → elem u (v ∷ ordered) ≡ elem u (order ++ (v ∷ []))
unfolding elem any
elem_both u v ordered order e = by_eqb u v
    (λ q. rw (eq-eqb u v q) (sym (elem_in u (order ++ (v ∷ [])) (Memᴰ-append_right order (Memᴰ-head q)))))
    (λ d. rw (ne_eqb u v d) (e ∙ sym (elem_snoc u v order d)))

position_some : (n : ℕ) (ands : List And) (ordered : List ℕ) (v : ℕ) → lowest (map (λ (a : And). a.var) (keep (ready ordered) ands)) ≡ Some v → order_from (suc n) ands ordered ≡ v ∷ order_from n ands (v ∷ ordered)
unfolding order_from and_on
position_some n ands ordered v e = rw e

position_none : (n : ℕ) (ands : List And) (ordered : List ℕ) → lowest (map (λ (a : And). a.var) (keep (ready ordered) ands)) ≡ None → order_from (suc n) ands ordered ≡ []
unfolding order_from and_on
position_none n ands ordered e = rw e

position_zero : (ands : List And) (ordered : List ℕ) → order_from 0 ands ordered ≡ []
unfolding order_from
position_zero ands ordered = refl

-- where the loop ends
pub record Ordering (w₀ : List ℕ) (m : ℕ) (g : Graph) (w : List ℕ) (low : ℕ) (order : List ℕ) : Type 0 where
  pub represented : Loaded w₀ m w g order
  pub small : Within m order
  pub under : low ≤ m + 1
  pub below : (u : ℕ) → u < low → is_waiting w m u ≡ false

module _ (w₀ : List ℕ) (m : ℕ) (g : Graph) (fits : HasCapacity w₀ m) (sure : (a : And) → Memᴰ a g.ands → Sure m g a) where
  stay : (w : List ℕ) (low : ℕ) (order ordered more : List ℕ) → Went w₀ m g w low order ordered → more ≡ [] → Ordering w₀ m g w low (order ++ more)
  stay w low order ordered more s e =
      subst (Ordering w₀ m g w low) (sym (ap (λ (x : List ℕ). order ++ x) e ∙ append-nil order))
      (record { represented = s.represented; small = s.small; under = s.under; below = s.below })

  module _ (w : List ℕ) (low : ℕ) (order ordered : List ℕ) (s : Went w₀ m g w low order ordered) where
    mark : ℕ
    mark = waiting_from w m low

    capacity : HasCapacity w m
    capacity = record { small = fits.small; capacity = omega (arith, fits.capacity, s.represented.long) }

    mark_under : waiting_from w m low ≤ m + 1
    mark_under = waiting_to w m low s.under

    mark_below : (u : ℕ) → u < waiting_from w m low → is_waiting w m u ≡ false
    mark_below u l = seek-under (is_waiting w m) (m + 1 - low) low u (s.below u) (subst (λ (x : ℕ). u < x) (waiting-is w m low) l)

    ready-below : (u : ℕ) → u < waiting_from w m low → is_ready w m u ≡ false
    ready-below u l = not-ready w m u (mark_below u l)

    next-seek : next_and w m low ≡ seek (is_ready w m) (m + 1 - waiting_from w m low) (waiting_from w m low)
    unfolding next_and
    next-seek = ready-is-seek w m (waiting_from w m low)

    next-some : next_and w m low ≤ m → lowest (map (λ (a : And). a.var) (keep (ready ordered) g.ands)) ≡ Some (next_and w m low)
    unfolding readies
    next-some l =
        seek-lowest (is_ready w m) (map (λ (a : And). a.var) (keep (ready ordered) g.ands)) m (waiting_from w m low)
        (ready_out w₀ m g sure w order s.represented ordered s.same) (ready_in w₀ m g sure w order s.represented ordered s.same) ready-below mark_under
        (subst (λ (x : ℕ). x ≤ m) next-seek l)
        ∙ ap Some (sym next-seek)

    next-none : m < next_and w m low → lowest (map (λ (a : And). a.var) (keep (ready ordered) g.ands)) ≡ None
    unfolding readies
    next-none l =
        seek-nothing (is_ready w m) (map (λ (a : And). a.var) (keep (ready ordered) g.ands)) m (waiting_from w m low)
        (ready_out w₀ m g sure w order s.represented ordered s.same) (ready_in w₀ m g sure w order s.represented ordered s.same) ready-below mark_under
        (subst (λ (x : ℕ). m < x) next-seek l)

    next-ready : next_and w m low ≤ m → is_ready w m (next_and w m low) ≡ true
    next-ready l =
        ap (is_ready w m) next-seek
        ∙ seek_found (is_ready w m) (m + 1 - waiting_from w m low) (waiting_from w m low) (omega (arith, next-seek, mark_under))

    next_new : next_and w m low ≤ m → ¬ Memᴰ (next_and w m low) order
    next_new l n =
        let z : position_at w m (next_and w m low) ≡ 0 = waits_position w m (next_and w m low) (ready-waits w m (next_and w m low) (next-ready l)) in
        let p = ordered_word w m order s.represented.in_order (next_and w m low) l in
        let q : elem (next_and w m low) order ≡ true = elem_in (next_and w m low) order n in
        let y : ◌≡◌ {A = Bool} (not true) true = ap (λ (x : ℕ). not (eqb x 0)) (sym z) ∙ p ∙ q in
        let x : ◌≡◌ {A = ℕ} 0 1 = cc in omega arith

    went_more : next_and w m low ≤ m → length order ≤ m → Went w₀ m g (put_ordered w m (length order) (next_and w m low)) (waiting_from w m low) (order ++ (next_and w m low ∷ [])) (next_and w m low ∷ ordered)
    went_more l c = record {
      represented = position_holds w₀ m w g order capacity s.small s.represented (next_and w m low) l c (next_new l);
      same = λ u. elem_both u (next_and w m low) ordered order (s.same u);
      small = within_snoc m order (next_and w m low) l s.small;
      under = mark_under;
      below = λ u b. waits_less w m (length order) (next_and w m low) capacity c l u (omega (arith, mark_under)) (mark_below u b);
    }

    went_mark : Went w₀ m g w (waiting_from w m low) order ordered
    went_mark = record { represented = s.represented; same = s.same; small = s.small; under = mark_under; below = mark_below }

  pub order_law : (n slot low : ℕ) (w : List ℕ) (order ordered : List ℕ) → Went w₀ m g w low order ordered → slot ≡ length order → length order + n ≤ m + 1
      → Ordering w₀ m g (order_words m n slot low w) (order_low m n slot low w) (order ++ order_from n g.ands ordered)
  order_law zero slot low w order ordered s e f =
      let t = order-end m slot low w 0 refl in
      subst (λ (x : List ℕ). Ordering w₀ m g x (order_low m 0 slot low w) (order ++ order_from 0 g.ands ordered)) (sym t.0)
      (subst (λ (x : ℕ). Ordering w₀ m g w x (order ++ order_from 0 g.ands ordered)) (sym t.1)
      (stay w low order ordered (order_from 0 g.ands ordered) s (position_zero g.ands ordered)))
  order_law (suc n) slot low w order ordered s e f =
      go (leb (next_and w m low) m) refl (λ l. order_law n (slot + 1) (waiting_from w m low) (put_ordered w m slot (next_and w m low)) (order ++ (next_and w m low ∷ [])) (next_and w m low ∷ ordered)
      (subst (λ (i : ℕ). Went w₀ m g (put_ordered w m i (next_and w m low)) (waiting_from w m low) (order ++ (next_and w m low ∷ [])) (next_and w m low ∷ ordered)) (sym e) (went_more w low order ordered s l (omega arith)))
      (omega (arith, length-append order (next_and w m low ∷ []))) (omega (arith, length-append order (next_and w m low ∷ []))))
    where
      go : (t : Bool) → leb (next_and w m low) m ≡ t
          → (next_and w m low ≤ m → Ordering w₀ m g (order_words m n (slot + 1) (waiting_from w m low) (put_ordered w m slot (next_and w m low))) (order_low m n (slot + 1) (waiting_from w m low) (put_ordered w m slot (next_and w m low)))
          ((order ++ (next_and w m low ∷ [])) ++ order_from n g.ands (next_and w m low ∷ ordered)))
          → Ordering w₀ m g (order_words m (suc n) slot low w) (order_low m (suc n) slot low w) (order ++ order_from (suc n) g.ands ordered)
      go true q later =
          let l : next_and w m low ≤ m = leb-true (next_and w m low) m q in let t = order-on m n slot low w (suc n) refl l in
          let o : (order ++ (next_and w m low ∷ [])) ++ order_from n g.ands (next_and w m low ∷ ordered) ≡ order ++ order_from (suc n) g.ands ordered =
          append_snoc order (next_and w m low) (order_from n g.ands (next_and w m low ∷ ordered)) ∙ ap (λ (x : List ℕ). order ++ x) (sym (position_some n g.ands ordered (next_and w m low) (next-some w low order ordered s l))) in
          rw (t.0, t.1) (subst (Ordering w₀ m g (order_words m n (slot + 1) (waiting_from w m low) (put_ordered w m slot (next_and w m low))) (order_low m n (slot + 1) (waiting_from w m low) (put_ordered w m slot (next_and w m low)))) o (later l))
      go false q later =
          let l : m < next_and w m low = leb-false (next_and w m low) m q in let t = order_off m n slot low w (suc n) refl l in
          rw (t.0, t.1) (stay w (waiting_from w m low) order ordered (order_from (suc n) g.ands ordered) (went_mark w low order ordered s) (position_none n g.ands ordered (next-none w low order ordered s l)))

-- ---- the whole

-- the operands of a graph that is held are its literals, as `order_graph` asks
pub loaded_operands : (w₀ : List ℕ) (h : Header) (w : List ℕ) (g : Graph) (order : List ℕ) → LoadedGraph w₀ h w g order → Operands w h.size
loaded_operands w₀ h w g order hold = record {
  left = λ v l e.
      let f = and_of_lem w₀ h.size g hold.sure w order hold.represented v l e in
      omega (arith, hold.represented.lefts v l, f.is_left, (hold.sure f.line f.is_line).left);
  right = λ v l e.
      let f = and_of_lem w₀ h.size g hold.sure w order hold.represented v l e in
      omega (arith, hold.represented.rights v l, f.is_right, (hold.sure f.line f.is_line).right);
}

refused-some : (n k : ℕ) → refused_at n (Some k) ≡ refused_with n k
unfolding refused_at
refused-some n k = refl

refused_none : (n : ℕ) → refused_at n None ≡ Ok tt
unfolding refused_at
refused_none n = refl

module _ (w₀ : List ℕ) (h : Header) (fit : Fit h w₀) (w : List ℕ) (g : Graph) (hold : LoadedGraph w₀ h w g (0 ∷ g.inputs)) where
  whole-capacity : HasCapacity w₀ h.size
  whole-capacity = fit-capacity h w₀ fit

  zero-waits : (u : ℕ) → u < 1 → is_waiting w h.size u ≡ false
  unfolding is_waiting node
  zero-waits u l =
      let z : u ≡ 0 = omega arith in
      let k : kind_at w h.size u ≡ constant_kind = hold.represented.kinds u (omega arith) ∙ ap (λ (x : ℕ). kind_of (node g x)) z in
      rw k

  start : Went w₀ h.size g w 1 (0 ∷ g.inputs) (0 ∷ g.inputs)
  start = record { represented = hold.represented; same = λ u. refl; small = hold.small; under = omega arith; below = zero-waits }

  order_is : (0 ∷ g.inputs) ++ order_from h.ands g.ands (0 ∷ g.inputs) ≡ topological_order g
  unfolding topological_order
  order_is = ap (λ (n : ℕ). (0 ∷ g.inputs) ++ order_from n g.ands (0 ∷ g.inputs)) (sym hold.gates)

  low : ℕ
  low = order_low h.size h.ands (h.inputs + 1) 1 w

  done : Ordering w₀ h.size g (ordered_words w h) low (topological_order g)
  unfolding ordered_words low
  done =
      subst (Ordering w₀ h.size g (order_words h.size h.ands (h.inputs + 1) 1 w) (order_low h.size h.ands (h.inputs + 1) 1 w)) order_is
      (order_law w₀ h.size g whole-capacity hold.sure h.ands (h.inputs + 1) 1 w (0 ∷ g.inputs) (0 ∷ g.inputs) start (omega (arith, hold.ins)) (omega (arith, hold.ins, fit.lines)))

  unordered-is : keep (λ (v : ℕ). not (elem v (topological_order g))) (map (λ (a : And). a.var) g.ands) ≡ unordered g
  unfolding unordered
  unordered-is = refl

  found : ℕ
  found = waiting_from (ordered_words w h) h.size low

  found-seek : found ≡ seek (is_waiting (ordered_words w h) h.size) (h.size + 1 - low) low
  unfolding found
  found-seek = waiting-is (ordered_words w h) h.size low

  some-waits : found ≤ h.size → lowest (unordered g) ≡ Some found
  some-waits l =
      ap lowest (sym unordered-is)
      ∙ seek-lowest (is_waiting (ordered_words w h) h.size) (keep (λ (v : ℕ). not (elem v (topological_order g))) (map (λ (a : And). a.var) g.ands)) h.size low
      (unordered_out w₀ h.size g hold.sure (ordered_words w h) (topological_order g) done.represented) (unordered_in w₀ h.size g hold.sure (ordered_words w h) (topological_order g) done.represented) done.below done.under
      (subst (λ (x : ℕ). x ≤ h.size) found-seek l)
      ∙ ap Some (sym found-seek)

  none-waits : h.size < found → lowest (unordered g) ≡ None
  none-waits l =
      ap lowest (sym unordered-is)
      ∙ seek-nothing (is_waiting (ordered_words w h) h.size) (keep (λ (v : ℕ). not (elem v (topological_order g))) (map (λ (a : And). a.var) g.ands)) h.size low
      (unordered_out w₀ h.size g hold.sure (ordered_words w h) (topological_order g) done.represented) (unordered_in w₀ h.size g hold.sure (ordered_words w h) (topological_order g) done.represented) done.below done.under
      (subst (λ (x : ℕ). h.size < x) found-seek l)

  answer-is : ordered_verdict w h ≡ pick_verdict (leb found h.size) (refused_with 15 found) (Ok tt)
  unfolding ordered_verdict found low
  answer-is = refl

  verdict-is : (t : Bool) → leb found h.size ≡ t → ordered_verdict w h ≡ order_verdict g
  unfolding order_verdict
  verdict-is true e = answer-is ∙ rw e (sym (ap (refused_at 15) (some-waits (leb-true found h.size e)) ∙ refused-some 15 found))
  verdict-is false e = answer-is ∙ rw e (sym (ap (refused_at 15) (none-waits (leb-false found h.size e)) ∙ refused_none 15))

  pub order-verdict : ordered_verdict w h ≡ order_verdict g
  order-verdict = verdict-is (leb found h.size) refl

  pub ordering_law : LoadedGraph w₀ h (ordered_words w h) g (topological_order g)
  ordering_law = record {
    size = hold.size;
    ins = hold.ins;
    outs = hold.outs;
    gates = hold.gates;
    represented = done.represented;
    small = done.small;
    sure = hold.sure;
  }

-- ---- as the layers above ask for it

node-back : (n : Node) → node_of (kind_of n) (left_of n) (right_of n) ≡ n
node-back constant = refl
node-back input = refl
node-back undefined = refl
node-back (both l r) = refl

pub holds-nodes : (w₀ : List ℕ) (h : Header) (w : List ℕ) (g : Graph) (order : List ℕ) → LoadedGraph w₀ h w g order → (v : ℕ) → v ≤ h.size → node_at w h.size v ≡ node g v
unfolding node_at
holds-nodes w₀ h w g order hold v l = rw (hold.represented.kinds v l, hold.represented.lefts v l, hold.represented.rights v l) (node-back (node g v))
