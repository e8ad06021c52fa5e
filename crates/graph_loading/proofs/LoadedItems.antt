-- The items of a text, in either form, and the words that hold their graph:
--     expected-missing, expected-none, expected-whole     a line of the model's, by its literals
--     Stored           the words after some items more; stored-none, stored_more, stored-behind
--     stored-defined, stored_loaded     what they hold after all items
--     graph-represented       and so after a text that holds a graph
use Rattle.std.specs.Prelude.{Ok}
use Rattle.base.specs.{◌≡◌, refl, sym, ap, ◌∙◌, subst, Bool, true, false, not, cond, ◌&&◌, ◌||◌, None, Some, List, [], ◌∷◌, ◌++◌, map}
use Rattle.base.specs.{append-nil, append_assoc, map-append, ℕ, suc, ◌+◌, ◌/◌, ◌≤◌, arith, eqb, get_or, append_snoc, eq-eqb, ne_eqb}
use Rattle.model.specs.{elem, any, all, keep, Line, Read, holds, fault, next, unless, from?, verdict_of, And, node, var_of, Kind, an_input}
use Rattle.model.specs.{an_output, an_and, defines, Item, item_literals, read_expected, read_items, uses, defined_by, check_uses, same_kind, is_kind}
use Rattle.model.specs.{graph_of, read_graph}
use Rattle.model.specs.Graph.{Graph}
use Rattle.model.specs.declared.Header.{Header}
use Rattle.theory_graph.proofs.{by_eqb, keep_append}
use Rattle.base_words.specs.{undefined_kind, constant_kind, kind_at}
use Rattle.graph_order.specs.{kind_of, LoadedGraph}
use Rattle.graph_loading.specs.declared.Literals.{Literals}
use Rattle.graph_loading.specs.{expected_count, literals_fit, may_define}
use Rattle.graph_loading.proofs.DefinitionStores.{nothing}
use Rattle.graph_loading.proofs.LineTestLaws.{code, expected_kind_value, item_list, Short, item_of, all_fit}
use Rattle.graph_loading.proofs.LoadStates.{and_of, grown, more, State}

-- ---- what is read

pub fault-holds : {A : Type 0} {a b : ℕ} {x : A} → fault a b ≡ holds x → ⊥
fault-holds {a = a} {b} {x} e = let z : ◌≡◌ {A = ℕ} 0 1 = cc in omega arith

pub verdict-next : {A B : Type 0} (r : Read A) (f : A → B) → verdict_of (next r (λ a. holds (f a))) ≡ verdict_of r
unfolding verdict_of next
verdict-next (holds a) f = refl
verdict-next (fault a b) f = refl

pub next-holds : {A B : Type 0} (r : Read A) (f : A → B) (b : B) → next r (λ a. holds (f a)) ≡ holds b → (a : A) × (r ≡ holds a) × (b ≡ f a)
unfolding next
next-holds (holds a) f b e = (a, refl, cc)
next-holds (fault n k) f b e = absurd (fault-holds e)

pub accepted-holds : {A : Type 0} (r : Read A) → verdict_of r ≡ Ok tt → (a : A) × (r ≡ holds a)
unfolding verdict_of
accepted-holds (holds a) e = (a, refl)
accepted-holds (fault n k) e = let z : ◌≡◌ {A = ℕ} 0 1 = cc in absurd (omega arith)

-- what 14 lets pass is what was read
pub check-same : (known : List ℕ) (is js : List Item) → check_uses known is ≡ holds js → is ≡ js
unfolding check_uses unless
check-same known [] js e = cc
check-same known (i ∷ is) js e = go (all (λ (l : ℕ). elem (var_of l) (0 ∷ known)) (uses i)) (check-same known is) e
  where
    go : (t : Bool) → ((ks : List Item) → check_uses known is ≡ holds ks → is ≡ ks) → unless t 14 i.offset (next (check_uses known is) (λ ks. holds (i ∷ ks))) ≡ holds js → i ∷ is ≡ js
    go false more q = absurd (fault-holds q)
    go true more q = let n = next-holds (check_uses known is) (λ ks. i ∷ ks) js q in ap (λ (ks : List Item). i ∷ ks) (more n.0 n.1) ∙ sym n.2

-- ---- the model's line

pub expected-missing : (is_closed : Line → Bool) (end m : ℕ) (before : List ℕ) (k : Kind) (ks : List Kind) → read_expected is_closed end m before (k ∷ ks) [] ≡ fault 11 end
unfolding read_expected
expected-missing is_closed end m before k ks = refl

pub expected-none : (is_closed : Line → Bool) (x : Line) (end m : ℕ) (before : List ℕ) (k : Kind) (ks : List Kind) (ls : List Line)
    → item_literals is_closed k x ≡ None → read_expected is_closed end m before (k ∷ ks) (x ∷ ls) ≡ fault 11 x.offset
unfolding read_expected next from?
expected-none is_closed x end m before k ks ls e = rw e

pub expected-whole : (is_closed : Line → Bool) (x : Line) (end m : ℕ) (before : List ℕ) (k : Kind) (ks : List Kind) (ls : List Line) (l : Literals)
    → item_literals is_closed k x ≡ Some (item_list k l) → Short k l
    → read_expected is_closed end m before (k ∷ ks) (x ∷ ls)
    ≡ unless (literals_fit m l && may_define (code k) l.first) 12 x.offset
    (unless (not (defines k && elem (var_of l.first) before)) 13 x.offset
    (next (read_expected is_closed end m (more k before l) ks ls) (λ is. holds (item_of k x.offset l ∷ is))))
unfolding read_expected next from? defines may_define
expected-whole is_closed x end m before an_input ks ls l e s = rw (e, sym (all_fit m an_input l s))
expected-whole is_closed x end m before an_output ks ls l e s = rw (e, sym (all_fit m an_output l s))
expected-whole is_closed x end m before an_and ks ls l e s = rw (e, sym (all_fit m an_and l s))

-- ---- the graph of the items

-- a graph, and the lines of some items behind it
unfoldable pub joined : Graph → List Item → Graph
joined g is = record {
  size = g.size;
  inputs = g.inputs ++ (graph_of g.size is).inputs;
  outputs = g.outputs ++ (graph_of g.size is).outputs;
  ands = g.ands ++ (graph_of g.size is).ands;
  input_arrival = g.input_arrival;
}

pub joined-none : (g : Graph) → joined g [] ≡ g
unfolding joined graph_of keep
joined-none g i = record { size = g.size; inputs = append-nil g.inputs i; outputs = append-nil g.outputs i; ands = append-nil g.ands i; input_arrival = g.input_arrival }

pub joined-first : (m : ℕ) (is : List Item) → joined (nothing m) is ≡ graph_of m is
unfolding joined graph_of
joined-first m is = refl

pub joined-more : (k : Kind) (g : Graph) (at : ℕ) (l : Literals) (is : List Item) → joined (grown k g l) is ≡ joined g (item_of k at l ∷ is)
unfolding joined graph_of keep is_kind same_kind var_of
joined-more an_input g at l is = ap (λ (xs : List ℕ). record { size = g.size; inputs = xs; outputs = g.outputs ++ (graph_of g.size is).outputs; ands = g.ands ++ (graph_of g.size is).ands; input_arrival = g.input_arrival }) (append_snoc g.inputs (l.first / 2) (graph_of g.size is).inputs)
joined-more an_output g at l is = ap (λ (xs : List ℕ). record { size = g.size; inputs = g.inputs ++ (graph_of g.size is).inputs; outputs = xs; ands = g.ands ++ (graph_of g.size is).ands; input_arrival = g.input_arrival }) (append_snoc g.outputs l.first (graph_of g.size is).outputs)
joined-more an_and g at l is = ap (λ (xs : List And). record { size = g.size; inputs = g.inputs ++ (graph_of g.size is).inputs; outputs = g.outputs ++ (graph_of g.size is).outputs; ands = xs; input_arrival = g.input_arrival }) (append_snoc g.ands (and_of l) (graph_of g.size is).ands)

-- items, and those behind them
parts_append : {A : Type 0} (xs : List A) (p : Item → Bool) (f : Item → A) (is js : List Item) → (xs ++ map f (keep p is)) ++ map f (keep p js) ≡ xs ++ map f (keep p (is ++ js))
parts_append {A} xs p f is js =
    append_assoc xs (map f (keep p is)) (map f (keep p js))
    ∙ ap (λ (ys : List A). xs ++ ys) (sym (ap (map f) (keep_append p is js) ∙ map-append f (keep p is) (keep p js)))

joined_append : (g : Graph) (is js : List Item) → joined (joined g is) js ≡ joined g (is ++ js)
unfolding joined graph_of
joined_append g is js i = record {
  size = g.size;
  inputs = parts_append g.inputs (is_kind an_input) (λ (x : Item). var_of (get_or x.literals 0 0)) is js i;
  outputs = parts_append g.outputs (is_kind an_output) (λ (x : Item). get_or x.literals 0 0) is js i;
  ands = parts_append g.ands (is_kind an_and) (λ (x : Item). record { var = var_of (get_or x.literals 0 0); left = get_or x.literals 1 0; right = get_or x.literals 2 0 }) is js i;
  input_arrival = g.input_arrival;
}

-- what the items define
or_nil : (a : Bool) → (a || false) ≡ a
or_nil true = refl
or_nil false = refl

or_swap : (a b c : Bool) → (b || (a || c)) ≡ ((a || b) || c)
or_swap true true c = refl
or_swap true false c = refl
or_swap false b c = refl

pub defined_more : (k : Kind) (at : ℕ) (l : Literals) (before : List ℕ) (is : List Item) (v : ℕ)
    → (elem v (defined_by is) || elem v (more k before l)) ≡ (elem v (defined_by (item_of k at l ∷ is)) || elem v before)
unfolding defined_by defines elem any
defined_more an_input at l before is v = or_swap (eqb v (var_of l.first)) (any (eqb v) (defined_by is)) (any (eqb v) before)
defined_more an_output at l before is v = refl
defined_more an_and at l before is v = or_swap (eqb v (var_of l.first)) (any (eqb v) (defined_by is)) (any (eqb v) before)

or_behind : (e c a b : Bool) → (c || ((e || a) || b)) ≡ (e || (c || (a || b)))
or_behind true true a b = refl
or_behind true false a b = refl
or_behind false c a b = refl

or_assoc : (e a b : Bool) → (e || (a || b)) ≡ ((e || a) || b)
or_assoc true a b = refl
or_assoc false a b = refl

defined-behind : (v : ℕ) (is js : List Item) (before : List ℕ) → (elem v (defined_by js) || (elem v (defined_by is) || elem v before)) ≡ (elem v (defined_by (is ++ js)) || elem v before)
unfolding defined_by elem any
defined-behind v [] js before = refl
defined-behind v (x ∷ is) js before = go (defines x.kind) (defined-behind v is js before)
  where
    first : ℕ
    first = var_of (get_or x.literals 0 0)

    go : (t : Bool) → (any (eqb v) (defined_by js) || (any (eqb v) (defined_by is) || any (eqb v) before)) ≡ (any (eqb v) (defined_by (is ++ js)) || any (eqb v) before)
        → (any (eqb v) (defined_by js) || (any (eqb v) (cond t (first ∷ defined_by is) (defined_by is)) || any (eqb v) before))
        ≡ (any (eqb v) (cond t (first ∷ defined_by (is ++ js)) (defined_by (is ++ js))) || any (eqb v) before)
    go false later = later
    go true later =
        or_behind (eqb v first) (any (eqb v) (defined_by js)) (any (eqb v) (defined_by is)) (any (eqb v) before)
        ∙ ap (λ (b : Bool). eqb v first || b) later
        ∙ or_assoc (eqb v first) (any (eqb v) (defined_by (is ++ js))) (any (eqb v) before)

-- ---- the words after some items

-- the words x hold the graph g with n items more, which stand from expected line k on; w₀ were the words before
pub record Stored (h : Header) (w₀ : List ℕ) (n k : ℕ) (x : List ℕ) (before : List ℕ) (g : Graph) (is : List Item) : Type 0 where
  pub defined : List ℕ
  pub state : State h w₀ (k + n) x defined (joined g is)
  pub knows : (v : ℕ) → elem v defined ≡ (elem v (defined_by is) || elem v before)

module _ (h : Header) (w₀ : List ℕ) where
  pub stored-none : (k : ℕ) (x : List ℕ) (before : List ℕ) (g : Graph) → State h w₀ k x before g → Stored h w₀ 0 k x before g []
  unfolding defined_by elem any
  stored-none k x before g st = record {
    defined = before;
    state = subst (λ (j : ℕ). State h w₀ j x before (joined g [])) (sym (omega arith)) (subst (State h w₀ k x before) (sym (joined-none g)) st);
    knows = λ v. refl;
  }

  -- a line, and the items behind it
  pub stored_more : (n k at : ℕ) (x : List ℕ) (before : List ℕ) (g : Graph) (l : Literals) (js : List Item)
      → Stored h w₀ n (k + 1) x (more (expected_kind_value h k) before l) (grown (expected_kind_value h k) g l) js → Stored h w₀ (suc n) k x before g (item_of (expected_kind_value h k) at l ∷ js)
  stored_more n k at x before g l js s =
      let e : k + 1 + n ≡ k + suc n = omega arith in
      record {
        defined = s.defined;
        state = subst (λ (j : ℕ). State h w₀ j x s.defined (joined g (item_of (expected_kind_value h k) at l ∷ js))) e (subst (State h w₀ (k + 1 + n) x s.defined) (joined-more (expected_kind_value h k) g at l js) s.state);
        knows = λ v. s.knows v ∙ defined_more (expected_kind_value h k) at l before js v;
      }

  -- items, and those behind them
  pub stored-behind : (n m k : ℕ) (y x : List ℕ) (before : List ℕ) (g : Graph) (is js : List Item) (s : Stored h w₀ n k y before g is)
      → Stored h w₀ m (k + n) x s.defined (joined g is) js → Stored h w₀ (n + m) k x before g (is ++ js)
  stored-behind n m k y x before g is js s t =
      let e : k + n + m ≡ k + (n + m) = omega arith in
      record {
        defined = t.defined;
        state = subst (λ (j : ℕ). State h w₀ j x t.defined (joined g (is ++ js))) e (subst (State h w₀ (k + n + m) x t.defined) (joined_append g is js) t.state);
        knows = λ v. t.knows v ∙ ap (λ (b : Bool). elem v (defined_by js) || b) (s.knows v) ∙ defined-behind v is js before;
      }

-- ---- the words after all items

module _ (h : Header) (w : List ℕ) (x : List ℕ) (is : List Item) (s : Stored h w (expected_count h) 0 x [] (nothing h.size) is) where
  -- what is defined has a kind
  pub stored-defined : (v : ℕ) → v ≤ h.size → elem v (0 ∷ defined_by is) ≡ not (eqb (kind_at x h.size v) undefined_kind)
  unfolding elem any node
  stored-defined v l = by_eqb v 0
      (λ z.
      let k : kind_at x h.size v ≡ constant_kind = s.state.represented.kinds v l ∙ ap (λ (u : ℕ). kind_of (node (joined (nothing h.size) is) u)) z in
      rw (eq-eqb v 0 z, k))
      (λ d. rw (ne_eqb v 0 d) (sym (or_nil (any (eqb v) (defined_by is))) ∙ sym (s.knows v) ∙ s.state.known v l d))

  pub stored_loaded : LoadedGraph w h x (graph_of h.size is) (0 ∷ (graph_of h.size is).inputs)
  unfolding graph_of
  stored_loaded =
      let st : State h w (0 + expected_count h) x s.defined (graph_of h.size is) = subst (State h w (0 + expected_count h) x s.defined) (joined-first h.size is) s.state in
      record {
        size = refl;
        ins = omega (arith, st.ins);
        outs = omega (arith, st.outs);
        gates = omega (arith, st.gates);
        represented = st.represented;
        small = st.small;
        sure = st.sure;
      }

-- ---- the words after a text that holds a graph

module _ (s : List ℕ) (h : Header) where
  pub graph_is : read_graph s h ≡ next (read_items s h) (λ is. next (check_uses (defined_by is) is) (λ js. holds (graph_of h.size js)))
  unfolding read_graph
  graph_is = refl

  pub graph-represented : (w x : List ℕ) → ((is : List Item) → read_items s h ≡ holds is → Stored h w (expected_count h) 0 x [] (nothing h.size) is)
      → (g : Graph) → read_graph s h ≡ holds g → LoadedGraph w h x g (0 ∷ g.inputs)
  unfolding next
  graph-represented w x stored g e = go (read_items s h) refl (sym graph_is ∙ e)
    where
      go : (r : Read (List Item)) → read_items s h ≡ r → next r (λ is. next (check_uses (defined_by is) is) (λ js. holds (graph_of h.size js))) ≡ holds g → LoadedGraph w h x g (0 ∷ g.inputs)
      go (fault a b) q p = absurd (fault-holds p)
      go (holds is) q p =
          let n = next-holds (check_uses (defined_by is) is) (graph_of h.size) g p in
          subst (λ (y : Graph). LoadedGraph w h x y (0 ∷ y.inputs)) (ap (graph_of h.size) (check-same (defined_by is) is n.0 n.1) ∙ sym n.2)
          (stored_loaded h w x is (stored is q))
