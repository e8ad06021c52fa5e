-- What `lists` leaves is what `model` defines, where the words represent an accepted graph:
--     represents-kept             the words go on representing the graph while those below the counts stay
--     ready-listing               what `lists` asks for
--     verdict-model               the answer is `cuts_verdict`: refusal 16 names "the first such variable in placing order"
--     listed-model                all listed: what is known is `cut_lists_of`
--     cuts_of_lem                     the lists in the words are `cuts_of`
use Rattle.std.specs.Prelude.{Ok, Err}
use Rattle.model.specs.{Verdict, refused_with}
use Rattle.base.specs.{◌≡◌, refl, sym, ap, ◌∙◌, subst, Bool, true, false, cond, List, [], ◌∷◌, ◌++◌, ℕ, zero, suc, ◌≤◌, ◌<◌, add-one, arith}
use Rattle.base.specs.{leb, ltb, length, take, drop, get_or, take-append-drop, take-suc, take_all, drop-cons, leb-true, leb-false, lt-ltb}
use Rattle.base.specs.{le-ltb}
use Rattle.model.specs.{cut_limit, find, run, keep, refused_at, first_of, node, topological_order, node_cuts, cut_lists_of, cuts_of, over_limit, cuts_verdict}
use Rattle.model.specs.Graph.{Graph}
use Rattle.theory_graph.proofs.{get_or_in, keep_append, run-split, order-once, order_small, cut_step, cuts_known, cuts_entry}
use Rattle.base_words.specs.{slot_at, left_addr, right_addr, slot_addr, position_addr, counts_from, node_of, node_at, cuts_at}
use Rattle.cut_lists.specs.{Known, State, Ready, few, step_cuts, onward, listing, listed, stored, Uncut}
use Rattle.cut_lists.specs.RepresentedWords.{Represents}
use Rattle.cut_lists.proofs.CutListing.{ListedSoFar, represented_begin, step-on, few-same, listing-next, listing_stop}
use Rattle.theory_graph.specs.AcceptedGraph as accepted

-- ---- the words and the graph

pub represents-kept : (w v : List ℕ) (m n : ℕ) (g : Graph) → Represents w m n g → accepted.Accepted g → length v ≡ length w
    → ((i : ℕ) → i < counts_from m → get_or v i 0 ≡ get_or w i 0) → Represents v m n g
unfolding node_at
represents-kept w v m n g rep ok long below =
    record {
      capacity = record { small = rep.capacity.small; capacity = omega (arith, rep.capacity.capacity) };
      size = rep.size;
      nodes =
          λ u h.
          (λ i. node_of (below u (omega arith) i) (below (left_addr m u) (omega arith) i) (below (right_addr m u) (omega arith) i)) ∙ rep.nodes u h;
      lefts = λ u h. omega (arith, rep.lefts u h, below (left_addr m u) (omega arith));
      rights = λ u h. omega (arith, rep.rights u h, below (right_addr m u) (omega arith));
      within = rep.within;
      long = rep.long;
      order = λ i h. below (slot_addr m i) (omega (arith, rep.within)) ∙ rep.order i h;
      places =
          λ i h.
          let s : get_or (topological_order g) i 0 ≤ g.size = order_small g ok _ (get_or_in (topological_order g) i 0 (omega (arith, rep.long))) in
          below (position_addr m (get_or (topological_order g) i 0)) (omega (arith, rep.size)) ∙ rep.places i h;
    }

pub slot-inside : (w : List ℕ) (m n : ℕ) (g : Graph) → Represents w m n g → accepted.Accepted g → (i : ℕ) → i < n → slot_at w m i ≤ m
slot-inside w m n g rep ok i h =
    let s : get_or (topological_order g) i 0 ≤ g.size = order_small g ok _ (get_or_in (topological_order g) i 0 (omega (arith, rep.long))) in
    omega (arith, rep.order i h, rep.size)

pub ready-listing : (w : List ℕ) (m n : ℕ) (g : Graph) → Represents w m n g → accepted.Accepted g → Uncut w m → Ready w m n
ready-listing w m n g rep ok fresh =
    record { capacity = rep.capacity; ordered = rep.within; slots = slot-inside w m n g rep ok; lefts = rep.lefts; rights = rep.rights; none_yet = fresh.none_yet }

-- the first n variables of the topological order
unfoldable pub slots : List ℕ → ℕ → ℕ → List ℕ
slots w m zero = []
slots w m (suc n) = slots w m n ++ (slot_at w m n ∷ [])

-- ---- one variable more

ready_less : (w : List ℕ) (m n : ℕ) → Ready w m (suc n) → Ready w m n
ready_less w m n r =
    record { capacity = r.capacity; ordered = omega (arith, r.ordered); slots = λ i h. r.slots i (omega arith); lefts = r.lefts; rights = r.rights; none_yet = r.none_yet }

-- listed, with all before it, or refused, then or before
data Next (w : List ℕ) (m n : ℕ) : Type 0 where
  goes : (listing w m n).answer ≡ Ok tt → leb (length (step_cuts w m (listing w m n).known (slot_at w m n))) cut_limit ≡ true → Next w m n
  stops : (listing w m n).answer ≡ Ok tt → leb (length (step_cuts w m (listing w m n).known (slot_at w m n))) cut_limit ≡ false → Next w m n
  stopped : (k x : ℕ) → (listing w m n).answer ≡ refused_with k x → Next w m n

next : (w : List ℕ) (m n : ℕ) → Next w m n
next w m n = by (listing w m n).answer refl
  where
    test : (listing w m n).answer ≡ Ok tt → (t : Bool) → leb (length (step_cuts w m (listing w m n).known (slot_at w m n))) cut_limit ≡ t → Next w m n
    test e true t = goes e t
    test e false t = stops e t

    by : (a : Verdict) → (listing w m n).answer ≡ a → Next w m n
    by (Ok tt) e = test e (leb (length (step_cuts w m (listing w m n).known (slot_at w m n))) cut_limit) refl
    by (Err r) e = stopped r.number r.place e

stays : (w : List ℕ) (m n k x : ℕ) → (listing w m n).answer ≡ refused_with k x → listing w m (suc n) ≡ record { answer = refused_with k x; known = (listing w m n).known }
unfolding listing onward
stays w m n k x e = ap (λ (a : Verdict). onward w m (slot_at w m n) a (listing w m n).known) e

-- what a listing of n + 1 that is done says of the n before
before : (w : List ℕ) (m n : ℕ) → (listing w m (suc n)).answer ≡ Ok tt
    → ((listing w m n).answer ≡ Ok tt) × (leb (length (step_cuts w m (listing w m n).known (slot_at w m n))) cut_limit ≡ true)
before w m n e = by (next w m n)
  where
    by : Next w m n → ((listing w m n).answer ≡ Ok tt) × (leb (length (step_cuts w m (listing w m n).known (slot_at w m n))) cut_limit ≡ true)
    by (goes a t) = (a, t)
    by (stops a t) =
        let s : listing w m (suc n) ≡ record { answer = refused_with 16 (slot_at w m n); known = (listing w m n).known } = rw add-one at (listing_stop w m n a t) in
        let clash : refused_with 16 (slot_at w m n) ≡ Ok tt = sym (ap (λ (q : State). q.answer) s) ∙ e in
        let z : ◌≡◌ {A = ℕ} 0 1 = cc in
        absurd (omega arith)
    by (stopped k x a) =
        let clash : refused_with k x ≡ Ok tt = sym (ap (λ (q : State). q.answer) (stays w m n k x a)) ∙ e in
        let z : ◌≡◌ {A = ℕ} 0 1 = cc in
        absurd (omega arith)

-- after the variables that are listed the words hold their lists, and so after a refusal those of the variables before
pub all-represented : (w : List ℕ) (m n : ℕ) → Ready w m n → ListedSoFar w m (listing w m n).known (stored w m (listing w m n).known)
unfolding listing stored
all-represented w m zero r = represented_begin w m zero r
all-represented w m (suc n) r = by (next w m n) (all-represented w m n less)
  where
    less : Ready w m n
    less = ready_less w m n r

    k : Known
    k = (listing w m n).known

    v : List ℕ
    v = stored w m k

    by : Next w m n → ListedSoFar w m k v → ListedSoFar w m (listing w m (suc n)).known (stored w m (listing w m (suc n)).known)
    by (goes a t) represented =
        let x : ℕ = slot_at v m n in
        let ex : x ≡ slot_at w m n = represented.below (slot_addr m n) (omega (arith, r.ordered)) in
        let test : few v m x ≡ true =
        few-same w m n less k v represented x (omega (arith, r.slots n (omega arith))) ∙ ap (λ (y : ℕ). leb (length (step_cuts w m k y)) cut_limit) ex ∙ t in
        let step = step-on w m (suc n) r n (omega arith) a v represented x refl (listed v m x) refl test in
        let here : ListedSoFar w m (listing w m (suc n)).known (listed v m x) = rw add-one at step.1 in
        subst (ListedSoFar w m (listing w m (suc n)).known) here.is here
    by (stops a t) represented =
        let s : (listing w m (suc n)).known ≡ k = ap (λ (q : State). q.known) (rw add-one at (listing_stop w m n a t)) in
        subst (λ (q : Known). ListedSoFar w m q (stored w m q)) (sym s) represented
    by (stopped q x a) represented =
        let s : (listing w m (suc n)).known ≡ k = ap (λ (q : State). q.known) (stays w m n q x a) in
        subst (λ (q : Known). ListedSoFar w m q (stored w m q)) (sym s) represented

module _ (w : List ℕ) (m : ℕ) (g : Graph) (nodes : (v : ℕ) → v ≤ m → node_at w m v ≡ node g v) where
  same_step : (known : Known) (v : ℕ) → v ≤ m → step_cuts w m known v ≡ cut_step g known v
  unfolding step_cuts
  same_step known v h = ap (node_cuts (λ u. find [] u known) v) (nodes v h)

  known-run : (n : ℕ) → Ready w m n → (listing w m n).answer ≡ Ok tt → (listing w m n).known ≡ cuts_known g (slots w m n)
  unfolding listing slots run
  known-run zero r e = refl
  known-run (suc n) r e =
      let p = before w m n e in
      let k : Known = (listing w m n).known in
      let x : ℕ = slot_at w m n in
      let s : listing w m (suc n) ≡ record { answer = (Ok tt); known = (x, step_cuts w m k x) ∷ k } = rw add-one at (listing-next w m n p.0 p.1) in
      let rest : k ≡ cuts_known g (slots w m n) = known-run n (ready_less w m n r) p.0 in
      ap (λ (q : State). q.known) s
      ∙ ap (λ (cs : List (List ℕ)). (x, cs) ∷ k) (same_step k x (r.slots n (omega arith)))
      ∙ ap (λ (q : Known). (x, cut_step g q x) ∷ q) rest
      ∙ sym (run-split [] (cut_step g) (slots w m n) (x ∷ []) [])

-- ---- the whole topological order

-- a refusal at the first of a list, and of a longer one
refused_stays : (k x : ℕ) (xs ys : List ℕ) → refused_at 16 (first_of xs) ≡ refused_with k x → refused_at 16 (first_of (xs ++ ys)) ≡ refused_with k x
unfolding refused_at first_of
refused_stays k x [] ys e = let z : ◌≡◌ {A = ℕ} 0 1 = cc in absurd (omega arith)
refused_stays k x (y ∷ xs) ys e = e

accepted-none : (xs : List ℕ) → refused_at 16 (first_of xs) ≡ Ok tt → xs ≡ []
unfolding refused_at first_of
accepted-none [] e = refl
accepted-none (y ∷ xs) e = let z : ◌≡◌ {A = ℕ} 0 1 = cc in absurd (omega arith)

module _ (w : List ℕ) (m n : ℕ) (g : Graph) (rep : Represents w m n g) (ok : accepted.Accepted g) (fresh : Uncut w m) where
  slots-order : (k : ℕ) → k ≤ n → slots w m k ≡ take k (topological_order g)
  unfolding slots
  slots-order zero h = refl
  slots-order (suc k) h =
      (λ i. slots-order k (omega arith) i ++ (rep.order k h i ∷ []))
      ∙ sym (take-suc (topological_order g) k 0 (omega (arith, rep.long)))

  pub slots-all : slots w m n ≡ topological_order g
  slots-all = slots-order n (omega arith) ∙ take_all n (topological_order g) (omega (arith, rep.long))

  -- the variable in slot i splits the topological order
  at_slot : (i : ℕ) → i < n → topological_order g ≡ slots w m i ++ (slot_at w m i ∷ drop (suc i) (topological_order g))
  at_slot i h =
      sym (take-append-drop i (topological_order g))
      ∙ (λ j. sym (slots-order i (omega arith)) j ++ drop-cons (topological_order g) i 0 (omega (arith, rep.long)) j)
      ∙ ap (λ (x : ℕ). slots w m i ++ (x ∷ drop (suc i) (topological_order g))) (sym (rep.order i h))

  wide : ℕ → Bool
  wide v = ltb cut_limit (length (find [] v (cut_lists_of g)))

  pub ready_less_than : (i : ℕ) → i ≤ n → Ready w m i
  ready_less_than i h =
      let r : Ready w m n = ready-listing w m n g rep ok fresh in
      record { capacity = r.capacity; ordered = omega (arith, r.ordered); slots = λ j l. r.slots j (omega arith); lefts = r.lefts; rights = r.rights; none_yet = r.none_yet }

  -- the variable in slot i has as many cuts as `model` gives it
  step-cuts : (i : ℕ) → i < n → (listing w m i).answer ≡ Ok tt → step_cuts w m (listing w m i).known (slot_at w m i) ≡ find [] (slot_at w m i) (cut_lists_of g)
  unfolding cuts_of
  step-cuts i h e =
      let x : ℕ = slot_at w m i in
      same_step w m g rep.nodes (listing w m i).known x (slot-inside w m n g rep ok i h)
      ∙ ap (λ (k : Known). cut_step g k x) (known-run w m g rep.nodes i (ready_less_than i (omega arith)) e)
      ∙ sym (cuts_entry g (slots w m i) x (drop (suc i) (topological_order g)) (at_slot i h) (order-once g ok))

  verdict_so_far : (i : ℕ) → i ≤ n → (listing w m i).answer ≡ refused_at 16 (first_of (keep wide (slots w m i)))
  unfolding listing slots keep refused_at first_of wide
  verdict_so_far zero h = refl
  verdict_so_far (suc i) h = by (next w m i) (verdict_so_far i (omega arith))
    where
      x : ℕ
      x = slot_at w m i

      more : keep wide (slots w m i ++ (x ∷ [])) ≡ keep wide (slots w m i) ++ cond (wide x) (x ∷ []) []
      more = keep_append wide (slots w m i) (x ∷ [])

      by : Next w m i → (listing w m i).answer ≡ refused_at 16 (first_of (keep wide (slots w m i))) → (listing w m (suc i)).answer ≡ refused_at 16 (first_of (keep wide (slots w m i ++ (x ∷ []))))
      by (goes a t) e =
          let s : (listing w m (suc i)).answer ≡ Ok tt = ap (λ (q : State). q.answer) (rw add-one at (listing-next w m i a t)) in
          let none-wide : keep wide (slots w m i) ≡ [] = accepted-none (keep wide (slots w m i)) (sym e ∙ a) in
          let few-x : length (find [] x (cut_lists_of g)) ≤ cut_limit = omega (arith, leb-true (length (step_cuts w m (listing w m i).known x)) cut_limit t, ap length (step-cuts i h a)) in
          let narrow : wide x ≡ false = le-ltb cut_limit (length (find [] x (cut_lists_of g))) few-x in
          s ∙ sym (ap (λ (l : List ℕ). refused_at 16 (first_of l)) (more ∙ (λ j. none-wide j ++ cond (narrow j) (x ∷ []) [])))
      by (stops a t) e =
          let s : (listing w m (suc i)).answer ≡ refused_with 16 x = ap (λ (q : State). q.answer) (rw add-one at (listing_stop w m i a t)) in
          let none-wide : keep wide (slots w m i) ≡ [] = accepted-none (keep wide (slots w m i)) (sym e ∙ a) in
          let many-x : cut_limit < length (find [] x (cut_lists_of g)) = omega (arith, leb-false (length (step_cuts w m (listing w m i).known x)) cut_limit t, ap length (step-cuts i h a)) in
          let is_wide : wide x ≡ true = lt-ltb cut_limit (length (find [] x (cut_lists_of g))) many-x in
          s ∙ sym (ap (λ (l : List ℕ). refused_at 16 (first_of l)) (more ∙ (λ j. none-wide j ++ cond (is_wide j) (x ∷ []) [])))
      by (stopped k y a) e =
          ap (λ (q : State). q.answer) (stays w m i k y a)
          ∙ sym (ap (λ (l : List ℕ). refused_at 16 (first_of l)) more ∙ refused_stays k y (keep wide (slots w m i)) (cond (wide x) (x ∷ []) []) (sym e ∙ a))

  -- "An AND, used or not, has more than 18 cuts; place, the first such variable in placing order."
  pub verdict-model : (listing w m n).answer ≡ cuts_verdict g
  unfolding cuts_verdict over_limit wide
  verdict-model = verdict_so_far n (omega arith) ∙ ap (λ (vs : List ℕ). refused_at 16 (first_of (keep wide vs))) slots-all

  module _ (e : (listing w m n).answer ≡ Ok tt) where
    pub listed-model : (listing w m n).known ≡ cut_lists_of g
    unfolding cut_lists_of
    listed-model = known-run w m g rep.nodes n (ready-listing w m n g rep ok fresh) e ∙ ap (cuts_known g) slots-all

    -- the lists in the words that `lists` leaves
    pub cuts_of_lem : (v : ℕ) → v ≤ m → cuts_at (stored w m (listing w m n).known) m v ≡ cuts_of g v
    unfolding cuts_of
    cuts_of_lem v h = (all-represented w m n (ready-listing w m n g rep ok fresh)).cuts v h ∙ ap (find [] v) listed-model
