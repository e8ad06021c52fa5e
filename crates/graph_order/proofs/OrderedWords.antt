-- Ordering the ANDs, as the words have it:
--     waits-kind, waits_position     what waits is an AND, and not ordered
--     ready-waits      what is ready waits
--     operands_ordered  ordering leaves the operands as they are
--     waits_less, ready-apart, ready-more     what waits or is ready after one more is ordered
--     order-..         the loop, a slot at a time
--     mark-..          no AND below the mark `low` waits
--     next-first       what is found from the mark is what is found from the first variable
--     answer-..        what is answered behind the loop
use Rattle.std.specs.Prelude.{Ok}
use Rattle.model.specs.{refused_with}
use Rattle.base.specs.{◌≡◌, refl, sym, ap, ◌∙◌, subst, Bool, true, false, ◌&&◌, and-false, List, ℕ, zero, suc, ◌+◌, ◌-◌, ◌/◌, ◌≤◌, ◌<◌}
use Rattle.base.specs.{arith, T, eqb, leb, and_yes, eqb-true, ne_eqb, leb-true, le-leb, lt-leb}
use Rattle.model.specs.declared.Header.{Header}
use Rattle.theory_graph.proofs.{by_eqb, is_true}
use Rattle.base_words.specs.{HasCapacity, and_kind, kind_addr, left_addr, right_addr, position_addr, kind_at, left_at, right_at, position_at}
use Rattle.graph_order.specs.{Fit, pick_n, pick_words, put_ordered, Operands, is_waiting, is_ordered, is_ready, seek, waiting_from}
use Rattle.graph_order.specs.{ready_from, next_and, order_words, order_low, ordered_words, ordered_verdict}
use Rattle.graph_order.proofs.OrderSlots.{fit-capacity, ordered-apart, ordered-long, position_stored}
use Rattle.graph_order.proofs.ReadySearch.{seek_to, Below, below-first, below_on, below_skip}

-- both of two tests
both_true : (a b : Bool) → (a && b) ≡ true → (a ≡ true) × (b ≡ true)
both_true a b e = let t = and_yes a b (subst T (sym e) tt) in (is_true a t.0, is_true b t.1)

module _ (w : List ℕ) (m v : ℕ) where
  pub waits-kind : is_waiting w m v ≡ true → kind_at w m v ≡ and_kind
  unfolding is_waiting
  waits-kind e = eqb-true (kind_at w m v) and_kind (both_true (eqb (kind_at w m v) and_kind) (eqb (position_at w m v) 0) e).0

  pub waits_position : is_waiting w m v ≡ true → position_at w m v ≡ 0
  unfolding is_waiting
  waits_position e = eqb-true (position_at w m v) 0 (both_true (eqb (kind_at w m v) and_kind) (eqb (position_at w m v) 0) e).1

  pub ready-waits : is_ready w m v ≡ true → is_waiting w m v ≡ true
  unfolding is_ready
  ready-waits e = (both_true (is_waiting w m v) (is_ordered w m (left_at w m v) && is_ordered w m (right_at w m v)) e).0

-- ---- a search is a definition of specs

module _ (w : List ℕ) (m from : ℕ) where
  pub waiting-is : waiting_from w m from ≡ seek (is_waiting w m) (m + 1 - from) from
  unfolding waiting_from
  waiting-is = refl

  pub ready-is-seek : ready_from w m from ≡ seek (is_ready w m) (m + 1 - from) from
  unfolding ready_from
  ready-is-seek = refl

  pub waiting_to : from ≤ m + 1 → waiting_from w m from ≤ m + 1
  waiting_to h = omega (arith, waiting-is, seek_to (is_waiting w m) (m + 1 - from) from)

pub not-ready : (w : List ℕ) (m u : ℕ) → is_waiting w m u ≡ false → is_ready w m u ≡ false
unfolding is_ready
not-ready w m u e = rw e

-- ---- ordering leaves the nodes

module _ (w : List ℕ) (m i v : ℕ) (fits : HasCapacity w m) (slot : i ≤ m) (within : v ≤ m) where
  kind-ordered : (u : ℕ) → u ≤ m → kind_at (put_ordered w m i v) m u ≡ kind_at w m u
  kind-ordered u h = ordered-apart w m i v fits slot within (kind_addr m u) (omega arith) (omega arith)

  pub left-ordered : (u : ℕ) → u ≤ m → left_at (put_ordered w m i v) m u ≡ left_at w m u
  left-ordered u h = ordered-apart w m i v fits slot within (left_addr m u) (omega arith) (omega arith)

  pub right-ordered : (u : ℕ) → u ≤ m → right_at (put_ordered w m i v) m u ≡ right_at w m u
  right-ordered u h = ordered-apart w m i v fits slot within (right_addr m u) (omega arith) (omega arith)

  pub operands_ordered : Operands w m → Operands (put_ordered w m i v) m
  operands_ordered o = record {
    left = λ u h k. omega (arith, left-ordered u h, o.left u h (sym (kind-ordered u h) ∙ k));
    right = λ u h k. omega (arith, right-ordered u h, o.right u h (sym (kind-ordered u h) ∙ k));
  }

  position_apart : (u : ℕ) → ¬ (u ≡ v) → position_at (put_ordered w m i v) m u ≡ position_at w m u
  position_apart u d = ordered-apart w m i v fits slot within (position_addr m u) (omega arith) (λ e. d (omega arith))

  pub ordered-waits : is_waiting (put_ordered w m i v) m v ≡ false
  unfolding is_waiting
  ordered-waits = rw (ne_eqb (position_at (put_ordered w m i v) m v) 0 (omega (arith, position_stored w m i v fits slot within))) (and-false (eqb (kind_at (put_ordered w m i v) m v) and_kind))

  pub waits-apart : (u : ℕ) → u ≤ m → ¬ (u ≡ v) → is_waiting (put_ordered w m i v) m u ≡ is_waiting w m u
  unfolding is_waiting
  waits-apart u l d = rw (kind-ordered u l, position_apart u d)

  -- what did not wait does not wait after one more is ordered
  pub waits_less : (u : ℕ) → u ≤ m → is_waiting w m u ≡ false → is_waiting (put_ordered w m i v) m u ≡ false
  waits_less u l e = by_eqb u v (λ q. ap (is_waiting (put_ordered w m i v) m) q ∙ ordered-waits) (λ d. waits-apart u l d ∙ e)

  -- an AND that does not use v is as ready as before
  pub ready-apart : (u : ℕ) → u ≤ m → ¬ (u ≡ v) → ¬ (left_at w m u / 2 ≡ v) → ¬ (right_at w m u / 2 ≡ v) → is_ready (put_ordered w m i v) m u ≡ is_ready w m u
  unfolding is_ready is_ordered
  ready-apart u h d l r = rw (waits-apart u h d, left-ordered u h, right-ordered u h, position_apart (left_at w m u / 2) l, position_apart (right_at w m u / 2) r)

  ordered-more : (l : ℕ) → is_ordered w m l ≡ true → is_ordered (put_ordered w m i v) m l ≡ true
  unfolding is_ordered
  ordered-more l e = by_eqb (l / 2) v
      (λ q. rw (q, ne_eqb (position_at (put_ordered w m i v) m v) 0 (omega (arith, position_stored w m i v fits slot within))))
      (λ d. rw (position_apart (l / 2) d) e)

  -- an AND that was ready is, unless it is the one that was ordered
  pub ready-more : (u : ℕ) → u ≤ m → ¬ (u ≡ v) → is_ready w m u ≡ true → is_ready (put_ordered w m i v) m u ≡ true
  unfolding is_ready
  ready-more u h d e =
      let a = both_true (is_waiting w m u) (is_ordered w m (left_at w m u) && is_ordered w m (right_at w m u)) e in
      let b = both_true (is_ordered w m (left_at w m u)) (is_ordered w m (right_at w m u)) a.1 in
      rw (waits-apart u h d, a.0, left-ordered u h, ordered-more (left_at w m u) b.0, right-ordered u h, ordered-more (right_at w m u) b.1)

-- ---- the loop

module _ (m n slot low : ℕ) (w : List ℕ) where
  pub order-on : (j : ℕ) → j ≡ suc n → next_and w m low ≤ m
      → (order_words m j slot low w ≡ order_words m n (slot + 1) (waiting_from w m low) (put_ordered w m slot (next_and w m low)))
      × (order_low m j slot low w ≡ order_low m n (slot + 1) (waiting_from w m low) (put_ordered w m slot (next_and w m low)))
  unfolding order_words order_low
  order-on j e l = (ap (λ (x : ℕ). order_words m x slot low w) e ∙ rw (le-leb (next_and w m low) m l), ap (λ (x : ℕ). order_low m x slot low w) e ∙ rw (le-leb (next_and w m low) m l))

  pub order_off : (j : ℕ) → j ≡ suc n → m < next_and w m low → (order_words m j slot low w ≡ w) × (order_low m j slot low w ≡ waiting_from w m low)
  unfolding order_words order_low
  order_off j e l = (ap (λ (x : ℕ). order_words m x slot low w) e ∙ rw (lt-leb (next_and w m low) m l), ap (λ (x : ℕ). order_low m x slot low w) e ∙ rw (lt-leb (next_and w m low) m l))

pub order-end : (m slot low : ℕ) (w : List ℕ) (j : ℕ) → j ≡ 0 → (order_words m j slot low w ≡ w) × (order_low m j slot low w ≡ low)
unfolding order_words order_low
order-end m slot low w j e = (ap (λ (x : ℕ). order_words m x slot low w) e, ap (λ (x : ℕ). order_low m x slot low w) e)

-- the mark that the definitions go by
pub mark_on : (m : ℕ) (x : List ℕ) (low : ℕ) → Below (is_waiting x m) m low → Below (is_waiting x m) m (waiting_from x m low)
unfolding waiting_from
mark_on m x low = below_on (is_waiting x m) m low

pub mark_ordered : (m : ℕ) (x : List ℕ) (low : ℕ) → Below (is_waiting x m) m low → (i v : ℕ) → HasCapacity x m → i ≤ m → v ≤ m → Below (is_waiting (put_ordered x m i v) m) m low
mark_ordered m x low k i v fits slot within = record {
  first = k.first;
  under = k.under;
  below = λ u a b. waits_less x m i v fits slot within u (omega (arith, k.under)) (k.below u a b);
}

-- the AND that is ordered next, from wherever none below waits
pub next-first : (m : ℕ) (x : List ℕ) (low : ℕ) → Below (is_waiting x m) m low → ready_from x m 1 ≡ next_and x m low
unfolding next_and ready_from
next-first m x low k =
    let n = mark_on m x low k in
    below_skip (is_ready x m) m (waiting_from x m low) (record { first = n.first; under = n.under; below = λ u a b. not-ready x m u (n.below u a b) })

-- ---- the answer

order_mark : (m n slot low : ℕ) (w : List ℕ) → HasCapacity w m → slot + n ≤ m + 1 → Below (is_waiting w m) m low
    → Below (is_waiting (order_words m n slot low w) m) m (order_low m n slot low w)
unfolding order_words order_low
order_mark m zero slot low w fits f k = k
order_mark m (suc n) slot low w fits f k =
    go (leb (next_and w m low) m) refl (λ l.
    order_mark m n (slot + 1) (waiting_from w m low) (put_ordered w m slot (next_and w m low))
    (record { small = fits.small; capacity = omega (arith, fits.capacity, ordered-long w m slot (next_and w m low) fits (omega arith) l) }) (omega arith)
    (mark_ordered m w (waiting_from w m low) (mark_on m w low k) slot (next_and w m low) fits (omega arith) l))
  where
    go : (t : Bool) → leb (next_and w m low) m ≡ t
        → (next_and w m low ≤ m → Below (is_waiting (order_words m n (slot + 1) (waiting_from w m low) (put_ordered w m slot (next_and w m low))) m) m (order_low m n (slot + 1) (waiting_from w m low) (put_ordered w m slot (next_and w m low))))
        → Below (is_waiting (pick_words t (order_words m n (slot + 1) (waiting_from w m low) (put_ordered w m slot (next_and w m low))) w) m) m
        (pick_n t (order_low m n (slot + 1) (waiting_from w m low) (put_ordered w m slot (next_and w m low))) (waiting_from w m low))
    go true q later = later (leb-true (next_and w m low) m q)
    go false q later = mark_on m w low k

module _ (w : List ℕ) (h : Header) (fit : Fit h w) (v : ℕ) (x : List ℕ) (is_words : x ≡ ordered_words w h) (is_v : v ≡ waiting_from x h.size 1) where
  -- below the mark that the loop ends with no AND waits
  waiting : v ≡ waiting_from (ordered_words w h) h.size (order_low h.size h.ands (h.inputs + 1) 1 w)
  unfolding ordered_words waiting_from
  waiting =
      is_v
      ∙ ap (λ (y : List ℕ). waiting_from y h.size 1) is_words
      ∙ below_skip (is_waiting (order_words h.size h.ands (h.inputs + 1) 1 w) h.size) h.size (order_low h.size h.ands (h.inputs + 1) 1 w)
      (order_mark h.size h.ands (h.inputs + 1) 1 w (fit-capacity h w fit) (omega (arith, fit.lines)) (below-first (is_waiting w h.size) h.size))

  pub answer-all : h.size < v → (Ok tt) ≡ ordered_verdict w h
  unfolding ordered_verdict
  answer-all l = rw (sym waiting, lt-leb v h.size l)

  pub answer-some : v ≤ h.size → refused_with 15 v ≡ ordered_verdict w h
  unfolding ordered_verdict
  answer-some l = rw (sym waiting, le-leb v h.size l)
