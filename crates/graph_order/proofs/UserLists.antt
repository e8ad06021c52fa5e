-- The lists of uses, and the marks of the listed ANDs that are ready:
--     lists-none, lists_link, lists_wider, lists-same     the lists, empty, with one use more, and over the same uses
--     passed_none, passed-and, passed_other     one AND more is passed
--     next-marked, none_below, ready-listed     the lowest mark, or none below where the ANDs are passed to
--     marked_start, woken     the walk over the users of a variable that was ordered
use Rattle.base.specs.{◌≡◌, refl, sym, ap, ◌∙◌, subst, true, false, Some, List, ℕ, ◌+◌, ◌-◌, ◌*◌, ◌/◌, ◌%◌, ◌≤◌, ◌<◌, arith, ltb, get_or, set}
use Rattle.base.specs.{length-set, replicate, length-replicate, get_or-replicate, get_or-set_same, get_or-set_other, eq-eqb, ne_eqb, lt-ltb}
use Rattle.base.specs.{le-ltb}
use Rattle.theory_graph.proofs.{by_eqb}
use Rattle.base_words.specs.{HasCapacity, and_kind, kind_at, left_at, right_at}
use Rattle.base_bitset.specs.BitSet.{BitSet}
use Rattle.base_bitset.specs.{has, added, removed, lowest_of}
use Rattle.base_bitset.proofs.{by_leb, empty-set, empty-has, add-set, add_in, add_other, remove_set, remove_out, remove_other}
use Rattle.base_bitset.proofs.{lowest_in_lem, lowest-least}
use Rattle.graph_order.specs.{in_graph, pick_n, pick_words, put_ordered, Operands, is_waiting, is_ready, ready_from, use_of, Listed, Lists, Both}
use Rattle.graph_order.specs.{Passed, Kept, Waking, UsersMarked, Ready, Next, passed_to, taken_from}
use Rattle.graph_order.proofs.ReadySearch.{some_in, true-false, by_truth, seek_is, seek-from, seek_found, seek-before, Below, below_skip}
use Rattle.graph_order.proofs.OrderedWords.{waits-kind, ready-waits, not-ready, left-ordered, right-ordered, ordered-waits, waits-apart}
use Rattle.graph_order.proofs.OrderedWords.{ready-apart, ready-more}

-- ---- the variable of a use

module _ (w : List ℕ) (m v : ℕ) where
  use_left : use_of w m (2 * v) ≡ left_at w m v / 2
  unfolding use_of
  use_left = let e : 2 * v / 2 ≡ v = omega arith in rw (eq-eqb (2 * v % 2) 0 (omega arith), e)

  use_right : use_of w m (2 * v + 1) ≡ right_at w m v / 2
  unfolding use_of
  use_right = let e : (2 * v + 1) / 2 ≡ v = omega arith in rw (ne_eqb ((2 * v + 1) % 2) 0 (omega arith), e)

-- ---- the lists

lists-none : (op : ℕ → ℕ) (n : ℕ) → Lists op n (replicate 4096 0) (replicate 8192 8192)
lists-none op n = record {
  wide = length-replicate {A = ℕ} 4096 0;
  long = length-replicate {A = ℕ} 8192 8192;
  upto = λ o l. absurd (never o l);
  head = λ x h p. absurd (let e = get_or-replicate {A = ℕ} 4096 x 0 0 h in omega arith);
  headed = λ o l. absurd (never o l);
  next = λ o l. absurd (never o l);
  nexts = λ o p l. absurd (never o l);
}
  where
    never : (o : ℕ) → Listed (replicate 8192 8192) o → ⊥
    never o l = omega (arith, l.small, l.down, get_or-replicate {A = ℕ} 8192 o 8192 0 l.small)

lists_wider : (op : ℕ → ℕ) (n k : ℕ) (heads links : List ℕ) → n ≤ k → Lists op n heads links → Lists op k heads links
lists_wider op n k heads links h s = record {
  wide = s.wide;
  long = s.long;
  upto = λ o l. omega (arith, s.upto o l);
  head = s.head;
  headed = s.headed;
  next = s.next;
  nexts = s.nexts;
}

lists-same : (op to : ℕ → ℕ) (n : ℕ) (heads links : List ℕ) → ((o : ℕ) → o < n → to o ≡ op o) → Lists op n heads links → Lists to n heads links
lists-same op to n heads links same s = record {
  wide = s.wide;
  long = s.long;
  upto = s.upto;
  head = λ x h p. let r = s.head x h p in (r.0, same (get_or heads x 0) (s.upto (get_or heads x 0) r.0) ∙ r.1);
  headed = λ o l. rw (same o (s.upto o l)) (s.headed o l);
  next = λ o l p.
      let r = s.next o l p in
      (r.0, same (get_or links o 0) (s.upto (get_or links o 0) r.0) ∙ r.1 ∙ sym (same o (s.upto o l)));
  nexts = λ o p l k h e. s.nexts o p l k h (sym (same p (s.upto p k)) ∙ e ∙ same o (s.upto o l));
}

-- a use k above all that are listed is put before those of its variable x
module _ (op : ℕ → ℕ) (n : ℕ) (heads links : List ℕ) (s : Lists op n heads links) (k x : ℕ) (above : n ≤ k) (positive : 0 < k) (small : k < 8192) (its : op k ≡ x) (known : x < 4096) where
  link_own : get_or (set links k (get_or heads x 0)) k 0 ≡ get_or heads x 0
  link_own = get_or-set_same links k (get_or heads x 0) 0 (omega (arith, s.long))

  link_apart : (o : ℕ) → ¬ (o ≡ k) → get_or (set links k (get_or heads x 0)) o 0 ≡ get_or links o 0
  link_apart o d = get_or-set_other links k o (get_or heads x 0) 0 d

  head-own : get_or (set heads x k) x 0 ≡ k
  head-own = get_or-set_same heads x k 0 (omega (arith, s.wide))

  head_apart : (y : ℕ) → ¬ (y ≡ x) → get_or (set heads x k) y 0 ≡ get_or heads y 0
  head_apart y d = get_or-set_other heads x y k 0 d

  listed-own : Listed (set links k (get_or heads x 0)) k
  listed-own = record {
    small = small;
    down = by_eqb (get_or heads x 0) 0 (λ e. omega (arith, link_own)) (λ d. omega (arith, link_own, s.upto (get_or heads x 0) (s.head x known (omega arith)).0));
  }

  listed_old : (o : ℕ) → Listed links o → Listed (set links k (get_or heads x 0)) o
  listed_old o l = record { small = l.small; down = omega (arith, l.down, link_apart o (omega (arith, s.upto o l))) }

  listed_new : (o : ℕ) → ¬ (o ≡ k) → Listed (set links k (get_or heads x 0)) o → Listed links o
  listed_new o d l = record { small = l.small; down = omega (arith, l.down, link_apart o d) }

  lists_link : Lists op (k + 1) (set heads x k) (set links k (get_or heads x 0))
  lists_link = record {
    wide = length-set heads x k ∙ s.wide;
    long = length-set links k (get_or heads x 0) ∙ s.long;
    upto = λ o l. by_eqb o k (λ e. omega arith) (λ d. omega (arith, s.upto o (listed_new o d l)));
    head = λ y h p. by_eqb y x
        (λ e.
        let f : get_or (set heads x k) y 0 ≡ k = ap (λ (z : ℕ). get_or (set heads x k) z 0) e ∙ head-own in
        rw f (listed-own, its ∙ sym e))
        (λ d.
        let f : get_or (set heads x k) y 0 ≡ get_or heads y 0 = head_apart y d in let r = s.head y h (omega arith) in
        rw f (listed_old (get_or heads y 0) r.0, r.1));
    headed = λ o l. by_eqb (op o) x
        (λ q.
        let f : get_or (set heads x k) (op o) 0 ≡ k = ap (λ (z : ℕ). get_or (set heads x k) z 0) q ∙ head-own in
        by_eqb o k (λ e. omega arith) (λ d. omega (arith, s.upto o (listed_new o d l))))
        (λ q.
        let f : get_or (set heads x k) (op o) 0 ≡ get_or heads (op o) 0 = head_apart (op o) q in
        omega (arith, s.headed o (listed_new o (λ e. q (ap op e ∙ its)) l)));
    next = λ o l p. by_eqb o k
        (λ e.
        let f : get_or (set links k (get_or heads x 0)) o 0 ≡ get_or heads x 0 = ap (λ (z : ℕ). get_or (set links k (get_or heads x 0)) z 0) e ∙ link_own in
        let r = s.head x known (omega arith) in
        rw f (listed_old (get_or heads x 0) r.0, r.1 ∙ sym (ap op e ∙ its)))
        (λ d.
        let f : get_or (set links k (get_or heads x 0)) o 0 ≡ get_or links o 0 = link_apart o d in
        let r = s.next o (listed_new o d l) (omega arith) in
        rw f (listed_old (get_or links o 0) r.0, r.1));
    nexts = λ o p l j h e. by_eqb o k
        (λ q.
        let f : get_or (set links k (get_or heads x 0)) o 0 ≡ get_or heads x 0 = ap (λ (z : ℕ). get_or (set links k (get_or heads x 0)) z 0) q ∙ link_own in
        let g : get_or heads (op p) 0 ≡ get_or heads x 0 = ap (λ (z : ℕ). get_or heads z 0) (e ∙ ap op q ∙ its) in
        omega (arith, s.headed p (listed_new p (omega arith) j)))
        (λ d.
        let b = s.upto o (listed_new o d l) in
        omega (arith, link_apart o d, s.nexts o p (listed_new o d l) (listed_new p (omega arith) j) h e));
  }

-- the lists with one use more
pub record Longer (op : ℕ → ℕ) (k : ℕ) (links hs ls : List ℕ) : Type 0 where
  pub lists : Lists op (k + 1) hs ls
  pub own : Listed ls k
  pub old : (o : ℕ) → Listed links o → Listed ls o
  pub new : (o : ℕ) → ¬ (o ≡ k) → Listed ls o → Listed links o
  pub kept : (o : ℕ) → o < k → get_or ls o 0 ≡ get_or links o 0

longer : (op : ℕ → ℕ) (n : ℕ) (heads links : List ℕ) → Lists op n heads links → (k x : ℕ) → n ≤ k → 0 < k → k < 8192 → op k ≡ x → x < 4096
    → (hs ls : List ℕ) → hs ≡ set heads x k → ls ≡ set links k (get_or heads x 0) → Longer op k links hs ls
longer op n heads links s k x above positive small its known hs ls e f = rw (e, f) (record {
  lists = lists_link op n heads links s k x above positive small its known;
  own = listed-own op n heads links s k x above positive small its known;
  old = listed_old op n heads links s k x above positive small its known;
  new = listed_new op n heads links s k x above positive small its known;
  kept = λ o h. link_apart op n heads links s k x above positive small its known o (omega arith);
})

-- ---- one AND more is passed

pub passed_none : (m : ℕ) (w : List ℕ) → Passed m w 1 (replicate 4096 0) (replicate 8192 8192)
passed_none m w = record {
  from = omega arith;
  under = omega arith;
  lists = lists-none (use_of w m) (2 * 1);
  pairs = λ o l. absurd (omega (arith, l.small, l.down, get_or-replicate {A = ℕ} 8192 o 8192 0 l.small));
  waiting = λ u a b e. absurd (omega arith);
}

module _ (m : ℕ) (w : List ℕ) (v : ℕ) (heads links : List ℕ) (fits : HasCapacity w m) (within : v ≤ m) (s : Passed m w v heads links) where
  pub passed_other : ¬ (kind_at w m v ≡ and_kind) → Passed m w (v + 1) heads links
  passed_other d = record {
    from = omega arith;
    under = omega arith;
    lists = lists_wider (use_of w m) (2 * v) (2 * (v + 1)) heads links (omega arith) s.lists;
    pairs = s.pairs;
    waiting = λ u a b e. by_eqb u v (λ q. absurd (d (waits-kind w m v (ap (is_waiting w m) (sym q) ∙ e)))) (λ n. s.waiting u a (omega arith) e);
  }

  passed-and : kind_at w m v ≡ and_kind → (h l hs ls : List ℕ) → Longer (use_of w m) (2 * v) links h l → Longer (use_of w m) (2 * v + 1) l hs ls → Passed m w (v + 1) hs ls
  passed-and three h l hs ls a b = record {
    from = omega arith;
    under = omega arith;
    lists = lists_wider (use_of w m) (2 * v + 1 + 1) (2 * (v + 1)) hs ls (omega arith) b.lists;
    pairs = λ o i. by_eqb (o / 2) v
        (λ e. subst (Both ls) (sym e) its)
        (λ d. older (o / 2) (s.pairs o (a.new o (omega arith) (b.new o (omega arith) i))));
    waiting = λ u x y e. by_eqb u v (λ q. subst (Both ls) (sym q) its) (λ n. older u (s.waiting u x (omega arith) e));
  }
    where
      its : Both ls v
      its = record { left = b.old (2 * v) a.own; right = b.own }

      older : (u : ℕ) → Both links u → Both ls u
      older u t = record { left = b.old (2 * u) (a.old (2 * u) t.left); right = b.old (2 * u + 1) (a.old (2 * u + 1) t.right) }

kept-both : (op : ℕ → ℕ) (v : ℕ) (links h l hs ls : List ℕ) → Longer op (2 * v) links h l → Longer op (2 * v + 1) l hs ls → Kept (2 * v) links ls
kept-both op v links h l hs ls a b o x = b.kept o (omega arith) ∙ a.kept o x

-- an AND is listed by its operands, the left one first
module _ (m : ℕ) (w : List ℕ) (v : ℕ) (heads links : List ℕ) (fits : HasCapacity w m) (o : Operands w m) (within : v ≤ m) (s : Passed m w v heads links) (three : kind_at w m v ≡ and_kind)
    (x y : ℕ) (isX : x ≡ left_at w m v) (isY : y ≡ right_at w m v) where
  pub left_in : (x / 2 < 4096) × (2 * v < 8192)
  left_in = (omega (arith, o.left v within three, fits.small), omega (arith, fits.small))

  pub right_in : (y / 2 < 4096) × (2 * v + 1 < 8192)
  right_in = (omega (arith, o.right v within three, fits.small), omega (arith, fits.small))

  pub listed : (h l hs ls : List ℕ) → h ≡ set heads (x / 2) (2 * v) → l ≡ set links (2 * v) (get_or heads (x / 2) 0) → hs ≡ set h (y / 2) (2 * v + 1)
      → ls ≡ set l (2 * v + 1) (get_or h (y / 2) 0) → Passed m w (v + 1) hs ls × Kept (2 * v) links ls
  listed h l hs ls a b c d =
      let one = longer (use_of w m) (2 * v) heads links s.lists (2 * v) (x / 2) (omega arith) (omega (arith, s.from)) left_in.1 (use_left w m v ∙ ap (λ (z : ℕ). z / 2) (sym isX)) left_in.0 h l a b in
      let two = longer (use_of w m) (2 * v + 1) h l one.lists (2 * v + 1) (y / 2) (omega arith) (omega arith) right_in.1 (use_right w m v ∙ ap (λ (z : ℕ). z / 2) (sym isY)) right_in.0 hs ls c d in
      (passed-and m w v heads links fits within s three h l hs ls one two, kept-both (use_of w m) v links h l hs ls one two)

pub kept_on : (n k : ℕ) (links l ls : List ℕ) → n ≤ k → Kept n links l → Kept k l ls → Kept n links ls
kept_on n k links l ls h a b o x = b o (omega arith) ∙ a o x

-- ---- the lowest that is ready

both_first : (links : List ℕ) (u : ℕ) → Both links u → 1 ≤ u
both_first links u b = omega (arith, b.left.down)

module _ (m : ℕ) (w : List ℕ) (scan : ℕ) (heads links bits : List ℕ) (fits : HasCapacity w m) (s : Passed m w scan heads links) (r : Ready m w links bits) where
  marked : (u : ℕ) → 1 ≤ u → u < scan → is_ready w m u ≡ true → has bits u ≡ true
  marked u a b e = r.all u (omega (arith, s.under)) (s.waiting u a b (ready-waits w m u e)) e

  unmarked : (u : ℕ) → 1 ≤ u → u < scan → has bits u ≡ false → is_ready w m u ≡ false
  unmarked u a b e = by_truth (is_ready w m u) (λ t. absurd (true-false (marked u a b t) e)) (λ f. f)

  pub next-marked : lowest_of bits < scan → Next m w scan heads links bits (lowest_of bits)
  unfolding ready_from
  next-marked l =
      let i = r.only (lowest_of bits) (omega (arith, s.under, fits.small)) (lowest_in_lem bits r.sound (omega (arith, s.under, fits.small))) in
      record {
        next = sym (seek_is (is_ready w m) (m + 1 - 1) 1 (lowest_of bits) (both_first links (lowest_of bits) i.0) (omega (arith, s.under)) i.1
            (λ u a b. unmarked u a (omega arith) (lowest-least bits r.sound u b (omega (arith, s.under, fits.small)))));
        passed = rw (lt-ltb (lowest_of bits) scan l) s;
        ready = r;
      }

  none_below : scan ≤ lowest_of bits → Below (is_ready w m) m scan
  none_below l = record {
    first = s.from;
    under = s.under;
    below = λ u a b. unmarked u a b (lowest-least bits r.sound u (omega arith) (omega (arith, s.under, fits.small)));
  }

  module _ (hs ls : List ℕ) (b : ℕ) (is_b : b ≡ ready_from w m scan) (t : Passed m w b hs ls) (kept : Kept (2 * scan) links ls) where
    still : (u : ℕ) → Both links u → Both ls u
    still u k = record {
      left = record { small = k.left.small; down = omega (arith, k.left.down, kept (2 * u) (s.lists.upto (2 * u) k.left)) };
      right = record { small = k.right.small; down = omega (arith, k.right.down, kept (2 * u + 1) (s.lists.upto (2 * u + 1) k.right)) };
    }

    was : (u : ℕ) → u < scan → Both ls u → Both links u
    was u l k = record {
      left = record { small = k.left.small; down = omega (arith, k.left.down, kept (2 * u) (omega arith)) };
      right = record { small = k.right.small; down = omega (arith, k.right.down, kept (2 * u + 1) (omega arith)) };
    }

    pub next-passed : scan ≤ lowest_of bits → Next m w scan hs ls bits b
    unfolding ready_from
    next-passed l = record {
      next = is_b ∙ sym (below_skip (is_ready w m) m scan (none_below l));
      passed = rw (le-ltb b scan (omega (arith, is_b, seek-from (is_ready w m) (m + 1 - scan) scan))) t;
      ready = record {
        sound = r.sound;
        only = λ u h e. let i = r.only u h e in (still u i.0, i.1);
        all = λ u h k e. by_leb scan u
            (λ x. absurd (true-false e (seek-before (is_ready w m) (m + 1 - scan) scan u x (omega (arith, is_b, t.lists.upto (2 * u) k.left)))))
            (λ x. r.all u h (was u x k) e);
      };
    }

-- what is answered is that AND
pub next_some : (m : ℕ) (w : List ℕ) (scan : ℕ) (heads links bits : List ℕ) (r v : ℕ) → Next m w scan heads links bits r → in_graph m r ≡ Some v
    → Next m w scan heads links bits v × (v ≤ m)
next_some m w scan heads links bits r v n e =
    let t = some_in m r v e in
    (subst (Next m w scan heads links bits) t.0 n, subst (λ (u : ℕ). u ≤ m) t.0 t.1)

-- ---- the users of a variable that was ordered

pub ready-none : (m : ℕ) (w : List ℕ) → Ready m w (replicate 8192 8192) (replicate 65 0)
ready-none m w = record {
  sound = empty-set;
  only = λ u h e. absurd (true-false e (empty-has u h));
  all = λ u h k e. absurd (omega (arith, k.left.small, k.left.down, get_or-replicate {A = ℕ} 8192 (2 * u) 8192 0 k.left.small));
}

module _ (m : ℕ) (w : List ℕ) (scan : ℕ) (heads links bits : List ℕ) (v : ℕ) (fits : HasCapacity w m) (n : Next m w scan heads links bits v) (within : v ≤ m) (i : ℕ) (slot : i ≤ m) where
  found : is_ready w m v ≡ true
  unfolding ready_from
  found = ap (is_ready w m) n.next ∙ seek_found (is_ready w m) (m + 1 - 1) 1 (omega (arith, n.next))

  first : 1 ≤ v
  unfolding ready_from
  first = omega (arith, n.next, seek-from (is_ready w m) (m + 1 - 1) 1)

  use_ordered : (o : ℕ) → o / 2 ≤ m → use_of (put_ordered w m i v) m o ≡ use_of w m o
  unfolding use_of
  use_ordered o h = rw (left-ordered w m i v fits slot within (o / 2) h, right-ordered w m i v fits slot within (o / 2) h)

  -- by whether v has a mark
  by_scan : (P : ℕ → ℕ → List ℕ → Type 0) → (v < scan → P scan scan (removed bits v)) → (scan ≤ v → P v (v + 1) bits) → P (pick_n (ltb v scan) scan v) (passed_to scan v) (taken_from scan v bits)
  unfolding passed_to taken_from
  by_scan P y z = by_leb scan v (λ l. rw (le-ltb v scan l) (z l)) (λ l. rw (lt-ltb v scan l) (y l))

  passed-ordered : (f t : ℕ) → Passed m w f heads links → 1 ≤ t → t ≤ m + 1 → f ≤ t → ((u : ℕ) → u < t → ¬ (u ≡ v) → u < f) → Passed m (put_ordered w m i v) t heads links
  passed-ordered f t s a b c more = record {
    from = a;
    under = b;
    lists =
        lists_wider (use_of (put_ordered w m i v) m) (2 * f) (2 * t) heads links (omega arith)
        (lists-same (use_of w m) (use_of (put_ordered w m i v) m) (2 * f) heads links (λ o h. use_ordered o (omega arith)) s.lists);
    pairs = s.pairs;
    waiting = λ u x y e. by_eqb u v
        (λ q. absurd (true-false (ap (is_waiting (put_ordered w m i v) m) (sym q) ∙ e) (ordered-waits w m i v fits slot within)))
        (λ d. s.waiting u x (more u y d) (sym (waits-apart w m i v fits slot within u (omega arith) d) ∙ e));
  }

  pub passed_on : Passed m (put_ordered w m i v) (passed_to scan v) heads links
  passed_on =
      by_scan (λ (f t : ℕ) (ms : List ℕ). Passed m w f heads links → Passed m (put_ordered w m i v) t heads links)
      (λ l s. passed-ordered scan scan s s.from s.under (omega arith) (λ u x d. x))
      (λ l s. passed-ordered v (v + 1) s (omega arith) (omega arith) (omega arith) (λ u x d. omega arith))
      n.passed

  waking-start : (f : ℕ) (ms : List ℕ) → Passed m w f heads links → BitSet ms → ((u : ℕ) → u < 4096 → has ms u ≡ true → ¬ (u ≡ v))
      → ((u : ℕ) → u < 4096 → ¬ (u ≡ v) → has ms u ≡ has bits u) → Waking m (put_ordered w m i v) links v (get_or heads v 0) ms
  waking-start f ms s k without same = record {
    sound = k;
    only = λ u h e.
        let d = without u h e in let r = n.ready.only u h (sym (same u h d) ∙ e) in
        (r.0, ready-more w m i v fits slot within u (omega (arith, s.under, s.lists.upto (2 * u) r.0.left)) d r.1);
    all = λ u h b e free. by_eqb u v
        (λ q. absurd (true-false (ap (is_ready (put_ordered w m i v) m) (sym q) ∙ e) (not-ready (put_ordered w m i v) m v (ordered-waits w m i v fits slot within))))
        (λ d. by_truth (is_ready w m u)
        (λ t. same u (omega (arith, fits.small)) d ∙ n.ready.all u h b t)
        (λ t. by_eqb (left_at w m u / 2) v
        (λ q. absurd (above (2 * u) b.left (omega arith) (use_left w m u ∙ q) (free (2 * u) (omega arith) b.left)))
        (λ x. by_eqb (right_at w m u / 2) v
        (λ q. absurd (above (2 * u + 1) b.right (omega arith) (use_right w m u ∙ q) (free (2 * u + 1) (omega arith) b.right)))
        (λ y. absurd (true-false e (ready-apart w m i v fits slot within u h d x y ∙ t))))));
  }
    where
      -- a use of v is not above its head
      above : (p : ℕ) → Listed links p → p / 2 ≤ m → use_of w m p ≡ v → (use_of (put_ordered w m i v) m p ≡ v → get_or heads v 0 < p) → ⊥
      above p j h e l =
          let a : get_or heads (use_of w m p) 0 ≡ get_or heads v 0 = ap (λ (x : ℕ). get_or heads x 0) e in
          omega (arith, s.lists.headed p j, l (use_ordered p h ∙ e))

  waking : Waking m (put_ordered w m i v) links v (get_or heads v 0) (taken_from scan v bits)
  waking =
      by_scan (λ (f t : ℕ) (ms : List ℕ). Passed m w f heads links → Waking m (put_ordered w m i v) links v (get_or heads v 0) ms)
      (λ l s.
      let there = marked m w scan heads links bits fits s n.ready v first l found in
      let small : v < 4096 = omega (arith, fits.small) in
      waking-start scan (removed bits v) s (remove_set bits n.ready.sound v small there)
      (λ u h e q. true-false (ap (has (removed bits v)) (sym q) ∙ e) (remove_out bits n.ready.sound v small there))
      (λ u h d. remove_other bits n.ready.sound v small there u h d))
      (λ l s. waking-start v bits s n.ready.sound (λ u h e q. omega (arith, s.lists.upto (2 * u) (n.ready.only u h e).0.left)) (λ u h d. refl))
      n.passed

  pub marked_start : UsersMarked m (put_ordered w m i v) v heads links (taken_from scan v bits)
  marked_start = record {
    lists = lists_wider (use_of (put_ordered w m i v) m) (2 * passed_to scan v) (2 * (m + 1)) heads links (omega (arith, passed_on.under)) passed_on.lists;
    pairs = passed_on.pairs;
    waking = waking;
  }

-- a use is passed, and its AND has its mark
module _ (m : ℕ) (w : List ℕ) (v : ℕ) (heads links : List ℕ) (fits : HasCapacity w m) (lists : Lists (use_of w m) (2 * (m + 1)) heads links) (pairs : (o : ℕ) → Listed links o → Both links (o / 2))
    (o : ℕ) (listed : Listed links o) (its : use_of w m o ≡ v) (bits : List ℕ) (k : Waking m w links v o bits) where
  pub its_and : o / 2 ≤ m
  its_and = omega (arith, lists.upto o listed)

  -- no use of v is between one and its link
  past : (u : ℕ) → ¬ (u ≡ o / 2) → ((p : ℕ) → p / 2 ≡ u → Listed links p → use_of w m p ≡ v → get_or links o 0 < p) → (p : ℕ) → p / 2 ≡ u → Listed links p → use_of w m p ≡ v → o < p
  past u d free p x y z = by_leb p o
      (λ l. absurd (by_eqb p o (λ q. d (sym x ∙ ap (λ (j : ℕ). j / 2) q)) (λ e. omega (arith, free p x y z, lists.nexts o p listed y (omega arith) (z ∙ sym its)))))
      (λ l. l)

  small : o / 2 < 4096
  small = omega (arith, its_and, fits.small)

  pub woken : Waking m w links v (get_or links o 0) (pick_words (is_ready w m (o / 2)) (added bits (o / 2)) bits)
  woken = by_truth (is_ready w m (o / 2))
      (λ t. rw t (record {
        sound = add-set bits k.sound (o / 2) small;
        only = λ u h e. by_eqb u (o / 2)
            (λ q. rw q (pairs o listed, t))
            (λ d. k.only u h (sym (add_other bits k.sound (o / 2) small u h d) ∙ e));
        all = λ u h b e free. by_eqb u (o / 2)
            (λ q. ap (has (added bits (o / 2))) q ∙ add_in bits k.sound (o / 2) small)
            (λ d. add_other bits k.sound (o / 2) small u (omega (arith, fits.small)) d ∙ k.all u h b e (past u d free));
      }))
      (λ t. rw t (record {
        sound = k.sound;
        only = k.only;
        all = λ u h b e free. by_eqb u (o / 2)
            (λ q. absurd (true-false e (ap (is_ready w m) q ∙ t)))
            (λ d. k.all u h b e (past u d free));
      }))
