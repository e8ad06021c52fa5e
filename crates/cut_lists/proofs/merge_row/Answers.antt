-- `cut_lists::merge_row` meets its contract.
use Rattle.base.specs.{◌≡◌, sym, ap, ◌∙◌, List, [], ◌∷◌, ℕ, suc, ◌+◌, ◌-◌, ◌*◌, ◌%◌, ◌≤◌, ◌<◌, compare, arith, rules, bit_and, length, drop}
use Rattle.base.specs.{length-take-le}
use Rattle.model.specs.{union}
use Rattle.model.specs.declared.Cut.{Cut}
use Rattle.base_words.specs.{count_at, leaves_of, leaves_at, cuts_at, Good}
use Rattle.base_words.proofs.{four-leaves}
use Rattle.cut_lists.specs.{added, key, pack, merge_row_keys, key_capacity, conflict_mask, merge_row_mask}
use Rattle.cut_lists.proofs.MergeRows.{merge_row-narrow, merge_row-wide, at_hand, cut-good, none_left}
use Rattle.cut_lists.proofs.CutPacking.{Packs, start, on-left, on-right, on_both, left-fits, right-fits, both-fits, over-left}
use Rattle.cut_lists.proofs.CutPacking.{over-right, at-end, barred}
use Rattle.cut_lists.proofs.merge_row.Goals as goal

none_yet : (c : List ℕ) (ds : List (List ℕ)) (ks : List ℕ) → ds ≡ [] → ks ≡ merge_row_keys c ds ks
unfolding merge_row_keys
none_yet c ds ks e = rw e

-- the cut x, packed
x-packs : (x : Cut) (p : ℕ) → p ≡ pack (leaves_of x) → length x.leaves ≡ 4 → x.count ≤ 4 → Good (leaves_of x) → Packs p x.count (leaves_of x)
x-packs x p e four few g = record { is = e; size = sym (length-take-le x.count x.leaves (omega (arith, few, four))); good = g }

module _ (w : List ℕ) (m v j : ℕ) (some : 0 < j) (within : j ≤ count_at w m v) where
  low : j - 1 < count_at w m v
  low = omega arith

  -- the pairs from the cut before the j-th on are its own and those of the cuts behind it
  pair-more : (X ks : List ℕ) →
      let ds : List (List ℕ) = cuts_at w m v in
      merge_row_keys X (drop (j - 1) ds) ks ≡ merge_row_keys X (leaves_at w m v (j - 1) ∷ drop j ds) ks
  pair-more X ks =
      let e : suc (j - 1) ≡ j = omega arith in
      ap (λ (q : List (List ℕ)). merge_row_keys X q ks)
      (at_hand w m v (j - 1) low ∙ ap (λ (k : ℕ). leaves_at w m v (j - 1) ∷ drop k (cuts_at w m v)) e)

  -- a pair whose union is too long adds nothing
  wide-pair : (xs xn n : ℕ) (keys ks : List ℕ) →
      n ≤ key_capacity → ((X : List ℕ) → Packs xs xn X → drop n keys ≡ merge_row_keys X (drop j (cuts_at w m v)) ks)
      → ((X : List ℕ) → Packs xs xn X → 4 < length (union compare X (leaves_at w m v (j - 1))))
      → record { within : n ≤ key_capacity; merged : (X : List ℕ) → Packs xs xn X → drop n keys ≡ merge_row_keys X (drop (j - 1) (cuts_at w m v)) ks }
  wide-pair xs xn n keys ks few so_far wide =
      record { within = few; merged = λ X p. so_far X p ∙ sym (pair-more X _ ∙ merge_row-wide X _ _ _ (wide X p)) }

pub pairs-init : goal.pairs-init
pairs-init c =
    let w : List ℕ = c.args.work.now in
    let e : drop c.count-j.result (cuts_at w c.args.m c.args.v) ≡ [] = rw c.count-j.ensures (none_left w c.args.m c.args.v) in
    record { within = c.requires.6.fits; merged = λ X p. none_yet X _ _ e }

pub pairs-preserved-then-masks-j-ne0 : goal.pairs-preserved-then-masks-j-ne0
pairs-preserved-then-masks-j-ne0 c =
    let a = c.args in
    let i = c.pairs.invariant in
    let g = c.signature-s in
    let own : g.result * 4294967296 + c.conflict_mask.result ≡ merge_row_mask a.x.count c.packed-xs.result =
    ap (λ (z : ℕ). g.result * 4294967296 + z) c.conflict_mask.ensures.0 ∙ ap (λ (z : ℕ). z * 4294967296 + conflict_mask a.x.count z) g.ensures.0 in
    let l : c.pairs.j - 1 < count_at a.work.now a.m a.v = low a.work.now a.m a.v c.pairs.j c.pairs-test.true (omega arith) in
    wide-pair a.work.now a.m a.v c.pairs.j c.pairs-test.true (omega arith) _ _ _ _ _ i.within i.merged
    (λ X p. barred X _ p (cut-good a.work.now a.m a.v c.requires.2 (c.pairs.j - 1) l) (λ e. c.if-masks-j-ne0.true ((λ z. bit_and (c.requires.7 (c.pairs.j - 1) l z) (own z)) ∙ e)))

pub loop-left-init : goal.loop-left-init
loop-left-init c =
    let a = c.args in
    let j : ℕ = c.pairs.j - 1 in
    let l : j < count_at a.work.now a.m a.v = low a.work.now a.m a.v c.pairs.j c.pairs-test.true (omega arith) in
    λ X p. start X _ _ _ _ _ p
    (record {
      is = c.requires.5 j l;
      size = c.cut_size-left.ensures ∙ sym (length-take-le _ _ (omega (arith, four-leaves a.work.now a.m a.v j, c.requires.2.narrow j l)));
      good = cut-good a.work.now a.m a.v c.requires.2 j l;
    })

pub pairs-preserved-then-left-eq0 : goal.pairs-preserved-then-left-eq0
pairs-preserved-then-left-eq0 c =
    let a = c.args in
    let i = c.pairs.invariant in
    wide-pair a.work.now a.m a.v c.pairs.j c.pairs-test.true (omega arith) _ _ _ _ _ i.within i.merged
    (λ X p. over-left (c.loop-left.invariant X p) c.if-q-p.true c.if-left-eq0.true)

pub further-done-requires : goal.further-done-requires
further-done-requires c =
    let four : length c.args.x.leaves ≡ 4 = search rules in
    left-fits (c.loop-left.invariant _ (x-packs c.args.x _ c.packed-xs.ensures four c.requires.3 c.requires.4)) c.if-q-p.true (omega (arith, c.if-left-eq0.false))

pub loop-left-preserved-then-q-p : goal.loop-left-preserved-then-q-p
loop-left-preserved-then-q-p c =
    λ X p. rw c.further-done.ensures (on-left (c.loop-left.invariant X p) c.if-q-p.true (omega (arith, c.if-left-eq0.false)))

pub pairs-preserved-then-right-eq0 : goal.pairs-preserved-then-right-eq0
pairs-preserved-then-right-eq0 c =
    let a = c.args in
    let i = c.pairs.invariant in
    wide-pair a.work.now a.m a.v c.pairs.j c.pairs-test.true (omega arith) _ _ _ _ _ i.within i.merged
    (λ X p. over-right (c.loop-left.invariant X p) c.if-p-q.true c.if-right-eq0.true)

pub further-done-requires-then-p-q : goal.further-done-requires-then-p-q
further-done-requires-then-p-q c =
    let four : length c.args.x.leaves ≡ 4 = search rules in
    right-fits (c.loop-left.invariant _ (x-packs c.args.x _ c.packed-xs.ensures four c.requires.3 c.requires.4)) c.if-p-q.true (omega (arith, c.if-right-eq0.false))

pub loop-left-preserved-then-p-q : goal.loop-left-preserved-then-p-q
loop-left-preserved-then-p-q c =
    λ X p. rw c.further-done-then-p-q.ensures (on-right (c.loop-left.invariant X p) c.if-p-q.true (omega (arith, c.if-right-eq0.false)))

pub further-done-requires-in-loop-left : goal.further-done-requires-in-loop-left
further-done-requires-in-loop-left c =
    let four : length c.args.x.leaves ≡ 4 = search rules in
    both-fits (c.loop-left.invariant _ (x-packs c.args.x _ c.packed-xs.ensures four c.requires.3 c.requires.4))
    (omega (arith, c.if-p-q.false, c.if-q-p.false)) (omega (arith, c.if-p-eq0.false))

pub loop-left-preserved : goal.loop-left-preserved
loop-left-preserved c =
    λ X p. rw c.further-done-in-loop-left.ensures
    (on_both (c.loop-left.invariant X p) (omega (arith, c.if-p-q.false, c.if-q-p.false)) (omega (arith, c.if-p-eq0.false)))

pub pairs-preserved : goal.pairs-preserved
pairs-preserved c =
    let a = c.args in
    let i = c.pairs.invariant in
    let zero_second : c.loop-left.b % 65536 ≡ 0 = omega (arith, c.if-p-q.false, c.if-q-p.false, c.if-p-eq0.true) in record {
      within = c.insert-n.ensures.1;
      merged = λ X p.
          let g = c.loop-left.invariant X p in
          let u = at-end g c.if-p-eq0.true zero_second in
          c.insert-n.ensures.0
          ∙ (λ z. added ((g.sum ∙ ap key (sym u.0)) z) (i.merged X p z))
          ∙ sym (pair-more a.work.now a.m a.v c.pairs.j c.pairs-test.true (omega arith) X _ ∙ merge_row-narrow X _ _ _ (omega (arith, ap length u.0, u.1)));
    }

pub returns : goal.returns
returns c =
    let a = c.args in
    let four : length a.x.leaves ≡ 4 = search rules in
    let zero_left : c.pairs.j ≡ 0 = omega (arith, c.pairs-test.false) in (
      c.pairs.invariant.merged _ (x-packs a.x _ c.packed-xs.ensures four c.requires.3 c.requires.4)
          ∙ ap (λ (j : ℕ). merge_row_keys (leaves_of a.x) (drop j (cuts_at a.work.now a.m a.v)) (drop a.had a.keys.now)) zero_left,
      c.pairs.invariant.within,
    )
