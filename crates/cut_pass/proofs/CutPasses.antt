-- What joins the two passes of the layer:
--     ready_filling               what `lists` leaves is what `functions` asks for
--     after_accepted, _refused    what both leave
use Rattle.std.specs.Prelude.{Ok, Err}
use Rattle.model.specs.{Verdict}
use Rattle.model.specs.declared.Refusal.{Refusal}
use Rattle.base.specs.{◌≡◌, sym, ap, ◌∙◌, subst, List, ℕ, ◌/◌, ◌≤◌, ◌<◌, arith, get_or}
use Rattle.base_words.specs.{and_kind, kind_at, slot_at, slot_addr, position_at, kind_addr, left_addr, right_addr, counts_from}
use Rattle.cut_lists.proofs.{ListedSoFar, all-represented}
use Rattle.cut_functions.proofs.{ordered-kept, same_place}
use Rattle.cut_pass.specs.{Ready, filled_after, enumerated}
use Rattle.cut_lists.specs.CutLists as lists
use Rattle.cut_functions.specs.FunctionWords as filling

pub ready_filling : (w : List ℕ) (m n : ℕ) → Ready w m n → filling.Ready (lists.stored w m (lists.listing w m n).known) m n
ready_filling w m n r =
    record {
      ordered = ordered-kept w m out r.ordered represented.long represented.below;
      within = r.lists.ordered;
      slots = λ i h. omega (arith, r.lists.slots i h, represented.below (slot_addr m i) (omega (arith, r.lists.ordered)));
      alive =
          λ i h.
          let s : slot_at out m i ≡ slot_at w m i = represented.below (slot_addr m i) (omega (arith, r.lists.ordered)) in
          let a : position_at out m (slot_at w m i) ≡ position_at w m (slot_at w m i) = same_place w m out r.ordered represented.long represented.below (slot_at w m i) (r.lists.slots i h) in
          subst (λ (x : ℕ). 0 < position_at out m x) (sym s) (omega (arith, r.alive i h));
      sound = represented.sound;
      left-earlier = λ i h k. moved i h (left_addr m) (λ u l. omega (arith, r.ordered.capacity.small)) k (r.left-earlier i h (kind-here i h k));
      right-earlier = λ i h k. moved i h (right_addr m) (λ u l. omega (arith, r.ordered.capacity.small)) k (r.right-earlier i h (kind-here i h k));
    }
  where
    out : List ℕ
    out = lists.stored w m (lists.listing w m n).known

    represented : ListedSoFar w m (lists.listing w m n).known out
    represented = all-represented w m n r.lists

    same-slot : (i : ℕ) → i < n → slot_at out m i ≡ slot_at w m i
    same-slot i h = represented.below (slot_addr m i) (omega (arith, r.lists.ordered))

    kind-here : (i : ℕ) → i < n → kind_at out m (slot_at out m i) ≡ and_kind → kind_at w m (slot_at w m i) ≡ and_kind
    kind-here i h k = sym (represented.below (kind_addr m (slot_at w m i)) (omega (arith, r.lists.slots i h))) ∙ ap (kind_at out m) (sym (same-slot i h)) ∙ k

    -- an operand that stands in an earlier slot, over the words with the lists
    moved : (i : ℕ) → i < n → (at : ℕ → ℕ) → ((u : ℕ) → u ≤ m → at u < counts_from m) → kind_at out m (slot_at out m i) ≡ and_kind
        → filling.Earlier w m i (get_or w (at (slot_at w m i)) 0 / 2) → filling.Earlier out m i (get_or out (at (slot_at out m i)) 0 / 2)
    moved i h at low k e =
        record {
          slot = e.slot;
          before = e.before;
          there =
              same-slot e.slot (omega (arith, e.before))
              ∙ e.there
              ∙ sym (ap (λ (q : ℕ). q / 2) (ap (λ (q : ℕ). get_or out (at q) 0) (same-slot i h) ∙ represented.below (at (slot_at w m i)) (low (slot_at w m i) (r.lists.slots i h))));
        }

module _ (w : List ℕ) (m n : ℕ) where
  pub after_accepted : (lists.listing w m n).answer ≡ Ok tt → enumerated w m n ≡ filling.filled (lists.stored w m (lists.listing w m n).known) m n
  unfolding enumerated filled_after
  after_accepted e = ap (λ (a : Verdict). filled_after a (lists.stored w m (lists.listing w m n).known) m n) e

  pub after_refused : (r : Refusal) → (lists.listing w m n).answer ≡ Err r → enumerated w m n ≡ lists.stored w m (lists.listing w m n).known
  unfolding enumerated filled_after
  after_refused r e = ap (λ (a : Verdict). filled_after a (lists.stored w m (lists.listing w m n).known) m n) e
