-- The step of a variable: what it stores has room, and what it leaves.
--     sooner_is           the code's phase with inverters is `model`'s
--     stored_here, stored_other       the phases of the variable, and those of others
--     step_kept, step-early           only words of the phases are written; arrivals grow by two delays at most
--     up-kept, up-early               so for the first variables of the topological order
use Rattle.base.specs.{ℕ, zero, suc, ◌+◌, ◌*◌, ◌/◌, ◌≤◌, ◌<◌, arith, ◌≡◌, refl, sym, ap, subst, ◌∙◌, Bool, true, false, not, cond, List}
use Rattle.base.specs.{◌∷◌, eqb, length, eqb-true, eqb-false}
use Rattle.model.specs.{var_of, negated, Phases, phase_of, earlier, choose, inverter_phases, joined}
use Rattle.model.specs.declared.Cell.{Cell}
use Rattle.model.specs.declared.Phase.{Phase}
use Rattle.base_words.specs.{put_at, HasCapacity, positive_addr, negative_addr, lists_from, slot_at, PhaseFits, phase_words, positive_at, negative_at}
use Rattle.base_words.specs.{phases_at, phase_at}
use Rattle.base_words.proofs.{length-put, length-phase, phase-put, phase-apart}
use Rattle.cells_matching.specs.{Inverter, inverter_of, inverted, Matchable}
use Rattle.cells_matching.proofs.{inverter-chosen}
use Rattle.cover_choice.specs.{CutsIn, InputArrivalIn, uninverted_at, put_phases, chosen_step, chosen_up, Early, Choosable, Unchosen}
use Rattle.cover_choice.proofs.KeptWords.{PhasesKept, kept_same, kept_on, kept_put, cuts_in_kept, input-arrival_in_kept, slots_in_kept}
use Rattle.cover_choice.proofs.PhaseBounds.{Fitting, uninverted-fit, with_fit}

pub sooner_is : (cells : List Cell) (inv : Inverter) (p q p' q' x r : Phase) → inv ≡ inverter_of cells → p ≡ p' → q ≡ q' → x ≡ inverted inv q → r ≡ earlier p x
    → r ≡ choose (p' ∷ inverter_phases cells 0 q')
sooner_is cells inv p q p' q' x r e f h i j =
    j ∙ ap (earlier p) (i ∙ (λ k. inverted (e k) (h k))) ∙ ap (λ (y : Phase). earlier y (inverted (inverter_of cells) q')) f ∙ sym (inverter-chosen cells p' q')

-- ---- both phases stored

module _ (w : List ℕ) (m v : ℕ) (p : Phases) (r : HasCapacity w m) (h : v ≤ m) where
  first : List ℕ
  first = put_at w (positive_addr m v) (phase_words p.positive)

  fits-first : positive_addr m v + length (phase_words p.positive) ≤ length w
  fits-first = omega (arith, r.capacity, length-phase p.positive)

  length-first : length first ≡ length w
  unfolding first
  length-first = length-put w (positive_addr m v) (phase_words p.positive) fits-first

  fits-second : negative_addr m v + length (phase_words p.negative) ≤ length first
  fits-second = omega (arith, r.capacity, length-phase p.negative, length-first)

  pub stored-kept : PhasesKept m w (put_phases w m v p)
  unfolding put_phases first
  stored-kept =
      let a : ℕ = positive_addr m 0 in
      let b : ℕ = lists_from m in
      kept_on a b w first (put_phases w m v p)
      (kept_put a b w (positive_addr m v) (phase_words p.positive) fits-first (omega arith) (omega (arith, length-phase p.positive)))
      (kept_put a b first (negative_addr m v) (phase_words p.negative) fits-second (omega arith) (omega (arith, length-phase p.negative)))

  module _ (f : PhaseFits p.positive) (g : PhaseFits p.negative) where
    positive-here : positive_at (put_phases w m v p) m v ≡ p.positive
    unfolding put_phases first
    positive-here =
        let l = length-phase p.negative in
        phase-apart first (negative_addr m v) (phase_words p.negative) fits-second (positive_addr m v) (record { apart = λ i j x y z. omega arith })
        ∙ phase-put w (positive_addr m v) p.positive (omega (arith, r.capacity)) f

    negative-here : negative_at (put_phases w m v p) m v ≡ p.negative
    unfolding put_phases first
    negative-here = phase-put first (negative_addr m v) p.negative (omega (arith, r.capacity, length-first)) g

    pub stored_here : phases_at (put_phases w m v p) m v ≡ p
    stored_here = λ i. record { positive = positive-here i; negative = negative-here i }

  module _ (u : ℕ) (b : u ≤ m) (d : u ≡ v → ⊥) where
    positive_other : positive_at (put_phases w m v p) m u ≡ positive_at w m u
    unfolding put_phases first
    positive_other =
        let l = length-phase p.positive in
        let l' = length-phase p.negative in
        phase-apart first (negative_addr m v) (phase_words p.negative) fits-second (positive_addr m u) (record { apart = λ i j x y z. omega arith })
        ∙ phase-apart w (positive_addr m v) (phase_words p.positive) fits-first (positive_addr m u) (record { apart = λ i j x y z. omega arith })

    negative_other : negative_at (put_phases w m v p) m u ≡ negative_at w m u
    unfolding put_phases first
    negative_other =
        let l = length-phase p.positive in
        let l' = length-phase p.negative in
        phase-apart first (negative_addr m v) (phase_words p.negative) fits-second (negative_addr m u) (record { apart = λ i j x y z. omega arith })
        ∙ phase-apart w (positive_addr m v) (phase_words p.positive) fits-first (negative_addr m u) (record { apart = λ i j x y z. omega arith })

    pub stored_other : phases_at (put_phases w m v p) m u ≡ phases_at w m u
    stored_other = λ i. record { positive = positive_other i; negative = negative_other i }

-- ---- a step

module _ (cells : List Cell) (us : Matchable cells) (w : List ℕ) (m t : ℕ) (cuts : CutsIn w m) (input_arrival : InputArrivalIn w m) (e : Early w m t) (v : ℕ) (h : v ≤ m) where
  pub step-fit : (b : Bool) → Fitting (t + 262142) (choose (uninverted_at cells w m v b ∷ inverter_phases cells 0 (uninverted_at cells w m v (not b))))
  step-fit b =
      let f = with_fit cells us (t + 131071) (uninverted_at cells w m v b) (uninverted_at cells w m v (not b)) (uninverted-fit cells us w m t e cuts input_arrival v h b) (uninverted-fit cells us w m t e cuts input_arrival v h (not b)) in
      record { fit = f.fit; soon = omega (arith, f.soon) }

  pub step_kept : PhasesKept m w (chosen_step cells w m v)
  unfolding chosen_step
  step_kept = stored-kept w m v (joined cells (uninverted_at cells w m v false) (uninverted_at cells w m v true)) cuts.capacity h

  pub step-here : phases_at (chosen_step cells w m v) m v ≡ joined cells (uninverted_at cells w m v false) (uninverted_at cells w m v true)
  unfolding chosen_step joined
  step-here =
      stored_here w m v (joined cells (uninverted_at cells w m v false) (uninverted_at cells w m v true)) cuts.capacity h (step-fit false).fit (step-fit true).fit

  pub step_other : (u : ℕ) → u ≤ m → (u ≡ v → ⊥) → phases_at (chosen_step cells w m v) m u ≡ phases_at w m u
  unfolding chosen_step
  step_other u b d = stored_other w m v (joined cells (uninverted_at cells w m v false) (uninverted_at cells w m v true)) cuts.capacity h u b d

  pub step-early : Early (chosen_step cells w m v) m (t + 262142)
  unfolding phase_of joined var_of
  step-early = record { early = λ l b. go l b (eqb (l / 2) v) refl }
    where
      pick : Bool → Phases → Phase
      pick b p = cond b p.negative p.positive

      mine : (b : Bool) → (pick b (joined cells (uninverted_at cells w m v false) (uninverted_at cells w m v true))).arrival ≤ t + 262142
      mine true = (step-fit true).soon
      mine false = (step-fit false).soon

      go : (l : ℕ) → l ≤ 2 * m + 1 → (s : Bool) → eqb (l / 2) v ≡ s → (phase_at (chosen_step cells w m v) m l).arrival ≤ t + 262142
      go l b true q =
          subst (λ (p : Phases). (pick (negated l) p).arrival ≤ t + 262142)
          (sym (ap (phases_at (chosen_step cells w m v) m) (eqb-true (l / 2) v q) ∙ step-here)) (mine (negated l))
      go l b false q =
          subst (λ (p : Phases). (pick (negated l) p).arrival ≤ t + 262142)
          (sym (step_other (l / 2) (omega arith) (eqb-false (l / 2) v q))) (omega (arith, e.early l b))

-- ---- the first variables of the topological order

module _ (cells : List Cell) (us : Matchable cells) (w : List ℕ) (m n : ℕ) (un : Unchosen w m n) where
  -- after i turns
  pub record After (i : ℕ) : Type 0 where
    pub kept : PhasesKept m w (chosen_up cells w m i)
    pub early : Early (chosen_up cells w m i) m (262142 * i)

  pub after-cuts : (i : ℕ) → PhasesKept m w (chosen_up cells w m i) → CutsIn (chosen_up cells w m i) m
  after-cuts i k = cuts_in_kept m (positive_addr m 0) (lists_from m) w (chosen_up cells w m i) k (omega arith) (omega arith) un.cuts

  after-input-arrival : (i : ℕ) → PhasesKept m w (chosen_up cells w m i) → InputArrivalIn (chosen_up cells w m i) m
  after-input-arrival i k = input-arrival_in_kept m (positive_addr m 0) (lists_from m) w (chosen_up cells w m i) k (omega arith) un.input_arrival

  pub after-slot : (i : ℕ) → i < n → PhasesKept m w (chosen_up cells w m i) → slot_at (chosen_up cells w m i) m i ≤ m
  after-slot i h k =
      (slots_in_kept m (positive_addr m 0) (lists_from m) w (chosen_up cells w m i) k (omega arith) (omega arith) n un.slots).within i h

  pub up_after : (i : ℕ) → i ≤ n → After i
  unfolding chosen_up
  up_after zero h = record { kept = kept_same (positive_addr m 0) (lists_from m) w; early = un.early }
  up_after (suc i) h =
      let a = up_after i (omega arith) in
      let w' : List ℕ = chosen_up cells w m i in
      let v : ℕ = slot_at w' m i in
      let b : v ≤ m = after-slot i h a.kept in
      let c : CutsIn w' m = after-cuts i a.kept in
      let d : InputArrivalIn w' m = after-input-arrival i a.kept in
      let e : 262142 * i + 262142 ≡ 262142 * suc i = omega arith in
      record {
        kept = kept_on (positive_addr m 0) (lists_from m) w w' (chosen_step cells w' m v) a.kept (step_kept cells us w' m (262142 * i) c d a.early v b);
        early = subst (Early (chosen_step cells w' m v) m) e (step-early cells us w' m (262142 * i) c d a.early v b);
      }

  -- arrivals stay far below what the words have room for
  pub up_choosable : (i : ℕ) → i ≤ n → Choosable (chosen_up cells w m i) m
  up_choosable i h =
      let a = up_after i h in
      record {
        cuts = after-cuts i a.kept;
        input_arrival = after-input-arrival i a.kept;
        early = record { early = λ l b. omega (arith, a.early.early l b, un.slots.few, un.slots.capacity.small) };
      }
