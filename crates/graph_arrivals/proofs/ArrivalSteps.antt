-- The lines one after the other: the reader's invariant at its start, a step on, and where it stops.
use Rattle.std.specs.Prelude.{Ok, Err}
use Rattle.base.specs.{ℕ, ◌+◌, ◌≤◌, ◌<◌, arith, ◌≡◌, refl, sym, ap, ◌∙◌, subst, Bool, true, false, not, ◌||◌, List, [], ◌∷◌, eqb, length}
use Rattle.base.specs.{get_or, set, length-set, replicate, length-replicate, get_or-replicate, get_or-set_same, get_or-set_other, eqb-true}
use Rattle.base.specs.{eqb-false}
use Rattle.model.specs.{elem, any, Read, holds, fault, next, verdict_of, InputArrival, read_input_arrivals}
use Rattle.model.specs.declared.Refusal.{Refusal}
use Rattle.base_words.specs.{slot_at, slot_addr, input_arrival_addr}
use Rattle.base_words.proofs.{length-put, get_put-below}
use Rattle.base_text.specs.declared.Cursor.{Cursor}
use Rattle.base_text.proofs.{lines_none}
use Rattle.graph_arrivals.specs.{validated_at, Listable, put_input_arrival, put_all, passed}
use Rattle.graph_arrivals.proofs.ArrivalLines.{lines_of, Marked, step_read, step_passed, step-read, step-passed, validated-good}

-- ---- the words

module _ (w : List ℕ) (m inputs : ℕ) (l : Listable w m inputs) (i t : ℕ) (b : i < inputs) where
  pub input-arrival-fits : input_arrival_addr m (slot_at w m (i + 1)) + 1 ≤ length w
  input-arrival-fits = omega (arith, l.capacity.capacity, l.within i b)

  pub put-long : length (put_input_arrival w m i t) ≡ length w
  unfolding put_input_arrival
  put-long = length-put w (input_arrival_addr m (slot_at w m (i + 1))) (t ∷ []) input-arrival-fits

  -- the slots stay
  pub put-slot : (k : ℕ) → k ≤ m → slot_at (put_input_arrival w m i t) m k ≡ slot_at w m k
  unfolding put_input_arrival
  put-slot k h = get_put-below w (input_arrival_addr m (slot_at w m (i + 1))) (t ∷ []) input-arrival-fits (slot_addr m k) (omega arith)

  pub put_listable : Listable (put_input_arrival w m i t) m inputs
  put_listable = record {
    capacity = record { small = l.capacity.small; capacity = omega (arith, l.capacity.capacity, put-long) };
    few = l.few;
    within = λ k h. omega (arith, put-slot (k + 1) (omega (arith, l.few)), l.within k h);
  }

-- ---- the marks

pub none-marked : (seen : List ℕ) → seen ≡ replicate 4096 0 → Marked seen []
unfolding elem any
none-marked seen e = record {
  long = ap length e ∙ length-replicate {A = ℕ} 4096 0;
  here = λ k h. ap (λ (x : List ℕ). eqb (get_or x k 0) 0) e ∙ ap (λ (x : ℕ). eqb x 0) (get_or-replicate 4096 k 0 0 h);
}

pub one-marked : (seen before : List ℕ) (i : ℕ) → i < 4096 → Marked seen before → Marked (set seen i 1) (i ∷ before)
unfolding elem any
one-marked seen before i b o = record { long = length-set seen i 1 ∙ o.long; here = λ k h. go k h (eqb k i) refl }
  where
    go : (k : ℕ) → k < 4096 → (t : Bool) → eqb k i ≡ t → eqb (get_or (set seen i 1) k 0) 0 ≡ not (eqb k i || elem k before)
    go k h true e =
        let q : k ≡ i = eqb-true k i e in
        let x : get_or (set seen i 1) k 0 ≡ 1 = ap (λ (y : ℕ). get_or (set seen i 1) y 0) q ∙ get_or-set_same seen i 1 0 (omega (arith, o.long)) in
        rw (e, x)
    go k h false e = rw (e, get_or-set_other seen i k 1 0 (eqb-false k i e)) (o.here k h)

-- ---- the lines so far

verdict-next : (r : Read (List InputArrival)) (x : InputArrival) → verdict_of (next r (λ es. holds (x ∷ es))) ≡ verdict_of r
unfolding next verdict_of
verdict-next (holds es) x = refl
verdict-next (fault n k) x = refl

-- what the lines from `at` on give with what is stored and marked so far is what the lines from `from` on give
pub record SoFar (s : List ℕ) (from m inputs : ℕ) (w₀ seen : List ℕ) (at : ℕ) (w : List ℕ) : Type 0 where
  pub before : List ℕ
  pub marked : Marked seen before
  pub ready : Listable w m inputs
  pub long : length w ≡ length w₀
  pub verdict : verdict_of (read_input_arrivals inputs [] (lines_of s from)) ≡ verdict_of (read_input_arrivals inputs before (lines_of s at))
  pub words : put_all w₀ m (passed inputs [] (lines_of s from)) ≡ put_all w m (passed inputs before (lines_of s at))

pub so_far-first : (s : List ℕ) (from m inputs : ℕ) (w seen : List ℕ) → Listable w m inputs → seen ≡ replicate 4096 0 → SoFar s from m inputs w seen from w
so_far-first s from m inputs w seen l e = record { before = []; marked = none-marked seen e; ready = l; long = refl; verdict = refl; words = refl }

module _ (s : List ℕ) (from m inputs : ℕ) (w₀ seen : List ℕ) (at : ℕ) (w : List ℕ) (f : SoFar s from m inputs w₀ seen at w) where
  few : inputs ≤ 4096
  few = omega (arith, f.ready.few, f.ready.capacity.small)

  pub so_far_last : length s ≤ at → ((Ok tt) ≡ verdict_of (read_input_arrivals inputs [] (lines_of s from))) × (w ≡ put_all w₀ m (passed inputs [] (lines_of s from)))
  unfolding read_input_arrivals passed verdict_of put_all
  so_far_last h = (sym (f.verdict ∙ rw (lines_none s at h)), sym (f.words ∙ rw (lines_none s at h)))

  module _ (h : at < length s) where
    pub so_far_stop : (r : Refusal) → validated_at s at inputs seen ≡ Err r
        → (Err r ≡ verdict_of (read_input_arrivals inputs [] (lines_of s from))) × (w ≡ put_all w₀ m (passed inputs [] (lines_of s from)))
    unfolding verdict_of step_read step_passed put_all
    so_far_stop r e = (
      sym (f.verdict ∙ ap verdict_of (step-read s at h inputs few seen f.before f.marked ∙ ap (step_read s at h inputs few seen f.before f.marked) e)),
      sym (f.words ∙ ap (put_all w m) (step-passed s at h inputs few seen f.before f.marked ∙ ap (step_passed s at h inputs few seen f.before f.marked) e)),
    )

    pub so_far_more : (i t : ℕ) (c : Cursor) → validated_at s at inputs seen ≡ Ok (i, t, c) → (v next : List ℕ) → v ≡ put_input_arrival w m i t → next ≡ set seen i 1
        → SoFar s from m inputs w₀ next c.at v
    unfolding step_read step_passed put_all
    so_far_more i t c e v next p q =
        let g = validated-good s at inputs seen i t c e in let x : InputArrival = record { index = i; arrival = t } in
        subst (λ (y : List ℕ). SoFar s from m inputs w₀ y c.at v) (sym q)
        (subst (SoFar s from m inputs w₀ (set seen i 1) c.at) (sym p)
        (record {
          before = i ∷ f.before;
          marked = one-marked seen f.before i (omega (arith, g.0, few)) f.marked;
          ready = put_listable w m inputs f.ready i t g.0;
          long = put-long w m inputs f.ready i t g.0 ∙ f.long;
          verdict = f.verdict ∙ ap verdict_of (step-read s at h inputs few seen f.before f.marked ∙ ap (step_read s at h inputs few seen f.before f.marked) e)
              ∙ verdict-next (read_input_arrivals inputs (i ∷ f.before) (lines_of s c.at)) x;
          words = f.words ∙ ap (put_all w m) (step-passed s at h inputs few seen f.before f.marked ∙ ap (step_passed s at h inputs few seen f.before f.marked) e);
        }))
