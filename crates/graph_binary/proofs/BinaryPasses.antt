-- The loops over expected lines:
--     turn-..          an output line's turn, and an AND's, by what was found
--     Rest             what the lines from line k on give is what all lines of the pass give; rest-..
use Rattle.std.specs.Prelude.{Ok, Err}
use Rattle.base.specs.{None, Some, ℕ, suc, ◌+◌, ◌-◌, ◌*◌, ◌≤◌, ◌<◌, arith, ◌≡◌, sym, ap, ◌∙◌, true, false, List, length, lt-ltb, le-ltb}
use Rattle.model.specs.{refused_with}
use Rattle.model.specs.declared.Header.{Header}
use Rattle.model.specs.declared.Refusal.{Refusal}
use Rattle.base_text.specs.declared.Cursor.{Cursor}
use Rattle.base_text.specs.{number_then}
use Rattle.graph_order.specs.{Fit}
use Rattle.graph_loading.specs.declared.Literals.{Literals}
use Rattle.graph_loading.specs.{LineResult, literals, expected_count, literals_fit, LiteralsFit, stored_line}
use Rattle.graph_binary.specs.{gate_of, output_step, output_left, gate_step, gate_left, pass_step, pass_words}
use Rattle.graph_binary.proofs.BinaryGates.{gate-below}

-- ---- a step

module _ (s : List ℕ) (h : Header) (k at : ℕ) (w : List ℕ) where
  pub step-missing : length s ≤ at → (output_step s h k at w ≡ refused_with 11 (length s)) × (output_left s h k at w ≡ w)
  unfolding output_step output_left
  step-missing e = (rw (le-ltb at (length s) e), rw (le-ltb at (length s) e))

  module _ (in_text : at < length s) where
    pub step-broken : number_then s at 10 ≡ None → (output_step s h k at w ≡ refused_with 11 at) × (output_left s h k at w ≡ w)
    unfolding output_step output_left
    step-broken e = (rw (lt-ltb at (length s) in_text, e), rw (lt-ltb at (length s) in_text, e))

    pub step-over : (a : ℕ) (c : Cursor) → number_then s at 10 ≡ Some (a, c) → literals_fit h.size (literals a 0 0 c.at) ≡ false
        → (output_step s h k at w ≡ refused_with 12 at) × (output_left s h k at w ≡ w)
    unfolding output_step output_left
    step-over a c e f = (rw (lt-ltb at (length s) in_text, e, f), rw (lt-ltb at (length s) in_text, e, f))

    pub step-output : (a : ℕ) (c : Cursor) → number_then s at 10 ≡ Some (a, c) → literals_fit h.size (literals a 0 0 c.at) ≡ true
        → (output_step s h k at w ≡ Ok c.at) × (output_left s h k at w ≡ stored_line w h k (literals a 0 0 c.at))
    unfolding output_step output_left
    step-output a c e f = (rw (lt-ltb at (length s) in_text, e, f), rw (lt-ltb at (length s) in_text, e, f))

  pub step-gate : (l : Literals) → gate_of s h k at ≡ Ok l → (gate_step s h k at w ≡ Ok l.next) × (gate_left s h k at w ≡ stored_line w h k l)
  unfolding gate_step gate_left
  step-gate l e = (rw e, rw e)

  pub step-refused : (r : Refusal) → gate_of s h k at ≡ Err r → (gate_step s h k at w ≡ Err r) × (gate_left s h k at w ≡ w)
  unfolding gate_step gate_left
  step-refused r e = (rw e, rw e)

  -- an AND's literals are in range
  pub gate-fit : (v : List ℕ) → Fit h v → h.inputs + h.outputs ≤ k → k < expected_count h → (l : Literals) → gate_of s h k at ≡ Ok l → LiteralsFit h.size l
  gate-fit v fit low high l e =
      let b = gate-below s at (2 * (k - h.outputs + 1)) l e in
      record { first = omega (arith, fit.lines, b.is_first); left = omega (arith, fit.lines, b.left); right = omega (arith, fit.lines, b.right) }

-- ---- the lines that are left

pub record Rest (advance : ℕ → ℕ → List ℕ → LineResult) (left : ℕ → ℕ → List ℕ → List ℕ) (count from start : ℕ) (w : List ℕ) (k at : ℕ) (x : List ℕ) : Type 0 where
  pub since : from ≤ k
  pub upto : k ≤ from + count
  pub long : length x ≡ length w
  pub steps : pass_step advance left count from start w ≡ pass_step advance left (from + count - k) k at x
  pub words : pass_words advance left count from start w ≡ pass_words advance left (from + count - k) k at x

module _ (advance : ℕ → ℕ → List ℕ → LineResult) (left : ℕ → ℕ → List ℕ → List ℕ) where
  pub pass_on : (n k at : ℕ) (w : List ℕ) (j end : ℕ) → j ≡ suc n → advance k at w ≡ Ok end
      → (pass_step advance left j k at w ≡ pass_step advance left n (k + 1) end (left k at w)) × (pass_words advance left j k at w ≡ pass_words advance left n (k + 1) end (left k at w))
  unfolding pass_step pass_words
  pass_on n k at w j end i e = (ap (λ (x : ℕ). pass_step advance left x k at w) i ∙ rw e, ap (λ (x : ℕ). pass_words advance left x k at w) i ∙ rw e)

  pub pass_stop : (n k at : ℕ) (w : List ℕ) (j : ℕ) (r : Refusal) → j ≡ suc n → advance k at w ≡ Err r
      → (pass_step advance left j k at w ≡ Err r) × (pass_words advance left j k at w ≡ left k at w)
  unfolding pass_step pass_words
  pass_stop n k at w j r i e = (ap (λ (x : ℕ). pass_step advance left x k at w) i ∙ rw e, ap (λ (x : ℕ). pass_words advance left x k at w) i ∙ rw e)

  pub pass_end : (k at : ℕ) (w : List ℕ) (j : ℕ) → j ≡ 0 → (pass_step advance left j k at w ≡ Ok at) × (pass_words advance left j k at w ≡ w)
  unfolding pass_step pass_words
  pass_end k at w j i = (ap (λ (x : ℕ). pass_step advance left x k at w) i, ap (λ (x : ℕ). pass_words advance left x k at w) i)

  module _ (count from start : ℕ) (w : List ℕ) (k at : ℕ) (x : List ℕ) (r : Rest advance left count from start w k at x) where
    pub rest-on : k < from + count → (end : ℕ) (y : List ℕ) → advance k at x ≡ Ok end → y ≡ left k at x → length y ≡ length x → Rest advance left count from start w (k + 1) end y
    rest-on l end y e f g =
        let t = pass_on (from + count - (k + 1)) k at x (from + count - k) end (omega arith) e in
        record {
          since = omega (arith, r.since);
          upto = omega arith;
          long = g ∙ r.long;
          steps = r.steps ∙ t.0 ∙ ap (pass_step advance left (from + count - (k + 1)) (k + 1) end) (sym f);
          words = r.words ∙ t.1 ∙ ap (pass_words advance left (from + count - (k + 1)) (k + 1) end) (sym f);
        }

    pub rest_stop : k < from + count → (q : Refusal) (y : List ℕ) → advance k at x ≡ Err q → y ≡ left k at x
        → (Err q ≡ pass_step advance left count from start w) × (y ≡ pass_words advance left count from start w)
    rest_stop l q y e f =
        let t = pass_stop (from + count - (k + 1)) k at x (from + count - k) q (omega arith) e in
        (sym (r.steps ∙ t.0), f ∙ sym (r.words ∙ t.1))

    pub rest_end : from + count ≤ k → (Ok at ≡ pass_step advance left count from start w) × (x ≡ pass_words advance left count from start w)
    rest_end l =
        let t = pass_end k at x (from + count - k) (omega arith) in
        (sym (r.steps ∙ t.0), sym (r.words ∙ t.1))
