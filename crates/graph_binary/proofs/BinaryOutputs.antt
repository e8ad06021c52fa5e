-- The output lines of the binary form, which are the crate model's expected lines:
--     output_view      the line at a place is missing, broken, or a number with byte 10 behind it
--     output-step      the line at a place is refused by both, or read by both
--     output-behind    and the pass ends where the model's lines do
use Rattle.std.specs.Prelude.{Ok, Err}
use Rattle.base.specs.{Option, ◌≡◌, refl, sym, ap, ◌∙◌, Bool, true, false, ◌&&◌, None, Some, List, [], ◌∷◌, ℕ, zero, suc, ◌+◌, ◌≤◌, ◌<◌, arith, ltb}
use Rattle.base.specs.{length, replicate, ltb-true, ltb-false}
use Rattle.model.specs.{ended, Read, holds, fault, next, unless, closed, an_output, defines, Item, item_literals, read_expected, behind_lines}
use Rattle.model.specs.Graph.{Graph}
use Rattle.model.specs.declared.Header.{Header}
use Rattle.model.specs.declared.Refusal.{Refusal}
use Rattle.base_text.specs.declared.Cursor.{Cursor}
use Rattle.base_text.specs.{number_then, line_at, past_line}
use Rattle.base_text.proofs.{lines_at_lem, lines_none, ten-ended}
use Rattle.graph_order.specs.{Fit}
use Rattle.graph_loading.specs.{LineResult, literals, literals_fit, may_define}
use Rattle.graph_loading.proofs.{expected-output, item_of, lines_of, output-number, expected-missing, expected-none, expected-whole}
use Rattle.graph_binary.specs.{output_step, output_left, pass_step}
use Rattle.graph_binary.proofs.BinaryPasses.{step-missing, step-broken, step-over, step-output, pass_on, pass_stop, pass_end}
use Rattle.graph_binary.proofs.BinaryReading.{Sound, sound-output, Step, stops, goes}

-- ---- the line at a place

data OutputView (s : List ℕ) (at : ℕ) : Type 0 where
  missing : length s ≤ at → OutputView s at
  broken : at < length s → number_then s at 10 ≡ None → item_literals (closed true) an_output (line_at s at) ≡ None → OutputView s at
  whole : at < length s → (a : ℕ) (c : Cursor) → number_then s at 10 ≡ Some (a, c) → item_literals (closed true) an_output (line_at s at) ≡ Some (a ∷ [])
      → ended (line_at s at) ≡ true → past_line s at ≡ c.at → OutputView s at

module _ (s : List ℕ) (at : ℕ) where
  output_view : OutputView s at
  output_view = go (ltb at (length s)) refl
    where
      on : at < length s → (x : Option (ℕ × Cursor)) → number_then s at 10 ≡ x → OutputView s at
      on b None e = broken b e (output-number s at ∙ rw e)
      on b (Some (a, c)) e =
          let ends = ten-ended s at a c e in
          whole b a c e (output-number s at ∙ rw e) ends.0 ends.1

      go : (t : Bool) → ltb at (length s) ≡ t → OutputView s at
      go true e = on (ltb-true at (length s) e) (number_then s at 10) refl
      go false e = missing (ltb-false at (length s) e)

-- ---- a line of the model's

-- n output lines from a place on
abbrev pub outputs_from : List ℕ → Header → ℕ → ℕ → ℕ → Read (List Item)
outputs_from s h n k at = read_expected (closed true) (length s) h.size [] (replicate n an_output) (lines_of s at)

lines-whole : (s : List ℕ) (at end : ℕ) → at < length s → ended (line_at s at) ≡ true → past_line s at ≡ end → lines_of s at ≡ line_at s at ∷ lines_of s end
lines-whole s at end b e p = lines_at_lem s at b ∙ rw (e, p)

module _ (s : List ℕ) (h : Header) (n k at : ℕ) where
  later-missing : length s ≤ at → outputs_from s h (suc n) k at ≡ fault 11 (length s)
  later-missing e =
      ap (read_expected (closed true) (length s) h.size [] (an_output ∷ replicate n an_output)) (lines_none s at e)
      ∙ expected-missing (closed true) (length s) h.size [] an_output (replicate n an_output)

  later-broken : at < length s → item_literals (closed true) an_output (line_at s at) ≡ None → outputs_from s h (suc n) k at ≡ fault 11 at
  unfolding line_at
  later-broken b e =
      ap (read_expected (closed true) (length s) h.size [] (an_output ∷ replicate n an_output)) (lines_at_lem s at b)
      ∙ expected-none (closed true) (line_at s at) (length s) h.size [] an_output (replicate n an_output) _ e

  later-whole : at < length s → (a end : ℕ) → item_literals (closed true) an_output (line_at s at) ≡ Some (a ∷ []) → ended (line_at s at) ≡ true → past_line s at ≡ end
      → outputs_from s h (suc n) k at
      ≡ unless (literals_fit h.size (literals a 0 0 end) && true) 12 at (next (outputs_from s h n (k + 1) end) (λ is. holds (item_of an_output at (literals a 0 0 end) ∷ is)))
  unfolding line_at may_define defines unless
  later-whole b a end e f p =
      ap (read_expected (closed true) (length s) h.size [] (an_output ∷ replicate n an_output)) (lines-whole s at end b f p)
      ∙ expected-whole (closed true) (line_at s at) (length s) h.size [] an_output (replicate n an_output) (lines_of s end) (literals a 0 0 end) e (refl, refl)

module _ (s : List ℕ) (h : Header) (w₀ : List ℕ) (fit : Fit h w₀) where
  pub output-none : (k at : ℕ) → outputs_from s h 0 k at ≡ holds []
  unfolding read_expected
  output-none k at = refl

  pub output-step : (n k at : ℕ) (w before : List ℕ) (g : Graph) → Sound h w₀ k w before g → h.inputs ≤ k → k + suc n ≡ h.inputs + h.outputs
      → Step h w₀ (output_step s h) (output_left s h) (outputs_from s h) n k at w before g
  unfolding unless
  output-step n k at w before g z low e = go (output_view s at)
    where
      in_pass : k < h.inputs + h.outputs
      in_pass = omega arith

      go : OutputView s at → Step h w₀ (output_step s h) (output_left s h) (outputs_from s h) n k at w before g
      go (missing b) = stops 11 (length s) (step-missing s h k at w b).0 (later-missing s h n k at b)
      go (broken b x i) = stops 11 at (step-broken s h k at w b x).0 (later-broken s h n k at b i)
      go (whole b a c x i f p) = tested (literals_fit h.size (literals a 0 0 c.at)) refl
        where
          tested : (t : Bool) → literals_fit h.size (literals a 0 0 c.at) ≡ t → Step h w₀ (output_step s h) (output_left s h) (outputs_from s h) n k at w before g
          tested false q = stops 12 at (step-over s h k at w b a c x q).0 (later-whole s h n k at b a c.at i f p ∙ rw q)
          tested true q =
              let t = step-output s h k at w b a c x q in
              goes (literals a 0 0 c.at) t.0 t.1
              (later-whole s h n k at b a c.at i f p ∙ rw (q, expected-output h k low in_pass))
              (sound-output h w₀ fit k w before g z (literals a 0 0 c.at) q low in_pass)

-- ---- where the lines end

stop_to : {r : Refusal} {e : ℕ} → Err r ≡ Ok e → ⊥
stop_to {r} {e} q = let z : ◌≡◌ {A = ℕ} 0 1 = cc in omega arith

module _ (s : List ℕ) (h : Header) where
  behind-one : (n k at : ℕ) (w : List ℕ) (end : ℕ) → output_step s h k at w ≡ Ok end → behind_lines at (suc n) (lines_of s at) ≡ behind_lines end n (lines_of s end)
  unfolding behind_lines past_line
  behind-one n k at w end e = go (output_view s at)
    where
      go : OutputView s at → behind_lines at (suc n) (lines_of s at) ≡ behind_lines end n (lines_of s end)
      go (missing b) = absurd (stop_to (sym (step-missing s h k at w b).0 ∙ e))
      go (broken b x i) = absurd (stop_to (sym (step-broken s h k at w b x).0 ∙ e))
      go (whole b a c x i f p) = tested (literals_fit h.size (literals a 0 0 c.at)) refl
        where
          tested : (t : Bool) → literals_fit h.size (literals a 0 0 c.at) ≡ t → behind_lines at (suc n) (lines_of s at) ≡ behind_lines end n (lines_of s end)
          tested false q = absurd (stop_to (sym (step-over s h k at w b a c x q).0 ∙ e))
          tested true q =
              let i : c.at ≡ end = cc (step-output s h k at w b a c x q).0 in
              ap (behind_lines at (suc n)) (lines-whole s at end b f (p ∙ i)) ∙ ap (λ (x : ℕ). behind_lines x n (lines_of s end)) (p ∙ i)

  pub output-behind : (n k at : ℕ) (w : List ℕ) (end : ℕ) → pass_step (output_step s h) (output_left s h) n k at w ≡ Ok end → end ≡ behind_lines at n (lines_of s at)
  unfolding behind_lines
  output-behind zero k at w end e = let i : at ≡ end = cc (pass_end (output_step s h) (output_left s h) k at w 0 refl).0 in sym i
  output-behind (suc n) k at w end e = go (output_step s h k at w) refl (λ m. output-behind n (k + 1) m (output_left s h k at w) end)
    where
      go : (t : LineResult) → output_step s h k at w ≡ t
          → ((m : ℕ) → pass_step (output_step s h) (output_left s h) n (k + 1) m (output_left s h k at w) ≡ Ok end → end ≡ behind_lines m n (lines_of s m))
          → end ≡ behind_lines at (suc n) (lines_of s at)
      go (Err r) q later = absurd (stop_to (sym (pass_stop (output_step s h) (output_left s h) n k at w (suc n) r refl q).0 ∙ e))
      go (Ok m) q later = later m (sym (pass_on (output_step s h) (output_left s h) n k at w (suc n) m refl q).0 ∙ e) ∙ sym (behind-one n k at w m q)
