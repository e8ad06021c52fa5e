-- What the passes over inputs, output lines and ANDs answer and leave in the words: a step for each expected line, one after the other.
use Rattle.std.specs.Prelude.{◌+◌, ◌-◌, ◌*◌, Result, Ok, Err}
use Rattle.base.specs.{ℕ, zero, suc, List, cond, ltb, length}
use Rattle.model.specs.{Verdict, refused_with}
use Rattle.model.specs.declared.Header.{Header}
use Rattle.model.specs.declared.Refusal.{Refusal}
use Rattle.base_text.specs.{on_number, number_then}
use Rattle.graph_order.specs.{pick_words}
use Rattle.graph_loading.specs.declared.Literals.{Literals}
use Rattle.graph_loading.specs.{LineResult, literals, literals_fit, on_result, stored_line, opened}
use Rattle.graph_binary.specs.GateDifferences.{gate_at}

-- ---- an input, an output line, and an AND

-- "Inputs are variables 1 to I": input k takes none of the text
abbrev pub input_literals : ℕ → ℕ → Literals
input_literals at k = literals (2 * (k + 1)) 0 0 at

abbrev pub input_step : ℕ → ℕ → List ℕ → LineResult
input_step k at w = Ok at

unfoldable pub input_left : Header → ℕ → ℕ → List ℕ → List ℕ
input_left h k at w = stored_line w h k (input_literals at k)

unfoldable pub output_step : List ℕ → Header → ℕ → ℕ → List ℕ → LineResult
output_step s h k at w =
    cond (ltb at (length s)) (on_number (number_then s at 10) (λ a c.
    cond (literals_fit h.size (literals a 0 0 c.at)) (Ok c.at) (refused_with 12 at)) (refused_with 11 at)) (refused_with 11 (length s))

unfoldable pub output_left : List ℕ → Header → ℕ → ℕ → List ℕ → List ℕ
output_left s h k at w =
    pick_words (ltb at (length s)) (on_number (number_then s at 10) (λ a c.
    pick_words (literals_fit h.size (literals a 0 0 c.at)) (stored_line w h k (literals a 0 0 c.at)) w) w) w

-- expected line k is the AND of variable k - O + 1
abbrev pub gate_of : List ℕ → Header → ℕ → ℕ → Result Literals Refusal
gate_of s h k at = gate_at s at (2 * (k - h.outputs + 1))

unfoldable pub gate_step : List ℕ → Header → ℕ → ℕ → List ℕ → LineResult
gate_step s h k at w = on_result (gate_of s h k at) (λ l. Ok l.next) Err

unfoldable pub gate_left : List ℕ → Header → ℕ → ℕ → List ℕ → List ℕ
gate_left s h k at w = on_result (gate_of s h k at) (λ l. stored_line w h k l) (λ _. w)

-- ---- a pass: n expected lines from line k on, the first of them at a place

unfoldable pub pass_step : (ℕ → ℕ → List ℕ → LineResult) → (ℕ → ℕ → List ℕ → List ℕ) → ℕ → ℕ → ℕ → List ℕ → LineResult
pass_step advance left zero k at w = Ok at
pass_step advance left (suc n) k at w = on_result (advance k at w) (λ end. pass_step advance left n (k + 1) end (left k at w)) Err

unfoldable pub pass_words : (ℕ → ℕ → List ℕ → LineResult) → (ℕ → ℕ → List ℕ → List ℕ) → ℕ → ℕ → ℕ → List ℕ → List ℕ
pass_words advance left zero k at w = w
pass_words advance left (suc n) k at w = on_result (advance k at w) (λ end. pass_words advance left n (k + 1) end (left k at w)) (λ _. left k at w)

abbrev pub as_verdict : LineResult → Verdict
as_verdict (Ok at) = Ok tt
as_verdict (Err r) = Err r

-- ---- the whole

-- the words after the inputs are stored
unfoldable pub with_inputs : List ℕ → Header → List ℕ
unfolding opened
with_inputs w h = pass_words input_step (input_left h) h.inputs 0 h.next (opened w h.size)

-- the output lines' turn, and the words after them
unfoldable pub outputs_step : List ℕ → List ℕ → Header → LineResult
unfolding with_inputs
outputs_step w s h = pass_step (output_step s h) (output_left s h) h.outputs h.inputs h.next (with_inputs w h)

unfoldable pub with_outputs : List ℕ → List ℕ → Header → List ℕ
unfolding with_inputs
with_outputs w s h = pass_words (output_step s h) (output_left s h) h.outputs h.inputs h.next (with_inputs w h)

-- the words after a text of the binary form is read, up to the first refusal
unfoldable pub binary_words : List ℕ → List ℕ → Header → List ℕ
unfolding outputs_step with_outputs
binary_words w s h =
    on_result (outputs_step w s h)
    (λ at. pass_words (gate_step s h) (gate_left s h) h.ands (h.inputs + h.outputs) at (with_outputs w s h))
    (λ _. with_outputs w s h)
