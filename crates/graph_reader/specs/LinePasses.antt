-- What the passes over the expected lines answer and leave in the words: a step for each line, one after the other.
use Rattle.std.specs.Prelude.{◌+◌, ◌&&◌, Ok, Err}
use Rattle.base.specs.{ℕ, zero, suc, cond, List, ltb, length}
use Rattle.model.specs.{Verdict, refused_with}
use Rattle.model.specs.declared.Header.{Header}
use Rattle.graph_order.specs.{pick_words}
use Rattle.graph_loading.specs.{LineResult, expected_code, expected_count, literals_fit, on_result, stored_line, opened}
use Rattle.graph_binary.specs.{binary_words}
use Rattle.graph_reader.specs.GraphLines.{line_read, on_line, validated_at, uses_defined}

-- ---- 11 to 13

unfoldable pub step_at : List ℕ → ℕ → List ℕ → Header → ℕ → LineResult
step_at s at w h k =
    cond (ltb at (length s)) (on_result (validated_at s at w h.size (expected_code h k)) (λ l. Ok l.next) Err) (refused_with 11 (length s))

unfoldable pub step_words : List ℕ → ℕ → List ℕ → Header → ℕ → List ℕ
step_words s at w h k =
    pick_words (ltb at (length s)) (on_result (validated_at s at w h.size (expected_code h k)) (λ l. stored_line w h k l) (λ r. w)) w

-- n expected lines from line k on, the first of them at a place
unfoldable pub lines_verdict : List ℕ → Header → ℕ → ℕ → ℕ → List ℕ → Verdict
lines_verdict s h zero k at w = Ok tt
lines_verdict s h (suc n) k at w = on_result (step_at s at w h k) (λ end. lines_verdict s h n (k + 1) end (step_words s at w h k)) Err

unfoldable pub lines_words : List ℕ → Header → ℕ → ℕ → ℕ → List ℕ → List ℕ
lines_words s h zero k at w = w
lines_words s h (suc n) k at w = on_result (step_at s at w h k) (λ end. lines_words s h n (k + 1) end (step_words s at w h k)) (λ _. step_words s at w h k)

-- ---- 14

unfoldable pub check_at : List ℕ → ℕ → List ℕ → Header → ℕ → LineResult
check_at s at w h k =
    on_line (line_read s at (expected_code h k)) (λ l.
    cond (literals_fit h.size l && uses_defined w h.size (expected_code h k) l) (Ok l.next) (refused_with 14 at)) (refused_with 14 at)

unfoldable pub check_verdict : List ℕ → Header → ℕ → ℕ → ℕ → List ℕ → Verdict
check_verdict s h zero k at w = Ok tt
check_verdict s h (suc n) k at w = on_result (check_at s at w h k) (λ end. check_verdict s h n (k + 1) end w) Err

-- ---- the whole

-- the words after the expected lines of an ASCII text are read, up to the first refusal
unfoldable pub ascii_words : List ℕ → List ℕ → Header → List ℕ
unfolding opened lines_words
ascii_words w s h = lines_words s h (expected_count h) 0 h.next (opened w h.size)

-- and after a text of either form
unfoldable pub loaded_words : List ℕ → List ℕ → Header → List ℕ
loaded_words w s h = pick_words h.binary (binary_words w s h) (ascii_words w s h)
