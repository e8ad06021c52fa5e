-- What a call that writes a text answers and leaves of the lent bytes is what `TextWritten` says.
use Rattle.base.specs.{◌≡◌, ap, ◌∙◌, List, ℕ}
use Rattle.model.specs.{Read, Written, written_answer, written_pair, written_after}
use Rattle.promises.specs.{TextWritten}

pub text-written : (o : Read (List ℕ)) (text : List ℕ) (answer : Written) (text_left : List ℕ) → answer ≡ written_answer o → text_left ≡ written_after o text → TextWritten o text answer text_left
unfolding written_answer written_after written_pair
text-written o text answer text_left a b = record {
  success = λ t e. a ∙ ap written_answer e;
  written = λ t e. b ∙ ap (λ (x : Read (List ℕ)). written_after x text) e;
  refusal = λ n k e. a ∙ ap written_answer e;
  unchanged = λ n k e. b ∙ ap (λ (x : Read (List ℕ)). written_after x text) e;
  returns_length = λ t e. ap written_pair (a ∙ ap written_answer e);
  returns_refusal = λ n k e. ap written_pair (a ∙ ap written_answer e);
}
