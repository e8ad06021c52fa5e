-- The values of each case of an answer, from the equation that the functions of answers promise.
use Rattle.base.specs.{◌≡◌, ap, ◌∙◌}
use Rattle.model.specs.{written_pair, result_of, Checked, Verdict, Written}
use Rattle.arraymap.specs.{TextValues, VerdictValues, CheckedValues, answered_text, checked_answer, verdict_pair}
use Rattle.arraymap.specs.declared.ArraymapAnswer.{ArraymapAnswer}
use Rattle.arraymap.specs.declared.ArraymapChecked.{ArraymapChecked}

pub text-values : (w : Written) (r : ArraymapAnswer) → r ≡ answered_text (written_pair w) → TextValues w r
unfolding written_pair
text-values w r e = record { success = λ n p. e ∙ ap (λ (x : Written). answered_text (written_pair x)) p; refusal = λ n k p. e ∙ ap (λ (x : Written). answered_text (written_pair x)) p }

pub verdict-values : (v : Verdict) (r : ArraymapAnswer) → r ≡ answered_text (verdict_pair v) → VerdictValues v r
unfolding verdict_pair
verdict-values v r e = record { success = λ p. e ∙ ap (λ (x : Verdict). answered_text (verdict_pair x)) p; refusal = λ n k p. e ∙ ap (λ (x : Verdict). answered_text (verdict_pair x)) p }

pub checked_values : (c : Checked) (r : ArraymapChecked) → r ≡ checked_answer (result_of c) → CheckedValues c r
unfolding result_of
checked_values c r e = record {
  success = λ p. e ∙ ap (λ (x : Checked). checked_answer (result_of x)) p;
  difference = λ s k p. e ∙ ap (λ (x : Checked). checked_answer (result_of x)) p;
  refusal = λ n k p. e ∙ ap (λ (x : Checked). checked_answer (result_of x)) p;
}
