-- The answers of the exported calls, by the five values that document 01 names.
use Rattle.std.specs.Prelude.{◌≡◌, Ok, Err}
use Rattle.base.specs.{ℕ}
use Rattle.model.specs.{Returned, CheckResult, Checked, Verdict, Written, refused_with}
use Rattle.arraymap.specs.declared.ArraymapAnswer.{ArraymapAnswer}
use Rattle.arraymap.specs.declared.ArraymapChecked.{ArraymapChecked}
use Rattle.model.specs.declared.Comparison.TheVariants.{Equal, Differs}

abbrev pub answered : Returned → ArraymapAnswer
answered r = record { number = r.number; value = r.value; gates = r.gates; area = r.area; arrival = r.arrival }

-- a number and a value, without figures
abbrev pub answered_text : ℕ × ℕ → ArraymapAnswer
answered_text p = record { number = p.0; value = p.1; gates = 0; area = 0; arrival = 0 }

-- a verdict's number and place
unfoldable pub verdict_pair : Verdict → ℕ × ℕ
verdict_pair (Ok tt) = (0, 0)
verdict_pair (Err r) = (r.number, r.place)

-- what a check tells
abbrev pub checked_answer : CheckResult → ArraymapChecked
checked_answer t = record { verdict = t.verdict; first = t.first; second = t.second }

-- ---- the values of each case

-- "Success, here and for later written texts, returns 0 and the length"; "a refusal its number, its place and zero figures"
pub record TextValues (w : Written) (answer : ArraymapAnswer) : Type 0 where
  pub success : (n : ℕ) → w ≡ Ok n → answer ≡ record { number = 0; value = n; gates = 0; area = 0; arrival = 0 }
  pub refusal : (n k : ℕ) → w ≡ refused_with n k → answer ≡ record { number = n; value = k; gates = 0; area = 0; arrival = 0 }

pub record VerdictValues (v : Verdict) (answer : ArraymapAnswer) : Type 0 where
  pub success : v ≡ Ok tt → answer ≡ record { number = 0; value = 0; gates = 0; area = 0; arrival = 0 }
  pub refusal : (n k : ℕ) → v ≡ refused_with n k → answer ≡ record { number = n; value = k; gates = 0; area = 0; arrival = 0 }

pub record CheckedValues (c : Checked) (answer : ArraymapChecked) : Type 0 where
  pub success : c ≡ Ok Equal → answer ≡ record { verdict = 0; first = 0; second = 0 }
  pub difference : (s k : ℕ) → c ≡ Ok (Differs s k) → answer ≡ record { verdict = 1; first = s; second = k }
  pub refusal : (n k : ℕ) → c ≡ refused_with n k → answer ≡ record { verdict = 2; first = n; second = k }
