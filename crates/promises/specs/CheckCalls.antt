-- The call that checks an edited netlist: the whole of what `check_call::check_texts` says.
use Rattle.std.specs.Prelude.{◌≤◌, ◌≡◌, ◌⊎◌, Ok}
use Rattle.base.specs.{ℕ, List, length, replicate}
use Rattle.model.specs.{Checked, fault, refused_with, read_edited, check_texts, result_of, result_by, CheckPromised}
use Rattle.model.specs.declared.Comparison.TheVariants.{Equal, Differs}
use Rattle.promises.specs.CheckRefusals.{CheckRefusals}

-- a "refusal tried up to 10": 1 to 10, and of the later numbers those of library and header
abbrev pub UpToTen : ℕ → Type 0
UpToTen n = (n ≤ 10) ⊎ (n ≡ 19) ⊎ (n ≡ 27) ⊎ (n ≡ 30)

-- the answer, and what is left of the lent words
pub record CheckedMemory (library graph netlist work : List ℕ) (answer : Checked) (work_left : List ℕ) : Type 0 where
  pub answers : answer ≡ check_texts library graph netlist (length work)
  pub result : result_of answer ≡ result_by (read_edited library graph netlist (length work))
  -- the number and the place are those of the refusal
  pub refusal : (n k : ℕ) → read_edited library graph netlist (length work) ≡ fault n k → answer ≡ refused_with n k
  -- "Work memory is unchanged by every refusal tried up to 10, and all zero after a later one and after success."
  pub unchanged : (n k : ℕ) → answer ≡ refused_with n k → UpToTen n → work_left ≡ work
  pub zero_later : (n k : ℕ) → answer ≡ refused_with n k → (¬ UpToTen n) → work_left ≡ replicate (length work) 0
  pub zero_accepted : answer ≡ Ok Equal → work_left ≡ replicate (length work) 0
  pub zero_differs : (s k : ℕ) → answer ≡ Ok (Differs s k) → work_left ≡ replicate (length work) 0

-- an edited netlist checked against the graph
pub record NetlistCheck (library graph netlist work : List ℕ) (answer : Checked) (work_left : List ℕ) : Type 0 where
  pub memory : CheckedMemory library graph netlist work answer work_left
  -- "accepted exactly when every output equals the graph's", "otherwise the lowest setting that differs is returned"
  pub promised : CheckPromised library graph netlist (length work)
  -- every refusal by its condition over the bytes
  pub refusals : CheckRefusals library graph netlist (length work)
