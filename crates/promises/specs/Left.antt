-- What a call returns and leaves of the lent memory, by document 01's sentences: of `text_after`, `work_after` and `returned_by` nothing need be believed.
use Rattle.std.specs.Prelude.{◌≤◌, ◌≡◌, ◌++◌}
use Rattle.base.specs.{ℕ, List, Memᴰ, length}
use Rattle.model.specs.{Outcome, refused, mapped, returned_by, text_after, work_after}
use Rattle.model.specs.declared.Figures.{Figures}
use Rattle.promises.specs.Covers.{At}

-- the refusals "tried up to 10": 19 is "tried after 9", 27 "after 6 on its line", and 30 "after 6"
pub data Early : ℕ → Type 0 where
  to_ten : {n : ℕ} → n ≤ 10 → Early n
  nineteenth : Early 19
  twenty_seventh : Early 27
  thirtieth : Early 30

-- "all zero": as many words, each of them 0
pub record AllZero (work left : List ℕ) : Type 0 where
  pub as_many : length left ≡ length work
  pub zero : (w : ℕ) → Memᴰ w left → w ≡ 0

-- "a refusal its number, its place and zero figures, with text memory unchanged. Work memory is unchanged by every refusal tried up to 10, and all zero after a
-- later one"
pub record AfterRefusal (o : Outcome) (n k : ℕ) : Type 0 where
  pub number : (returned_by o).number ≡ n
  pub place : (returned_by o).value ≡ k
  pub gates : (returned_by o).gates ≡ 0
  pub area : (returned_by o).area ≡ 0
  pub arrival : (returned_by o).arrival ≡ 0
  pub bytes : (text : List ℕ) → text_after o text ≡ text
  pub early : Early n → (work : List ℕ) → work_after o work ≡ work
  pub input_arrival : ¬ Early n → (work : List ℕ) → AllZero work (work_after o work)

-- "Success returns number 0, the netlist's length and the three figures"; "On success text memory begins with the netlist and keeps its other bytes."
pub record AfterNetlist (o : Outcome) (bytes : ℕ) (t : List ℕ) (f : Figures) : Type 0 where
  pub number : (returned_by o).number ≡ 0
  pub size : (returned_by o).value ≡ length t
  pub gates : (returned_by o).gates ≡ f.gates
  pub area : (returned_by o).area ≡ f.area
  pub arrival : (returned_by o).arrival ≡ f.arrival
  pub begins : (text : List ℕ) → length text ≡ bytes → (rest : List ℕ) × (text_after o text ≡ t ++ rest)
  pub as_long : (text : List ℕ) → length text ≡ bytes → length (text_after o text) ≡ length text
  pub keeps : (text : List ℕ) → length text ≡ bytes → (i b : ℕ) → length t ≤ i → At text i b → At (text_after o text) i b
  pub zero : (work : List ℕ) → AllZero work (work_after o work)

pub record Left (o : Outcome) (bytes : ℕ) : Type 0 where
  pub refusal : (n k : ℕ) → o ≡ refused n k → AfterRefusal o n k
  pub netlist : (t : List ℕ) (f : Figures) → o ≡ mapped t f → AfterNetlist o bytes t f
