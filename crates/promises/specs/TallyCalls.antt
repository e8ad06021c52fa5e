-- The calls over a tally of 97 numbers: the whole of what `tally_call::count` and `tally_call::report` say.
use Rattle.std.specs.Prelude.{◌≤◌, ◌<◌, ◌≡◌, Ok}
use Rattle.base.specs.{ℕ, List, [], length, take, replicate}
use Rattle.model.specs.{Read, Verdict, Written, holds, fault, refused_with, read_library, mapped, Call, map_texts, refusal_of, verdict_refusal, count_text, report_of}
use Rattle.model.specs.declared.Cell.{Cell}
use Rattle.model.specs.declared.Figures.{Figures}
use Rattle.model.specs.declared.Tally.{Tally}
use Rattle.promises.specs.TallyNumbers.{tally_of}
use Rattle.promises.specs.Sums.{Grown, Open}
use Rattle.promises.specs.TallyDemands.{Tallied, counted_with, ReadsBack}
use Rattle.promises.specs.CountRefusals.{CountRefusals, ReportRefusals}
use Rattle.promises.specs.TextCalls.{TextWritten}

-- "one after another, into a tally handed on by these calls": where the numbers were the tally of some netlists, they are that of these and of the netlist, if it was
-- not refused
abbrev pub CountSums : List ℕ → List ℕ → List ℕ → List ℕ → Verdict → Type 0
CountSums library netlist before after verdict =
    (cells : List Cell) → read_library library ≡ holds cells → (ns : List (List ℕ)) → Tallied cells ns (tally_of before) → Tallied cells (counted_with verdict netlist ns) (tally_of after)

-- the bytes of its report read back to these netlists' figures
abbrev pub ReportSums : List ℕ → List ℕ → List ℕ → Written → Type 0
ReportSums library tally memory written =
    (cells : List Cell) → read_library library ≡ holds cells → (ns : List (List ℕ)) → Tallied cells ns (tally_of tally) → (n : ℕ) → written ≡ Ok n → ReadsBack cells ns (take n memory)

-- every netlist that mapping prints is counted under its library, with its own figures
abbrev pub PrintedCounted : List ℕ → List ℕ → List ℕ → List ℕ → Verdict → Type 0
PrintedCounted library netlist before after verdict =
    (c : Call) (f : Figures) → c.library ≡ library → map_texts c ≡ mapped netlist f → length netlist ≤ 65536
    → (cells : List Cell) → read_library library ≡ holds cells → Open (tally_of before)
    → (verdict ≡ Ok tt) × Grown cells (tally_of before) (tally_of after) f.gates f.area

-- a tally t, and what o says of a netlist more: the tally handed on, or the first refusal that applies
pub record TallyCounted (t : Tally) (o : Read Tally) (answer : Verdict) (after : Tally) : Type 0 where
  pub success : (u : Tally) → o ≡ holds u → (answer ≡ Ok tt) × (after ≡ u)
  -- "A refused netlist adds nothing."
  pub refusal : (n k : ℕ) → o ≡ fault n k → (answer ≡ refused_with n k) × (after ≡ t)

-- a netlist counted into the numbers
pub record NetlistCount (library netlist before : List ℕ) (answer : Verdict) (after : List ℕ) : Type 0 where
  pub success : (u : Tally) → count_text (tally_of before) library netlist ≡ holds u → answer ≡ Ok tt
  -- the 97 numbers are the tally with one netlist more
  pub counted : (u : Tally) → count_text (tally_of before) library netlist ≡ holds u → (length after ≡ 97) × (tally_of after ≡ u)
  -- the number and the place are those of the refusal, and the number is not 0
  pub refusal : (n k : ℕ) → count_text (tally_of before) library netlist ≡ fault n k → (answer ≡ refused_with n k) × (0 < n)
  -- "A refused netlist adds nothing."
  pub unchanged : (n k : ℕ) → count_text (tally_of before) library netlist ≡ fault n k → after ≡ before
  pub returns : verdict_refusal answer ≡ refusal_of (count_text (tally_of before) library netlist)
  -- 1, the library's refusals, 28 and 29, each by its condition over the bytes
  pub refusals : CountRefusals (tally_of before) library netlist
  pub sums : CountSums library netlist before after answer
  -- "from an empty one": 97 zeros are the tally of no netlist
  pub empty : (cells : List Cell) → read_library library ≡ holds cells → Tallied cells [] (tally_of (replicate 97 0))
  pub printed : PrintedCounted library netlist before after answer

-- the report of the numbers, written into lent bytes
pub record TallyReport (library tally text : List ℕ) (answer : Written) (text_left : List ℕ) : Type 0 where
  pub memory : TextWritten (report_of (tally_of tally) library (length text)) text answer text_left
  pub numbered : (n k : ℕ) → answer ≡ refused_with n k → 0 < n
  -- 1, the library's refusals, 28 and 18, each by its condition over the bytes
  pub refusals : ReportRefusals (tally_of tally) library (length text)
  pub sums : ReportSums library tally text_left answer
