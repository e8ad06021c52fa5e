-- 1, the library's refusals, 28, 29 and 18 of a count and of a report as conditions over the bytes of library and netlist, by the forms of `CountForms`. No
-- reader's definition is used: a reader is named only where `Exactly` says what it does.
use Rattle.std.specs.Prelude.{◌^◌, ◌≤◌, ◌<◌, ◌≡◌, ◌++◌}
use Rattle.base.specs.{ℕ, zero, Bool, List, [], Memᴰ, length}
use Rattle.model.specs.{counted, read_counted, report_text, count_text, report_of}
use Rattle.model.specs.declared.Cell.{Cell}
use Rattle.model.specs.declared.Tally.{Tally}
use Rattle.promises.specs.LineForms.{BeginsNone}
use Rattle.promises.specs.Refusals.{Exactly, CellsIn, LibraryFault}
use Rattle.promises.specs.CountForms.{Expected, timing_expected, NextLine, Reached}

-- ---- the netlist: 29

-- a netlist's whole text, with gates of these cells
abbrev pub NetlistIn : Bool → List Cell → List ℕ → List ℕ → Type 0
NetlistIn ranged cells t us = Reached ranged cells t (timing_expected zero us)

-- nothing more is expected
abbrev pub Finished : Expected → Type 0
Finished d = (us : List ℕ) × (d ≡ timing_expected zero us)

-- "29 when a line isn't of the kind and form mapping prints there .., names no listed cell, or gives a gate count or area that isn't that of the gates above
-- it, at the line's offset": the lines before are, and the text does not go on with such a line. A missing line's place is the text's length.
pub data NetlistFault (ranged : Bool) (cells : List Cell) : List ℕ → ℕ → ℕ → Type 0 where
  twenty_nine : {s t : List ℕ} {d : Expected} → Reached ranged cells s d → (¬ ((t ≡ []) × Finished d)) → BeginsNone (NextLine ranged cells d) t
      → NetlistFault ranged cells (s ++ t) 29 (length s)

-- what is promised of the reading of a netlist
abbrev pub Netlists : Bool → List Cell → List ℕ → Type 0
Netlists ranged cells t = Exactly (NetlistIn ranged cells t) (NetlistFault ranged cells t) (read_counted ranged cells t)

-- ---- the calls

-- no "tally figure exceeds 2^40"
pub record Narrow (t : Tally) : Type 0 where
  pub gates : (n : ℕ) → Memᴰ n t.gates → n ≤ 2 ^ 40
  pub areas : (n : ℕ) → Memᴰ n t.areas → n ≤ 2 ^ 40
  pub occurs : (n : ℕ) → Memᴰ n t.occurs → n ≤ 2 ^ 40
  pub netlists : t.netlists ≤ 2 ^ 40

-- not "64 netlists are counted already"
abbrev pub HasCapacity : Tally → Type 0
HasCapacity t = (t.netlists < 64) × Narrow t

-- "1 covers netlists"
abbrev pub BothShort : List ℕ → List ℕ → Type 0
BothShort library netlist = (length library ≤ 65536) × (length netlist ≤ 65536)

-- "After the library's refusals come 28 .., place 64; then 29"
pub data CountFault (t : Tally) (library netlist : List ℕ) : ℕ → ℕ → Type 0 where
  one : (¬ BothShort library netlist) → CountFault t library netlist 1 0
  of_library : {n k : ℕ} → BothShort library netlist → LibraryFault library n k → CountFault t library netlist n k
  twenty_eight : {ranged : Bool} {cs : List Cell} → BothShort library netlist → CellsIn ranged library cs → (¬ HasCapacity t) → CountFault t library netlist 28 64
  of_netlist : {ranged : Bool} {cs : List Cell} {n k : ℕ} → BothShort library netlist → CellsIn ranged library cs → HasCapacity t → NetlistFault ranged cs netlist n k
      → CountFault t library netlist n k

-- the tally with one netlist more
pub record CountHolds (t : Tally) (library netlist : List ℕ) (u : Tally) : Type 0 where
  pub short : BothShort library netlist
  pub ranged : Bool
  pub cells : List Cell
  pub are_cells : CellsIn ranged library cells
  pub capacity : HasCapacity t
  pub used : List ℕ
  pub are_gates : NetlistIn ranged cells netlist used
  pub is_tally : counted cells used t ≡ u

-- the promise of a count
abbrev pub CountRefusals : Tally → List ℕ → List ℕ → Type 0
CountRefusals t library netlist = Exactly (CountHolds t library netlist) (CountFault t library netlist) (count_text t library netlist)

-- "28 when .., in a report too, a tally figure exceeds 2^40"; "18 the report's memory"
pub data ReportFault (t : Tally) (library : List ℕ) (bytes : ℕ) : ℕ → ℕ → Type 0 where
  one : (¬ (length library ≤ 65536)) → ReportFault t library bytes 1 0
  of_library : {n k : ℕ} → length library ≤ 65536 → LibraryFault library n k → ReportFault t library bytes n k
  twenty_eight : {ranged : Bool} {cs : List Cell} → length library ≤ 65536 → CellsIn ranged library cs → (¬ Narrow t) → ReportFault t library bytes 28 64
  eighteen : {ranged : Bool} {cs : List Cell} → length library ≤ 65536 → CellsIn ranged library cs → Narrow t → (¬ (length (report_text cs t) ≤ bytes))
      → ReportFault t library bytes 18 (length (report_text cs t))

pub record ReportHolds (t : Tally) (library : List ℕ) (bytes : ℕ) (r : List ℕ) : Type 0 where
  pub short : length library ≤ 65536
  pub ranged : Bool
  pub cells : List Cell
  pub are_cells : CellsIn ranged library cells
  pub narrow : Narrow t
  pub capacity : length (report_text cells t) ≤ bytes
  pub is_report : report_text cells t ≡ r

-- the promise of a report
abbrev pub ReportRefusals : Tally → List ℕ → ℕ → Type 0
ReportRefusals t library bytes = Exactly (ReportHolds t library bytes) (ReportFault t library bytes) (report_of t library bytes)
