-- What is read of a netlist: its cells' counts, or 29.
use Rattle.std.specs.Prelude.{◌<◌, ◌≡◌, ◌&&◌, Result, Ok, Err}
use Rattle.base.specs.{ℕ, Bool, List, ltb, get_or}
use Rattle.model.specs.{Read, Verdict, holds, fault, next, unless, cells_of, in_width, read_counted, times, counted, verdict_of, tally_after}
use Rattle.model.specs.declared.Cell.{Cell}
use Rattle.model.specs.declared.Library.{Library}
use Rattle.model.specs.declared.Tally.{Tally}
use Rattle.tally_counting.specs.declared.Counts.{Counts}

-- the counts of a netlist that is read
pub record Whole (ranged : Bool) (l : Library) (s : List ℕ) (c : Counts) : Type 0 where
  pub used : List ℕ
  pub is_read : read_counted ranged (cells_of l) s ≡ holds used
  pub places : (i : ℕ) → i < 32 → get_or c.n i 0 ≡ times i used

pub record NetlistRead (ranged : Bool) (l : Library) (s : List ℕ) (r : Result Counts ℕ) : Type 0 where
  pub broken : (at : ℕ) → r ≡ Err at → read_counted ranged (cells_of l) s ≡ fault 29 at
  pub whole : (c : Counts) → r ≡ Ok c → Whole ranged l s c

-- 28 and 29, by a library's cells
unfoldable pub count_read : Tally → Bool → List Cell → List ℕ → Read Tally
unfolding unless next in_width read_counted counted
count_read t ranged cells s = unless (ltb t.netlists 64 && in_width t) 28 64 (next (read_counted ranged cells s) (λ used. holds (counted cells used t)))

-- what is said of a netlist more is answered, and the tally after it handed on
pub record Handed (t : Tally) (o : Read Tally) (answer : Verdict) (after : Tally) : Type 0 where
  pub answers : answer ≡ verdict_of o
  pub hands_on : after ≡ tally_after t o
