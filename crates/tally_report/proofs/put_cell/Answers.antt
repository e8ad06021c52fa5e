-- `tally_report::put_cell` meets its contract: the cell by its place in the array.
use Rattle.base.specs.{sym, subst, List, ℕ, ◌+◌, ◌≤◌, length}
use Rattle.base_text.specs.{Wrote}
use Rattle.tally_report.proofs.ReportLines.{cell-is}
use Rattle.tally_report.proofs.put_cell.Goals as goal

pub put_named-requires : goal.put_named-requires
put_named-requires c =
    let a = c.args in
    subst (λ (x : List ℕ). a.at + length x ≤ length a.out.now) (cell-is a.lib c.requires.1 a.t a.i c.requires.0) c.requires.2

pub returns : goal.returns
returns c =
    let a = c.args in
    subst (λ (x : List ℕ). Wrote a.out.now c.put_named.new.out a.at c.put_named.result x) (sym (cell-is a.lib c.requires.1 a.t a.i c.requires.0)) c.put_named.ensures
