-- `tally_report::put_total` meets its contract: the sums over the listed cells.
use Rattle.base.specs.{sym, subst, List, ℕ, ◌+◌, ◌≤◌, length}
use Rattle.base_text.specs.{Wrote}
use Rattle.tally_report.proofs.ReportLines.{total_is}
use Rattle.tally_report.proofs.put_total.Goals as goal

pub put_line-requires : goal.put_line-requires
put_line-requires c =
    let a = c.args in
    subst (λ (x : List ℕ). a.at + length x ≤ length a.out.now) (total_is a.lib c.requires.0 a.t c.sum_of-a.result c.sum_of-b.result c.sum_of-a.ensures c.sum_of-b.ensures) c.requires.2

pub returns : goal.returns
returns c =
    let a = c.args in
    subst (λ (x : List ℕ). Wrote a.out.now c.put_line.new.out a.at c.put_line.result x)
    (sym (total_is a.lib c.requires.0 a.t c.sum_of-a.result c.sum_of-b.result c.sum_of-a.ensures c.sum_of-b.ensures)) c.put_line.ensures
