-- `tally_report::report_in` meets its contract: on a page of its own first.
use Rattle.base.specs.{arith, sym, ap, ◌∙◌, length}
use Rattle.model.specs.{cells_of, report_text}
use Rattle.base_words.specs.{put_at}
use Rattle.tally_report.proofs.ReportLength.{page_end, page_is, too_short, fits}
use Rattle.tally_report.proofs.report_in.Goals as goal

pub returns-then-text-end : goal.returns-then-text-end
returns-then-text-end c =
    let a = c.args in let p = c.put_report-end in
    too_short (report_text (cells_of a.lib) a.t) a.text.now p.result (page_end _ _ _ _ p.ensures) c.if-text-end.true

pub slice_bounds-put-end : goal.slice_bounds-put-end
slice_bounds-put-end c =
    let p = c.put_report-end in
    sym (ap length (page_is _ _ _ _ p.ensures) ∙ sym (page_end _ _ _ _ p.ensures))

pub put-requires : goal.put-requires
put-requires c =
    let p = c.put_report-end in
    omega (arith, ap length (page_is _ _ _ _ p.ensures), page_end _ _ _ _ p.ensures)

pub returns : goal.returns
returns c =
    let a = c.args in
    let p = c.put_report-end in
    fits (report_text (cells_of a.lib) a.t) a.text.now p.result c.put.new.out (page_end _ _ _ _ p.ensures) (omega arith) (c.put.ensures ∙ ap (put_at a.text.now 0) (page_is _ _ _ _ p.ensures))
