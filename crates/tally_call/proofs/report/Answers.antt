-- `tally_call::report` meets its contract: the tally that the numbers are, and its bytes read back.
use Rattle.base.specs.{length, ◌≡◌, ap, ◌∙◌}
use Rattle.model.specs.{written_answer, written_after, report_of}
use Rattle.model.specs.declared.Tally.{Tally}
use Rattle.promises.specs.{tally_of}
use Rattle.tally_call.proofs.TallyCallRecords.{was_reported}
use Rattle.tally_call.proofs.report.Goals as goal

pub returns : goal.returns
returns c =
    let a = c.args in let t = c.load in
    let r = c.report in
    let answer : r.result ≡ written_answer (report_of (tally_of a.tally.now) a.cells.now (length a.text.now)) = r.ensures.0 ∙ ap (λ (x : Tally). written_answer (report_of x a.cells.now (length a.text.now))) t.ensures in
    let bytes : r.new.text ≡ written_after (report_of (tally_of a.tally.now) a.cells.now (length a.text.now)) a.text.now = r.ensures.1.0 ∙ ap (λ (x : Tally). written_after (report_of x a.cells.now (length a.text.now)) a.text.now) t.ensures in
    was_reported a.cells.now a.tally.now a.text.now r.result r.new.text answer bytes
