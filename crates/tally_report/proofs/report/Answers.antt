-- `tally_report::report` meets its contract: 1, the library's, 28, then 18.
use Rattle.base.specs.{arith, ◌≡◌, sym, ap, subst, ◌∙◌, List, ℕ, ◌≤◌, length}
use Rattle.std.proofs.lemmas.Result.{err_from_is_err_and}
use Rattle.model.specs.{Read, cells_of, read_library, written_answer, written_pair, written_by, written_after, report_text, report_of, Written}
use Rattle.model.specs.declared.Cell.{Cell}
use Rattle.model.specs.declared.Library.{Library}
use Rattle.model.proofs.{written-refusal}
use Rattle.tally_lines.specs.{Listed}
use Rattle.tally_counting.proofs.{accepted, refused-back, cells-back, listed}
use Rattle.tally_report.specs.{fitting}
use Rattle.tally_report.proofs.ReportLength.{refuses, report-long, report-refused, report-over, report-read, page_enough}
use Rattle.tally_report.proofs.report.Goals as goal

-- the number and value that the answer stands for
refusal : (w : Written) (q : Read (List ℕ)) {B : Type 0} → (w ≡ written_answer q) × B → (w ≡ written_answer q) × (B × (written_pair w ≡ written_by q))
refusal w q p = (p.0, (p.1, written-refusal w q p.0))

pub returns-then-cells-gt65536 : goal.returns-then-cells-gt65536
returns-then-cells-gt65536 c =
    let a = c.args in
    refusal _ (report_of a.t a.cells.now (length a.text.now)) (refuses (report_of a.t a.cells.now (length a.text.now)) 1 0 a.text.now (report-long a.t a.cells.now (length a.text.now) (omega arith)))

pub report_in-requires : goal.report_in-requires
report_in-requires c =
    let a = c.args in
    let r = c.read in
    let o = accepted (read_library a.cells.now) r.result r.ensures.answer _ c.in_ok-lib.was in
    let w = c.in_width in
    let t = c.if-not-in_width.false in (
      subst Listed (sym o.is_library) (listed a.cells.now o.cells o.is_read),
      w.ensures.1 t,
      subst (λ (l : Library). length (report_text (cells_of l) a.t) ≤ 2048) (sym o.is_library) (page_enough a.cells.now o.cells o.is_read a.t (w.ensures.1 t) (sym w.ensures.0 ∙ t)),
    )

pub returns : goal.returns
returns c =
    let a = c.args in
    let r = c.read in
    let o = accepted (read_library a.cells.now) r.result r.ensures.answer _ c.in_ok-lib.was in
    let w = c.in_width in let t = c.if-not-in_width.false in
    let n = length a.text.now in
    let e : fitting (report_text (cells_of c.in_ok-lib.lib) a.t) n ≡ report_of a.t a.cells.now n =
    ap (λ (l : Library). fitting (report_text (cells_of l) a.t) n) o.is_library
    ∙ ap (λ (cs : List Cell). fitting (report_text cs a.t) n) (cells-back o.cells)
    ∙ sym (report-read a.t a.cells.now n (omega arith) o.cells o.is_read (sym w.ensures.0 ∙ t)) in
    refusal _ (report_of a.t a.cells.now (length a.text.now)) (c.report_in.ensures.0 ∙ ap written_answer e, c.report_in.ensures.1 ∙ ap (λ (x : Read (List ℕ)). written_after x a.text.now) e)

pub returns-then-not-in_width : goal.returns-then-not-in_width
returns-then-not-in_width c =
    let a = c.args in
    let r = c.read in
    let o = accepted (read_library a.cells.now) r.result r.ensures.answer _ c.in_ok-lib.was in
    let w = c.in_width in
    refusal _ (report_of a.t a.cells.now (length a.text.now)) (refuses (report_of a.t a.cells.now (length a.text.now)) 28 64 a.text.now (report-over a.t a.cells.now (length a.text.now) (omega arith) o.cells o.is_read (sym w.ensures.0 ∙ c.if-not-in_width.true)))

pub returns-in_err-lib : goal.returns-in_err-lib
returns-in_err-lib c =
    let a = c.args in let r = c.read in
    let p = err_from_is_err_and c.from_residual.result c.from_residual.ensures.1 in
    rw (p.1, p.2)
    (refusal _ (report_of a.t a.cells.now (length a.text.now)) (refuses (report_of a.t a.cells.now (length a.text.now)) _ _ a.text.now (report-refused a.t a.cells.now (length a.text.now) (omega arith) _ _ (refused-back (read_library a.cells.now) r.result r.ensures.answer _ c.in_err-lib.was))))
