-- `tally_counting::count` meets its contract: 1, the library's, then 28 and 29.
use Rattle.base.specs.{sym, ap, subst, ◌∙◌, Bool, List}
use Rattle.std.proofs.lemmas.Result.{err_from_is_err_and}
use Rattle.model.specs.{Read, cells_of, read_library, is_ranged, verdict_refusal, count_text}
use Rattle.model.specs.declared.Cell.{Cell}
use Rattle.model.specs.declared.Library.{Library}
use Rattle.model.specs.declared.Tally.{Tally}
use Rattle.model.proofs.{counted-rules}
use Rattle.tally_lines.specs.{Listed}
use Rattle.tally_counting.specs.{Blank, Handed, count_read}
use Rattle.tally_counting.proofs.CountAnswers.{accepted, refused-back, cells-back, listed, blanks, count_long, count-long_too}
use Rattle.tally_counting.proofs.CountAnswers.{count-refused, count-read, nothing_added}
use Rattle.tally_counting.proofs.count.Goals as goal
use Rattle.tally_counting.proofs.count.Goals.{then-cells-gt65536-via-then-cells-gt65536, then-cells-gt65536-via-else-cells-gt65536+then-netlist-gt65536}

pub returns-then-cells-gt65536 : goal.returns-then-cells-gt65536
returns-then-cells-gt65536 c =
    let a = c.args in
    let t = a.t.now in
    let h = nothing_added t (elim c.then-cells-gt65536.branch [
      | then-cells-gt65536-via-then-cells-gt65536 y ↦ count_long t a.cells.now a.netlist.now y.if-cells-gt65536.true
      | then-cells-gt65536-via-else-cells-gt65536+then-netlist-gt65536 y ↦ count-long_too t a.cells.now a.netlist.now y.if-netlist-gt65536.true
    ]) in
    record { answer = h.answers; handed_on = h.hands_on; refusal = ap verdict_refusal h.answers ∙ counted-rules t (count_text t a.cells.now a.netlist.now) }

pub count_in-requires : goal.count_in-requires
count_in-requires c =
    let a = c.args in
    let r = c.read in
    let o = accepted (read_library a.cells.now) r.result r.ensures.answer _ c.in_ok-lib.was in
    (c.if-netlist-gt65536.false, subst Listed (sym o.is_library) (listed a.cells.now o.cells o.is_read), subst Blank (sym o.is_library) (blanks a.cells.now o.cells o.is_read))

pub returns : goal.returns
returns c =
    let a = c.args in
    let t = a.t.now in
    let r = c.read in
    let o = accepted (read_library a.cells.now) r.result r.ensures.answer _ c.in_ok-lib.was in
    let e =
    ap (λ (b : Bool). count_read t b (cells_of c.in_ok-lib.lib) a.netlist.now) c.is_ranged.ensures
    ∙ ap (λ (l : Library). count_read t (is_ranged a.cells.now) (cells_of l) a.netlist.now) o.is_library
    ∙ ap (λ (cs : List Cell). count_read t (is_ranged a.cells.now) cs a.netlist.now) (cells-back o.cells)
    ∙ sym (count-read t a.cells.now a.netlist.now c.if-cells-gt65536.false c.if-netlist-gt65536.false o.cells o.is_read) in
    let h = subst (λ (x : Read Tally). Handed t x c.count_in.result c.count_in.new.t) e c.count_in.ensures in
    record { answer = h.answers; handed_on = h.hands_on; refusal = ap verdict_refusal h.answers ∙ counted-rules t (count_text t a.cells.now a.netlist.now) }

pub returns-in_err-lib : goal.returns-in_err-lib
returns-in_err-lib c =
    let a = c.args in
    let t = a.t.now in
    let r = c.read in
    let h = nothing_added t (count-refused t a.cells.now a.netlist.now c.if-cells-gt65536.false c.if-netlist-gt65536.false _ _
    (refused-back (read_library a.cells.now) r.result r.ensures.answer _ c.in_err-lib.was)) in
    let p = err_from_is_err_and c.from_residual.result c.from_residual.ensures.1 in
    rw (p.1, p.2) (record { answer = h.answers; handed_on = h.hands_on; refusal = ap verdict_refusal h.answers ∙ counted-rules t (count_text t a.cells.now a.netlist.now) })
