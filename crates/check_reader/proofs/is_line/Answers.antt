-- `check_reader::is_line` meets its contract: its bytes are compared where byte 10 alone ends it.
use Rattle.base.specs.{◌≡◌, sym, ◌∙◌, ap, List, ℕ, ◌+◌, arith}
use Rattle.model.specs.{same}
use Rattle.base_text.specs.{line_at}
use Rattle.check_reader.proofs.StoredDrivers.{line-not, line-is, stop_from, stop_fits, stop_next, line-bytes}
use Rattle.check_reader.proofs.is_line.Goals as goal

pub overflow_sub-line : goal.overflow_sub-line
overflow_sub-line c = let a = c.args in omega (arith, stop_next a.s.now a.at c.line-line.result c.line-line.ensures)

pub returns-then-line-stop-ne1 : goal.returns-then-line-stop-ne1
returns-then-line-stop-ne1 c =
    let a = c.args in
    sym (line-not a.w.now (line_at a.s.now a.at) (λ e. c.if-line-stop-ne1.true (let z : c.line-line.result.next ≡ c.line-line.result.stop + (line_at a.s.now a.at).ending = stop_next a.s.now a.at c.line-line.result c.line-line.ensures in omega arith)))

pub slice_bounds-same_bytes-count : goal.slice_bounds-same_bytes-count
slice_bounds-same_bytes-count c = let a = c.args in stop_from a.s.now a.at c.line-line.result c.line-line.ensures

pub slice_bounds-same_bytes-start : goal.slice_bounds-same_bytes-start
slice_bounds-same_bytes-start c = let a = c.args in omega (arith, stop_from a.s.now a.at c.line-line.result c.line-line.ensures)

pub slice_bounds-same_bytes-end : goal.slice_bounds-same_bytes-end
slice_bounds-same_bytes-end c = omega (arith, stop_fits c.args.s.now c.args.at c.line-line.result c.line-line.ensures c.requires)

pub returns : goal.returns
returns c =
    let a = c.args in
    let z : c.line-line.result.next ≡ c.line-line.result.stop + (line_at a.s.now a.at).ending = stop_next a.s.now a.at c.line-line.result c.line-line.ensures in
    let one : (line_at a.s.now a.at).ending ≡ 1 = omega (arith, c.if-line-stop-ne1.false) in
    c.same_bytes.ensures
    ∙ ap (λ (x : List ℕ). same x a.w.now) (line-bytes a.s.now a.at c.line-line.result c.line-line.ensures)
    ∙ sym (line-is a.w.now (line_at a.s.now a.at) one)
