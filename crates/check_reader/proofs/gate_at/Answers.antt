-- `check_reader::gate_at` meets its contract: the line is validated where byte 10 alone ends it.
use Rattle.base.specs.{◌≡◌, sym, ◌∙◌, ap, List, ℕ, ◌+◌, arith}
use Rattle.model.specs.{fields, cells_of, gate_of_fields}
use Rattle.base_text.specs.{line_at}
use Rattle.check_names.specs.{gate_of}
use Rattle.check_reader.proofs.StoredDrivers.{stop_from, stop_fits, stop_next, line-bytes}
use Rattle.check_reader.proofs.GateGathering.{ten-not, ten-is}
use Rattle.check_reader.proofs.gate_at.Goals as goal

pub overflow_sub-line : goal.overflow_sub-line
overflow_sub-line c = let a = c.args in omega (arith, stop_next a.s.now a.at a.line c.requires.2)

pub returns-then-line-stop-ne1 : goal.returns-then-line-stop-ne1
returns-then-line-stop-ne1 c =
    let a = c.args in
    sym (ten-not (cells_of a.lib) (line_at a.s.now a.at) (λ e. c.if-line-stop-ne1.true (let z : a.line.next ≡ a.line.stop + (line_at a.s.now a.at).ending = stop_next a.s.now a.at a.line c.requires.2 in omega arith)))

pub slice_bounds-gate_line-count : goal.slice_bounds-gate_line-count
slice_bounds-gate_line-count c = let a = c.args in stop_from a.s.now a.at a.line c.requires.2

pub slice_bounds-gate_line-start : goal.slice_bounds-gate_line-start
slice_bounds-gate_line-start c = let a = c.args in omega (arith, stop_from a.s.now a.at a.line c.requires.2)

pub slice_bounds-gate_line-end : goal.slice_bounds-gate_line-end
slice_bounds-gate_line-end c = let a = c.args in omega (arith, stop_fits a.s.now a.at a.line c.requires.2 c.requires.1)

pub gate_line-requires : goal.gate_line-requires
gate_line-requires c = (c.requires.0.few, c.requires.0.long, c.requires.0.pins)

pub returns : goal.returns
returns c =
    let a = c.args in
    let z : a.line.next ≡ a.line.stop + (line_at a.s.now a.at).ending = stop_next a.s.now a.at a.line c.requires.2 in
    let one : (line_at a.s.now a.at).ending ≡ 1 = omega (arith, c.if-line-stop-ne1.false) in
    c.gate_line.ensures
    ∙ ap (λ (w : List ℕ). gate_of (gate_of_fields (cells_of a.lib) 0 (fields w))) (line-bytes a.s.now a.at a.line c.requires.2)
    ∙ sym (ten-is (cells_of a.lib) (line_at a.s.now a.at) one)
