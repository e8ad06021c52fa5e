-- `check_reader::name_at` meets its contract: the line is validated where byte 10 alone ends it.
use Rattle.base.specs.{◌≡◌, sym, ◌∙◌, ap, List, ℕ, ◌+◌, arith}
use Rattle.model.specs.{name_driver}
use Rattle.base_text.specs.{line_at}
use Rattle.check_names.specs.{name_code}
use Rattle.check_reader.proofs.StoredDrivers.{stop_from, stop_fits, stop_next, line-bytes}
use Rattle.check_reader.proofs.GateGathering.{name-not, name-is}
use Rattle.check_reader.proofs.name_at.Goals as goal

pub overflow_sub-line : goal.overflow_sub-line
overflow_sub-line c = let a = c.args in omega (arith, stop_next a.s.now a.at a.line c.requires.2)

pub returns-then-line-stop-ne1 : goal.returns-then-line-stop-ne1
returns-then-line-stop-ne1 c =
    let a = c.args in
    sym (name-not a.k (line_at a.s.now a.at) (λ e. c.if-line-stop-ne1.true (let z : a.line.next ≡ a.line.stop + (line_at a.s.now a.at).ending = stop_next a.s.now a.at a.line c.requires.2 in omega arith)))

pub slice_bounds-name_line-count : goal.slice_bounds-name_line-count
slice_bounds-name_line-count c = let a = c.args in stop_from a.s.now a.at a.line c.requires.2

pub slice_bounds-name_line-start : goal.slice_bounds-name_line-start
slice_bounds-name_line-start c = let a = c.args in omega (arith, stop_from a.s.now a.at a.line c.requires.2)

pub slice_bounds-name_line-end : goal.slice_bounds-name_line-end
slice_bounds-name_line-end c = let a = c.args in omega (arith, stop_fits a.s.now a.at a.line c.requires.2 c.requires.1)

pub returns : goal.returns
returns c =
    let a = c.args in
    let z : a.line.next ≡ a.line.stop + (line_at a.s.now a.at).ending = stop_next a.s.now a.at a.line c.requires.2 in
    let one : (line_at a.s.now a.at).ending ≡ 1 = omega (arith, c.if-line-stop-ne1.false) in
    c.name_line.ensures
    ∙ ap (λ (w : List ℕ). name_code (name_driver a.k (record { offset = 0; bytes = w; ending = 1 }))) (line-bytes a.s.now a.at a.line c.requires.2)
    ∙ sym (name-is a.k (line_at a.s.now a.at) one)
