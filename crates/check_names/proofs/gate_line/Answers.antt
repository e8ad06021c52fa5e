-- `check_names::gate_line` meets its contract: its cell is looked up by its second word, and its pins are in the words behind.
use Rattle.base.specs.{◌≡◌, sym, ◌∙◌, ap, subst, ℕ, ◌+◌, ◌≤◌, arith, Some, length}
use Rattle.model.specs.{fields, cells_of, bound_nets, gate_of_fields}
use Rattle.check_names.specs.{letters, fields_from, nets_of, gate_with, gate_of}
use Rattle.check_names.proofs.WordSplits.{space-from, space-fits}
use Rattle.check_names.proofs.GateLines.{line-short, listed-few, at_places, gate-none, gate-some}
use Rattle.check_names.proofs.gate_line.Goals as goal
use Rattle.check_names.proofs.gate_line.Goals.{In_ok-cell}

pub returns-then-first-l : goal.returns-then-first-l
returns-then-first-l c =
    let a = c.args in
    sym (line-short a.lib a.l.now (subst (λ (n : ℕ). length a.l.now ≤ n) c.space_from-first.ensures c.if-first-l.true))

pub slice_bounds-cell_named-count : goal.slice_bounds-cell_named-count
slice_bounds-cell_named-count c = omega (arith, c.space_from-end.ensures, space-from c.args.l.now (c.space_from-first.result + 1))

pub slice_bounds-cell_named-start : goal.slice_bounds-cell_named-start
slice_bounds-cell_named-start c = omega (arith, c.space_from-end.ensures, space-from c.args.l.now (c.space_from-first.result + 1))

pub slice_bounds-cell_named-end : goal.slice_bounds-cell_named-end
slice_bounds-cell_named-end c = omega (arith, c.space_from-end.ensures, space-fits c.args.l.now (c.space_from-first.result + 1) (omega arith))

pub overflow_add-end : goal.overflow_add-end
overflow_add-end c = omega (arith, c.space_from-end.ensures, space-fits c.args.l.now (c.space_from-first.result + 1) (omega arith))

pub returns-in_err-cell : goal.returns-in_err-cell
returns-in_err-cell c =
    let a = c.args in
    c.from_residual.ensures
    ∙ sym ((at_places a.lib a.l.now c.space_from-first.result c.space_from-end.result c.space_from-first.ensures c.space_from-end.ensures c.if-first-l.false).0
    (sym c.in_err-cell.ensures))

-- the cell found has four pins at most
few : (c : In_ok-cell) → c.in_ok-cell.cell.pins ≤ 4
few c = listed-few c.args.lib _ c.requires.0 c.requires.1 c.requires.2 c.in_ok-cell.cell (sym c.in_ok-cell.ensures)

pub bound-requires : goal.bound-requires
bound-requires c = omega (arith, few (goal.at.bound-requires c).In_ok-cell, c.from-count.ensures)

-- what the line says is what its words say with the cell's table and pins
says : (c : In_ok-cell) →
    let cell = c.in_ok-cell.cell in
    gate_with cell.table cell.pins (bound_nets (letters 0 cell.pins) (fields_from c.args.l.now (c.space_from-end.result + 1)))
    ≡ gate_of (gate_of_fields (cells_of c.args.lib) 0 (fields c.args.l.now))
says c =
    let a = c.args in
    (at_places a.lib a.l.now c.space_from-first.result c.space_from-end.result c.space_from-first.ensures c.space_from-end.ensures c.if-first-l.false).1
    c.in_ok-cell.cell (sym c.in_ok-cell.ensures) (few c)

pub returns-in_err-b : goal.returns-in_err-b
returns-in_err-b c =
    let cell = c.in_ok-cell.cell in let ws = fields_from c.args.l.now (c.space_from-end.result + 1) in
    c.from_residual-in_err-b.ensures
    ∙ sym (gate-none cell.table cell.pins (bound_nets (letters 0 cell.pins) ws)
    (ap (λ (n : ℕ). nets_of n (bound_nets (letters 0 n) ws)) (sym c.from-count.ensures) ∙ sym c.in_err-b.ensures))
    ∙ says (goal.at.returns-in_err-b c).In_ok-cell

pub returns : goal.returns
returns c =
    let cell = c.in_ok-cell.cell in let ws = fields_from c.args.l.now (c.space_from-end.result + 1) in
    ap (λ (n : ℕ). Some (record { table = cell.table; count = n; codes = c.in_ok-b.b.codes; net = c.in_ok-b.b.net })) c.from-count.ensures
    ∙ sym (gate-some cell.table cell.pins (bound_nets (letters 0 cell.pins) ws) c.in_ok-b.b
    (ap (λ (n : ℕ). nets_of n (bound_nets (letters 0 n) ws)) (sym c.from-count.ensures) ∙ sym c.in_ok-b.ensures))
    ∙ says (goal.at.returns c).In_ok-cell
