-- `tally_lines::gate_of` meets its contract. The invariant: the line is of a cell from here on where it is of one at all.
use Rattle.base.specs.{arith, ◌≡◌, sym, ap, ◌∙◌, length, get_or}
use Rattle.model.specs.{fields, no_cell, cells_of, of_form, gate_form}
use Rattle.model.specs.declared.Cell.{Cell}
use Rattle.tally_lines.proofs.GateLineForms.{cells_count, cells_at, gate-end, gate-here, gate-later, gate-behind, gate_never}
use Rattle.tally_lines.proofs.gate_of.Goals as goal

pub returns-then-at-w : goal.returns-then-at-w
returns-then-at-w c =
    let a = c.args in
    sym (gate_never a.w.now 0 (cells_of a.lib) (omega (arith, c.word-at.ensures)))

pub is_gate-requires : goal.is_gate-requires
is_gate-requires c =
    let a = c.args in
    let i = c.loop-i.i in
    (omega arith, omega arith, c.requires.1.pins i (omega arith))

pub returns-then-is_gate : goal.returns-then-is_gate
returns-then-is_gate c =
    let a = c.args in
    let p = c.loop-i in
    let long : length a.lib.cells ≡ 32 = c.requires.1.long in
    let n = cells_count a.lib long (omega arith) in
    let at = cells_at a.lib long (omega arith) p.i (omega arith) in
    sym (p.invariant ∙ gate-here p.i (cells_of a.lib) a.w.now (omega (arith, n))
    (ap (λ (x : Cell). of_form (gate_form x) (fields a.w.now)) at
    ∙ gate-behind a.w.now (get_or a.lib.cells p.i no_cell) c.word-at.result c.word-at.ensures (omega arith)
    ∙ sym c.is_gate.ensures ∙ c.if-is_gate.true))

pub loop-i-preserved : goal.loop-i-preserved
loop-i-preserved c =
    let a = c.args in
    let p = c.loop-i in
    let long : length a.lib.cells ≡ 32 = c.requires.1.long in
    let n = cells_count a.lib long (omega arith) in
    let at = cells_at a.lib long (omega arith) p.i (omega arith) in
    p.invariant ∙ gate-later p.i (cells_of a.lib) a.w.now (omega (arith, n))
    (ap (λ (x : Cell). of_form (gate_form x) (fields a.w.now)) at
    ∙ gate-behind a.w.now (get_or a.lib.cells p.i no_cell) c.word-at.result c.word-at.ensures (omega arith)
    ∙ sym c.is_gate.ensures ∙ c.if-is_gate.false)

pub returns : goal.returns
returns c =
    let a = c.args in
    let long : length a.lib.cells ≡ 32 = c.requires.1.long in
    sym (c.loop-i.invariant ∙ gate-end c.loop-i.i (cells_of a.lib) a.w.now (omega (arith, cells_count a.lib long (omega arith))))
