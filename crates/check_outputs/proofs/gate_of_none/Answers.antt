-- `check_outputs::gate_of_none` meets its contract: row 0 counts.
use Rattle.base.specs.{sym, ◌∙◌, true, false, ◌%◌, eq-eqb, ne_eqb}
use Rattle.check_outputs.proofs.AssignmentBits.{all_bits, no_bits}
use Rattle.check_outputs.proofs.GateWords.{no_pins_lem}
use Rattle.check_outputs.proofs.gate_of_none.Goals as goal

pub returns-then-table-eq1 : goal.returns-then-table-eq1
returns-then-table-eq1 c = sym (no_pins_lem c.args.table true (eq-eqb (c.args.table % 2) 1 c.if-table-eq1.true) ∙ all_bits)

pub returns-else-table-eq1 : goal.returns-else-table-eq1
returns-else-table-eq1 c = sym (no_pins_lem c.args.table false (ne_eqb (c.args.table % 2) 1 c.if-table-eq1.false) ∙ no_bits)
