-- `graph_reader::read_line` meets its contract: each return knows what was read.
use Rattle.base.specs.{sym, ◌∙◌, eq-eqb, ne_eqb}
use Rattle.graph_reader.specs.{one_line, and_line, line_read}
use Rattle.graph_reader.proofs.read_line.Goals as goal

pub returns-in_err-first : goal.returns-in_err-first
unfolding line_read and_line
returns-in_err-first c = c.from_residual.ensures ∙ rw (eq-eqb _ _ c.if-kind-eq-AND.true, sym c.in_err-first.ensures)

pub returns-then-kind-eq-AND : goal.returns-then-kind-eq-AND
unfolding line_read and_line
returns-then-kind-eq-AND c = rw (eq-eqb _ _ c.if-kind-eq-AND.true, sym c.in_ok-first.ensures, c.as_line.ensures)

pub returns-in_err-first-2 : goal.returns-in_err-first-2
unfolding line_read one_line
returns-in_err-first-2 c = c.from_residual-in_err-first-2.ensures ∙ rw (ne_eqb _ _ c.if-kind-eq-AND.false, sym c.in_err-first-2.ensures)

pub returns : goal.returns
unfolding line_read one_line
returns c = rw (ne_eqb _ _ c.if-kind-eq-AND.false, sym c.in_ok-first-2.ensures, c.as_line-2.ensures)
