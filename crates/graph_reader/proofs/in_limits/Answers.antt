-- `graph_reader::in_limits` meets its contract: the tests of 9, one by one.
use Rattle.base.specs.{sym, ◌∙◌, arith, lt-leb}
use Rattle.graph_reader.proofs.HeaderReading.{limits_size, limits_outputs, limits_inputs, limits_ands}
use Rattle.graph_reader.proofs.in_limits.Goals as goal

pub returns-then-h : goal.returns-then-h
returns-then-h c = sym (limits_ands c.args.h (omega arith) (omega arith) (omega arith))

pub returns-else-h : goal.returns-else-h
returns-else-h c = lt-leb _ _ c.if-h.false ∙ sym (limits_inputs c.args.h (omega arith) (omega arith) (omega arith))

pub returns-else-h-le4096 : goal.returns-else-h-le4096
returns-else-h-le4096 c = lt-leb _ _ c.if-h-le4096.false ∙ sym (limits_outputs c.args.h (omega arith) (omega arith))

pub returns-else-h-le4095 : goal.returns-else-h-le4095
returns-else-h-le4095 c = lt-leb _ _ c.if-h-le4095.false ∙ sym (limits_size c.args.h (omega arith))
