-- `graph_reader::operands_defined` meets its contract: each return knows the tests that led there, and an AND's operands are literals of the graph.
use Rattle.base.specs.{sym, ap, ◌∙◌, eq-eqb, ne_eqb}
use Rattle.base_words.specs.{and_kind}
use Rattle.graph_reader.specs.{is_defined, operands_defined}
use Rattle.graph_reader.proofs.operands_defined.Goals as goal

pub returns-then-is_defined : goal.returns-then-is_defined
unfolding operands_defined
returns-then-is_defined c =
    rw (sym c.kind.ensures, eq-eqb _ and_kind c.if-kind-ne-AND.false, ap (is_defined c.args.work.now c.args.m) (sym c.left.ensures) ∙ sym c.is_defined.ensures ∙ c.if-is_defined.true) (c.is_defined-then-is_defined.ensures ∙ ap (is_defined c.args.work.now c.args.m) c.right.ensures)

pub returns-else-is_defined : goal.returns-else-is_defined
unfolding operands_defined
returns-else-is_defined c =
    rw (sym c.kind.ensures, eq-eqb _ and_kind c.if-kind-ne-AND.false, ap (is_defined c.args.work.now c.args.m) (sym c.left.ensures) ∙ sym c.is_defined.ensures ∙ c.if-is_defined.false) c.if-is_defined.false

pub returns-then-kind-ne-AND : goal.returns-then-kind-ne-AND
unfolding operands_defined
returns-then-kind-ne-AND c = rw (sym c.kind.ensures, ne_eqb _ and_kind c.if-kind-ne-AND.true)
