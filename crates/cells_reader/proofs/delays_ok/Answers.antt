-- `cells_reader::delays_ok` meets its contract, which is composed of those of `delay_ok`.
use Rattle.base.specs.{sym, ◌∙◌}
use Rattle.cells_reader.specs.{delays_ok}
use Rattle.cells_reader.proofs.delays_ok.Goals as goal

pub returns-then-delay_ok-3 : goal.returns-then-delay_ok-3
unfolding delays_ok
returns-then-delay_ok-3 c =
    rw (sym c.delay_ok.ensures ∙ c.if-delay_ok.true, sym c.delay_ok-then-delay_ok.ensures ∙ c.if-delay_ok-2.true, sym c.delay_ok-then-delay_ok-2.ensures ∙ c.if-delay_ok-3.true) c.delay_ok-then-delay_ok-3.ensures

pub returns-else-delay_ok-3 : goal.returns-else-delay_ok-3
unfolding delays_ok
returns-else-delay_ok-3 c =
    rw (sym c.delay_ok.ensures ∙ c.if-delay_ok.true, sym c.delay_ok-then-delay_ok.ensures ∙ c.if-delay_ok-2.true, sym c.delay_ok-then-delay_ok-2.ensures ∙ c.if-delay_ok-3.false) c.if-delay_ok-3.false

pub returns-else-delay_ok-2 : goal.returns-else-delay_ok-2
unfolding delays_ok
returns-else-delay_ok-2 c =
    rw (sym c.delay_ok.ensures ∙ c.if-delay_ok.true, sym c.delay_ok-then-delay_ok.ensures ∙ c.if-delay_ok-2.false) c.if-delay_ok-2.false

pub returns-else-delay_ok : goal.returns-else-delay_ok
unfolding delays_ok
returns-else-delay_ok c = rw (sym c.delay_ok.ensures ∙ c.if-delay_ok.false) c.if-delay_ok.false
