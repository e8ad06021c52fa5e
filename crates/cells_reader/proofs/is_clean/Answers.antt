-- `cells_reader::is_clean` meets its contract, by the limit of the tables and the delays one by one.
use Rattle.base.specs.{sym, ◌∙◌, arith, le-ltb}
use Rattle.cells_reader.proofs.CellValidation.{clean_table, clean_delays}
use Rattle.cells_reader.proofs.is_clean.Goals as goal

pub returns-then-delays_ok : goal.returns-then-delays_ok
returns-then-delays_ok c =
    c.delays_ok-then-delays_ok.ensures ∙ sym (clean_delays c.args.f (omega (arith, c.limit.ensures, c.from.ensures)) ∙ rw (sym c.delays_ok.ensures ∙ c.if-delays_ok.true))

pub returns-else-delays_ok : goal.returns-else-delays_ok
returns-else-delays_ok c =
    c.if-delays_ok.false ∙ sym (clean_delays c.args.f (omega (arith, c.limit.ensures, c.from.ensures)) ∙ rw (sym c.delays_ok.ensures ∙ c.if-delays_ok.false))

pub returns-else-limit-from : goal.returns-else-limit-from
returns-else-limit-from c =
    le-ltb _ _ c.if-limit-from.false ∙ sym (clean_table c.args.f (omega (arith, c.limit.ensures, c.from.ensures)))
