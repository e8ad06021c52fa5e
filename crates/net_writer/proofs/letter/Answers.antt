-- `net_writer::letter` meets its contract: "`p` or `m` (negative)".
use Rattle.base.specs.{sym, ap, Bool, cond, ◌∷◌, ◌/◌, eq-eqb, ne_eqb}
use Rattle.model.specs.{decimal, var_of, negated, net_name}
use Rattle.net_writer.proofs.letter.Goals as goal

pub returns-then-l-eq1 : goal.returns-then-l-eq1
unfolding net_name var_of negated
returns-then-l-eq1 c = ap (λ (b : Bool). cond b 109 112 ∷ decimal (c.args.l / 2)) (sym (eq-eqb _ _ c.if-l-eq1.true))

pub returns-else-l-eq1 : goal.returns-else-l-eq1
unfolding net_name var_of negated
returns-else-l-eq1 c = ap (λ (b : Bool). cond b 109 112 ∷ decimal (c.args.l / 2)) (sym (ne_eqb _ _ c.if-l-eq1.false))
