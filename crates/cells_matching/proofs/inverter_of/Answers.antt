-- `cells_matching::inverter_of` meets its contract. The invariant: with the cells from a line on, the best so far leads to the answer.
use Rattle.base.specs.{◌+◌, refl, ap, ◌∙◌, arith, take, drop}
use Rattle.model.specs.{cells_of}
use Rattle.cells_matching.specs.{Inverter, inverter_from, inverter_of}
use Rattle.cells_matching.proofs.InverterChoice.{inverter-done, inverter-step}
use Rattle.cells_matching.proofs.inverter_of.Goals as goal

pub loop-line-init : goal.loop-line-init
unfolding inverter_of
loop-line-init c = refl

pub loop-line-preserved : goal.loop-line-preserved
loop-line-preserved c =
    let l = c.loop-line in
    let lib = c.args.lib in
    ap (λ (b : Inverter). inverter_from b (drop (l.line + 1) (take lib.n lib.cells)) (l.line + 1)) c.try_inverter-best.ensures
    ∙ inverter-step (take lib.n lib.cells) l.best (inverter_of (take lib.n lib.cells)) l.line (omega arith) l.invariant

pub returns : goal.returns
unfolding cells_of
returns c =
    let l = c.loop-line in
    let lib = c.args.lib in
    inverter-done (take lib.n lib.cells) l.best (inverter_of (take lib.n lib.cells)) l.line (omega arith) l.invariant
