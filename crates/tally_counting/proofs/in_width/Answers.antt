-- `tally_counting::in_width` meets its contract: figure by figure.
use Rattle.base.specs.{sym, ◌∙◌}
use Rattle.tally_counting.proofs.CountReading.{never}
use Rattle.tally_counting.proofs.CountPositions.{width-gates, width-areas, width-occurs, width-last, width-wide}
use Rattle.tally_counting.proofs.in_width.Goals as goal

pub returns-then-all_small-3 : goal.returns-then-all_small-3
returns-then-all_small-3 c =
    let t = c.args.t in
    let x = c.all_small in
    let y = c.all_small-then-all_small in
    let z = c.all_small-then-all_small-2 in
    let gates = sym x.ensures.0 ∙ c.if-all_small.true in
    let areas = sym y.ensures.0 ∙ c.if-all_small-2.true in
    let occurs = sym z.ensures.0 ∙ c.if-all_small-3.true in
    (width-last t gates areas occurs, λ e. width-wide t gates areas occurs x.ensures.1 y.ensures.1 z.ensures.1)

pub returns-else-all_small-3 : goal.returns-else-all_small-3
returns-else-all_small-3 c =
    let t = c.args.t in
    let gates = sym c.all_small.ensures.0 ∙ c.if-all_small.true in
    let areas = sym c.all_small-then-all_small.ensures.0 ∙ c.if-all_small-2.true in
    (c.if-all_small-3.false ∙ width-occurs t gates areas (sym c.all_small-then-all_small-2.ensures.0 ∙ c.if-all_small-3.false), λ e. never (sym c.if-all_small-3.false ∙ e))

pub returns-else-all_small-2 : goal.returns-else-all_small-2
returns-else-all_small-2 c =
    let t = c.args.t in
    (c.if-all_small-2.false ∙ width-areas t (sym c.all_small.ensures.0 ∙ c.if-all_small.true) (sym c.all_small-then-all_small.ensures.0 ∙ c.if-all_small-2.false), λ e. never (sym c.if-all_small-2.false ∙ e))

pub returns-else-all_small : goal.returns-else-all_small
returns-else-all_small c = (c.if-all_small.false ∙ width-gates _ (sym c.all_small.ensures.0 ∙ c.if-all_small.false), λ e. never (sym c.if-all_small.false ∙ e))
