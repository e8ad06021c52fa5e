-- `cover_choice::mark` meets its contract: marking the outputs leaves what marking the variables reads.
use Rattle.base.specs.{sym, ap, subst, ◌∙◌, List, ℕ, arith}
use Rattle.model.specs.{cells_of}
use Rattle.base_words.specs.{ordered_count}
use Rattle.cells_pairs.specs.{cells_by}
use Rattle.cover_choice.specs.{MatchesIn, SlotsIn, fed_down, marked}
use Rattle.cover_choice.proofs.KeptWords.{NeedsKept}
use Rattle.cover_choice.proofs.NeededMarks.{outputs-kept, needs-matches, needs-slots}
use Rattle.cover_choice.proofs.mark.Goals as goal
use Rattle.cover_choice.proofs.mark.Goals.{After-mark_outputs}

-- what marking the outputs leaves
after : (c : After-mark_outputs) →
    let a = c.args in
    MatchesIn (cells_by (cells_of a.lib) a.ids.now) c.mark_outputs.new.work a.h.size × SlotsIn c.mark_outputs.new.work a.h.size (ordered_count a.h)
after c =
    let a = c.args in
    let w : List ℕ = a.work.now in
    let m : ℕ = a.h.size in
    let k : NeedsKept m w c.mark_outputs.new.work =
    subst (NeedsKept m w) (sym c.mark_outputs.ensures) (outputs-kept m a.h.outputs 0 a.h.outputs w c.requires.2 (omega arith)) in
    (needs-matches m (cells_by (cells_of a.lib) a.ids.now) w _ k c.requires.1, needs-slots m (ordered_count a.h) w _ k c.requires.3)

pub mark_variables-requires : goal.mark_variables-requires
mark_variables-requires c =
    let a = c.args in
    let o = after (goal.at.mark_variables-requires c).After-mark_outputs in (
      (cells_by (cells_of a.lib) a.ids.now, o.0, c.pin_counts-pins.ensures),
      subst (SlotsIn c.mark_outputs.new.work a.h.size) (sym c.ordered_count.ensures) o.1,
    )

pub returns : goal.returns
unfolding marked
returns c =
    let a = c.args in
    let o = after (goal.at.returns c).After-mark_outputs in
    c.mark_variables.ensures (cells_by (cells_of a.lib) a.ids.now) o.0 c.pin_counts-pins.ensures
    ∙ ap (fed_down (cells_by (cells_of a.lib) a.ids.now) _ a.h.size) c.ordered_count.ensures
    ∙ ap (λ (x : List ℕ). fed_down (cells_by (cells_of a.lib) a.ids.now) x a.h.size (ordered_count a.h)) c.mark_outputs.ensures
