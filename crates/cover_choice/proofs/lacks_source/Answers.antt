-- `cover_choice::lacks_source` meets its contract.
use Rattle.base.specs.{ap, subst, sym, ◌∙◌, ℕ, ◌≤◌, ◌/◌}
use Rattle.model.specs.declared.Phase.{Phase}
use Rattle.model.specs.{absent}
use Rattle.base_words.specs.{phase_at}
use Rattle.base_words.proofs.{capacity-need}
use Rattle.cover_choice.proofs.lacks_source.Goals as goal

pub phase-requires : goal.phase-requires
phase-requires c =
    let a = c.args in
    let p = c.requires in (
      capacity-need a.work.now a.m a.outputs p.0.capacity,
      subst (λ (l : ℕ). l / 2 ≤ a.m) (sym c.output-l.ensures) (p.0.within a.k p.1),
    )

pub returns : goal.returns
returns c =
    let a = c.args in
    c.is_absent.ensures
    ∙ ap (λ (x : Phase). absent x.source) (c.phase.ensures ∙ ap (phase_at a.work.now a.m) c.output-l.ensures)
