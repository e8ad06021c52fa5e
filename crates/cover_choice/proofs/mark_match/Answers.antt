-- `cover_choice::mark_match` meets its contract: the leaves and the cell that are read are those of the match.
use Rattle.base.specs.{◌≡◌, sym, ap, subst, ◌∙◌, ℕ}
use Rattle.model.specs.{cell_at, fed_nets}
use Rattle.model.specs.declared.Cut.{Cut}
use Rattle.base_truth.specs.{places_of}
use Rattle.cover_choice.specs.{PinsIn, put_all}
use Rattle.cover_choice.proofs.NeededMarks.{match_pins, match_nets_lem}
use Rattle.cover_choice.proofs.mark_match.Goals as goal

pub mark_pins-requires : goal.mark_pins-requires
mark_pins-requires c =
    let a = c.args in
    let cells = c.requires.0.0 in
    let cut = c.load_cut-cut in
    let e : c.from.result ≡ (cell_at cells a.x.cell).pins =
    c.from.ensures ∙ c.requires.0.3.listed a.x.cell c.requires.0.2.cell in (
      c.requires.1.capacity,
      subst (λ (n : ℕ). PinsIn cut.result.leaves a.m a.x.order n) (sym e)
          (subst (λ (y : Cut). PinsIn y.leaves a.m a.x.order (cell_at cells a.x.cell).pins) (sym cut.ensures)
          (match_pins cells a.work.now a.m a.v a.x c.requires.0.1 c.requires.1 c.requires.2 c.requires.0.2)),
    )

pub returns : goal.returns
returns c cells ok i pins =
    let a = c.args in
    let cut = c.load_cut-cut in
    let e : c.from.result ≡ (cell_at cells a.x.cell).pins =
    c.from.ensures ∙ pins.listed a.x.cell i.cell in
    c.mark_pins.ensures
    ∙ ap (λ (n : ℕ). put_all a.work.now a.m (fed_nets n (places_of a.x.order) a.x.mask cut.result.leaves)) e
    ∙ ap (λ (y : Cut). put_all a.work.now a.m (fed_nets (cell_at cells a.x.cell).pins (places_of a.x.order) a.x.mask y.leaves)) cut.ensures
    ∙ ap (put_all a.work.now a.m) (sym (match_nets_lem cells a.work.now a.m a.v a.x ok c.requires.1 c.requires.2 i))
