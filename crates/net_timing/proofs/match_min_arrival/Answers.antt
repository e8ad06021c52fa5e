-- `net_timing::match_min_arrival` meets its contract: the leaves, the pins and the delays that are read are those of the match.
use Rattle.base.specs.{◌≡◌, sym, ap, subst, ◌∙◌, List, ℕ, ◌*◌, ◌≤◌, arith, length, drop, get_or, get_or-drop}
use Rattle.model.specs.{cell_at, fed_nets}
use Rattle.model.specs.declared.Cut.{Cut}
use Rattle.base_words.specs.{cut_of}
use Rattle.base_truth.specs.{places_of}
use Rattle.base_truth.proofs.{places-four, nets-length}
use Rattle.cover_choice.specs.{PinsIn}
use Rattle.cover_choice.proofs.{match_pins, match_nets_lem}
use Rattle.net_timing.specs.{latest_min, match_min}
use Rattle.net_timing.proofs.MinDelayLaws.{latest-same}
use Rattle.net_timing.proofs.match_min_arrival.Goals as goal

pub load_cut-cut-requires : goal.load_cut-cut-requires
load_cut-cut-requires c =
    (c.requires.1.capacity, c.requires.2, omega (arith, c.requires.0.2.cut, c.requires.1.few c.args.v c.requires.2))

pub pins_min_arrival-requires : goal.pins_min_arrival-requires
pins_min_arrival-requires c =
    let a = c.args in
    let cells = c.requires.0.0 in
    let e : get_or a.pins.now a.x.cell 0 ≡ (cell_at cells a.x.cell).pins = c.requires.0.3.listed a.x.cell c.requires.0.2.cell in
    let n = c.from-count.ensures ∙ e in (
      c.requires.1.capacity,
      subst (λ (n : ℕ). PinsIn c.load_cut-cut.result.leaves a.m a.x.order n) (sym n)
          (subst (λ (y : Cut). PinsIn y.leaves a.m a.x.order (cell_at cells a.x.cell).pins) (sym c.load_cut-cut.ensures)
          (match_pins cells a.work.now a.m a.v a.x c.requires.0.1 c.requires.1 c.requires.2 c.requires.0.2)),
      omega (arith, c.requires.0.2.cell, c.requires.0.1.few),
    )

pub returns : goal.returns
unfolding match_min
returns c cells ok i pins mins =
    let a = c.args in
    let n : ℕ = (cell_at cells a.x.cell).pins in
    let places : List ℕ = places_of a.x.order in
    let leaves : List ℕ = (cut_of a.work.now a.m a.v a.x.cut).leaves in
    let e : c.from-count.result ≡ n = c.from-count.ensures ∙ pins.listed a.x.cell i.cell in
    let table : List ℕ = drop (4 * a.x.cell) a.mins.now in
    let four : n ≤ 4 = ok.pins a.x.cell in
    let long : n ≤ length places = omega (arith, places-four a.x.order i.order) in
    c.pins_min_arrival.ensures
    ∙ ap (λ (j : ℕ). latest_min a.work.now a.m (fed_nets j places a.x.mask c.load_cut-cut.result.leaves) table) e
    ∙ ap (λ (y : Cut). latest_min a.work.now a.m (fed_nets n places a.x.mask y.leaves) table) c.load_cut-cut.ensures
    ∙ latest-same a.work.now a.m (fed_nets n places a.x.mask leaves) table (cell_at cells a.x.cell).mins
    (λ j b. get_or-drop (4 * a.x.cell) a.mins.now j 0 ∙ mins.listed a.x.cell j i.cell (omega (arith, b, nets-length n places a.x.mask leaves long)))
    ∙ ap (λ (ls : List ℕ). latest_min a.work.now a.m ls (cell_at cells a.x.cell).mins) (sym (match_nets_lem cells a.work.now a.m a.v a.x ok c.requires.1 c.requires.2 i))
