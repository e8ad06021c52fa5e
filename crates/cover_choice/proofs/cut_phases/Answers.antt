-- `cover_choice::cut_phases` meets its contract: by whether the cut is the variable alone, and whether its function is a cell's in either phase.
use Rattle.base.specs.{◌≡◌, sym, ap, ◌∙◌, true, false, List, ℕ, ◌<◌, arith, rules}
use Rattle.model.specs.{no_phase, earlier, choose, phase_table}
use Rattle.model.specs.declared.Phase.{Phase}
use Rattle.base_words.specs.{leaves_at}
use Rattle.base_words.proofs.{function-fits}
use Rattle.cells_matching.proofs.{phase-end}
use Rattle.cover_choice.specs.declared.CutMatch.{CutMatch}
use Rattle.cover_choice.specs.{found_phase, found_on}
use Rattle.cover_choice.proofs.CoveredOutputs.{few-leaves, table-small, table-straight, on_none, at-is_trivial, at_cut_lem}
use Rattle.cover_choice.proofs.cut_phases.Goals as goal

-- with no match that of the cuts before stays
stays : {found : Phase} (former : CutMatch) → no_phase ≡ found → found_phase former ≡ earlier (found_phase former) found
stays former e = phase-end former.cut former.best ∙ ap (earlier (found_phase former)) e

pub returns-then-is_trivial : goal.returns-then-is_trivial
returns-then-is_trivial c =
    let a = c.args in
    let e = sym c.is_trivial.ensures ∙ c.if-is_trivial.true in
    λ cells matches. (
      stays a.former.positive (at-is_trivial cells a.work.now a.m a.v false a.k e),
      stays a.former.negative (at-is_trivial cells a.work.now a.m a.v true a.k e),
    )

pub returns-then-not-is_matched : goal.returns-then-not-is_matched
returns-then-not-is_matched c =
    let a = c.args in
    let w : List ℕ = a.work.now in
    let few = few-leaves w a.m a.v a.k in
    let e = sym c.is_trivial.ensures ∙ c.if-is_trivial.false in
    let fits : c.table-f.result < 65536 = omega
    (arith, c.table-f.ensures, function-fits w a.m a.v a.k 65536 (λ i. search rules)) in
    let none = c.is_matched.ensures c.if-not-is_matched.true in
    λ cells matches. (
      stays a.former.positive (on_none cells a.matches.now matches w a.m 1073741823 c.requires.1.early (omega arith) (leaves_at w a.m a.v a.k) few
          (λ j i. c.requires.1.cuts.within a.v a.k j c.requires.2 c.requires.3 i) a.k c.table-f.result fits none.0
          ∙ ap (λ (f : ℕ). choose (found_on cells w a.m a.k (leaves_at w a.m a.v a.k) f)) (c.table-f.ensures ∙ sym (table-straight _))
          ∙ at_cut_lem cells w a.m a.v false a.k e),
      stays a.former.negative (on_none cells a.matches.now matches w a.m 1073741823 c.requires.1.early (omega arith) (leaves_at w a.m a.v a.k) few
          (λ j i. c.requires.1.cuts.within a.v a.k j c.requires.2 c.requires.3 i) a.k (phase_table true c.table-f.result) (table-small c.table-f.result) none.1
          ∙ ap (λ (f : ℕ). choose (found_on cells w a.m a.k (leaves_at w a.m a.v a.k) (phase_table true f))) c.table-f.ensures
          ∙ at_cut_lem cells w a.m a.v true a.k e),
    )

pub returns : goal.returns
returns c =
    let a = c.args in
    let w : List ℕ = a.work.now in
    let e = sym c.is_trivial.ensures ∙ c.if-is_trivial.false in
    λ cells matches. (
      (c.match_cut.ensures cells matches).0
          ∙ ap (earlier (found_phase a.former.positive)) (ap (λ (f : ℕ). choose (found_on cells w a.m a.k (leaves_at w a.m a.v a.k) f))
          (c.table-f.ensures ∙ sym (table-straight _))
          ∙ at_cut_lem cells w a.m a.v false a.k e),
      (c.match_cut.ensures cells matches).1
          ∙ ap (earlier (found_phase a.former.negative)) (ap (λ (f : ℕ). choose (found_on cells w a.m a.k (leaves_at w a.m a.v a.k) (phase_table true f)))
          c.table-f.ensures
          ∙ at_cut_lem cells w a.m a.v true a.k e),
    )
