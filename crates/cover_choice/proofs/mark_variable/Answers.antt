-- `cover_choice::mark_variable` meets its contract: by whether an inverter drives the positive phase.
use Rattle.base.specs.{◌≡◌, sym, ap, subst, ◌∙◌, List, ℕ, ◌+◌, ◌*◌, arith}
use Rattle.model.specs.{is_inverted}
use Rattle.model.specs.declared.Phase.{Phase}
use Rattle.cover_choice.specs.{MatchesIn, fed_once}
use Rattle.cover_choice.proofs.NeededMarks.{once-kept, needs-matches, step-inverted, step-uninverted}
use Rattle.cover_choice.proofs.mark_variable.Goals as goal

pub mark_phase-requires-then-is_inverted : goal.mark_phase-requires-then-is_inverted
mark_phase-requires-then-is_inverted c =
    let a = c.args in
    let w : List ℕ = a.work.now in
    let cells = c.requires.0.0 in
    let r = c.requires.0.1 in
    let w' : List ℕ = fed_once cells w a.m (2 * a.v) in
    let i : MatchesIn cells w' a.m = needs-matches a.m cells w w' (once-kept a.m cells w (2 * a.v) r (omega arith)) r in
    ((cells, subst (λ (x : List ℕ). MatchesIn cells x a.m) (sym (c.mark_phase.ensures cells r c.requires.0.2)) i, c.requires.0.2), omega arith)

pub mark_phase-requires-else-is_inverted-2 : goal.mark_phase-requires-else-is_inverted-2
mark_phase-requires-else-is_inverted-2 c =
    let a = c.args in
    let w : List ℕ = a.work.now in
    let cells = c.requires.0.0 in
    let r = c.requires.0.1 in
    let w' : List ℕ = fed_once cells w a.m (2 * a.v + 1) in
    let i : MatchesIn cells w' a.m = needs-matches a.m cells w w' (once-kept a.m cells w (2 * a.v + 1) r (omega arith)) r in
    ((cells, subst (λ (x : List ℕ). MatchesIn cells x a.m) (sym (c.mark_phase-else-is_inverted.ensures cells r c.requires.0.2)) i, c.requires.0.2), omega arith)

pub returns-then-is_inverted : goal.returns-then-is_inverted
returns-then-is_inverted c cells r pins =
    let a = c.args in
    let w : List ℕ = a.work.now in
    let w' : List ℕ = fed_once cells w a.m (2 * a.v) in
    let e : c.mark_phase.new.work ≡ w' = c.mark_phase.ensures cells r pins in
    let i : MatchesIn cells w' a.m = needs-matches a.m cells w w' (once-kept a.m cells w (2 * a.v) r (omega (arith, c.requires.1))) r in
    c.mark_phase-then-is_inverted.ensures cells (subst (λ (x : List ℕ). MatchesIn cells x a.m) (sym e) i) pins
    ∙ ap (λ (x : List ℕ). fed_once cells x a.m (2 * a.v + 1)) e
    ∙ sym (step-inverted cells w a.m a.v (ap (λ (p : Phase). is_inverted p.source) (sym c.positive.ensures) ∙ sym c.is_inverted.ensures ∙ c.if-is_inverted.true))

pub returns-else-is_inverted : goal.returns-else-is_inverted
returns-else-is_inverted c cells r pins =
    let a = c.args in
    let w : List ℕ = a.work.now in
    let w' : List ℕ = fed_once cells w a.m (2 * a.v + 1) in
    let e : c.mark_phase-else-is_inverted.new.work ≡ w' = c.mark_phase-else-is_inverted.ensures cells r pins in
    let i : MatchesIn cells w' a.m = needs-matches a.m cells w w' (once-kept a.m cells w (2 * a.v + 1) r (omega (arith, c.requires.1))) r in
    c.mark_phase-else-is_inverted-2.ensures cells (subst (λ (x : List ℕ). MatchesIn cells x a.m) (sym e) i) pins
    ∙ ap (λ (x : List ℕ). fed_once cells x a.m (2 * a.v)) e
    ∙ sym (step-uninverted cells w a.m a.v (ap (λ (p : Phase). is_inverted p.source) (sym c.positive.ensures) ∙ sym c.is_inverted.ensures ∙ c.if-is_inverted.false))
