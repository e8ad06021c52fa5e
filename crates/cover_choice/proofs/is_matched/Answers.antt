-- `cover_choice::is_matched` meets its contract.
use Rattle.base.specs.{sym, ap, ◌∙◌, true≢false, ℕ}
use Rattle.cells_matching.specs.{is_listed}
use Rattle.cover_choice.proofs.is_matched.Goals as goal

pub returns-then-is_listed : goal.returns-then-is_listed
returns-then-is_listed c = λ e. absurd (true≢false (sym c.if-is_listed.true ∙ e))

pub returns-else-is_listed : goal.returns-else-is_listed
returns-else-is_listed c =
    let a = c.args in
    λ e. (sym c.is_listed.ensures ∙ c.if-is_listed.false, ap (λ (x : ℕ). is_listed a.matches.now x) (sym c.in_phase.ensures) ∙ sym c.is_listed-else-is_listed.ensures ∙ e)
