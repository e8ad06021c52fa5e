-- `cover_choice::mark_phase` meets its contract: by whether the phase is needed.
use Rattle.base.specs.{sym, ap, ◌∙◌, List, Bool, cond, ℕ}
use Rattle.cover_choice.specs.{fed_once, feeds_at, put_all}
use Rattle.cover_choice.proofs.mark_phase.Goals as goal

pub returns-then-is_needed : goal.returns-then-is_needed
unfolding fed_once
returns-then-is_needed c cells r pins =
    let a = c.args in
    let w : List ℕ = a.work.now in
    let e = sym c.is_needed.ensures ∙ c.if-is_needed.true in
    c.mark_feeds.ensures cells r pins ∙ sym (ap (λ (b : Bool). cond b (put_all w a.m (feeds_at cells w a.m a.l)) w) e)

pub returns-else-is_needed : goal.returns-else-is_needed
unfolding fed_once
returns-else-is_needed c cells r pins =
    let a = c.args in
    let w : List ℕ = a.work.now in
    let e = sym c.is_needed.ensures ∙ c.if-is_needed.false in
    sym (ap (λ (b : Bool). cond b (put_all w a.m (feeds_at cells w a.m a.l)) w) e)
