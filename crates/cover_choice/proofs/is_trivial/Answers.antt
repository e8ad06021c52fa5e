-- `cover_choice::is_trivial` meets its contract: by the word of the cut's size.
use Rattle.base.specs.{sym, ap, ◌∙◌, ℕ, eqb, ne_eqb}
use Rattle.base_words.specs.{cut_of}
use Rattle.base_words.proofs.{four-leaves}
use Rattle.cover_choice.proofs.LeafTimes.{trivial_one, trivial_not}
use Rattle.cover_choice.proofs.is_trivial.Goals as goal

pub returns-then-cut_size-eq1 : goal.returns-then-cut_size-eq1
returns-then-cut_size-eq1 c =
    let a = c.args in
    ap (λ (x : ℕ). eqb x a.v) (c.from.ensures ∙ c.leaf.ensures)
    ∙ trivial_one (cut_of a.work.now a.m a.v a.k) a.v (four-leaves a.work.now a.m a.v a.k)
    (sym c.cut_size.ensures ∙ c.if-cut_size-eq1.true)

pub returns-else-cut_size-eq1 : goal.returns-else-cut_size-eq1
returns-else-cut_size-eq1 c =
    let a = c.args in
    ne_eqb _ _ c.if-cut_size-eq1.false
    ∙ trivial_not (cut_of a.work.now a.m a.v a.k) a.v (four-leaves a.work.now a.m a.v a.k)
    (λ e. c.if-cut_size-eq1.false (c.cut_size.ensures ∙ e))
