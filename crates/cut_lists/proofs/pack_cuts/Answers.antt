-- `cut_lists::pack_cuts` meets its contract.
use Rattle.base.specs.{sym, subst, ℕ, ◌≤◌, ◌<◌, arith}
use Rattle.model.specs.declared.Cut.{Cut}
use Rattle.base_words.specs.{count_at, leaves_of, Good}
use Rattle.cut_lists.proofs.MergeRows.{cut-good}
use Rattle.cut_lists.proofs.pack_cuts.Goals as goal

pub packed-p-requires : goal.packed-p-requires
packed-p-requires c =
    let a = c.args in
    let i : ℕ = c.loop-i.i in
    let low : i < count_at a.work.now a.m a.v = omega arith in
    let loaded = sym c.load_cut-c.ensures in
    (subst (λ (z : Cut). z.count ≤ 4) loaded (c.requires.2.narrow i low), subst (λ (z : Cut). Good (leaves_of z)) loaded (cut-good a.work.now a.m a.v c.requires.2 i low))
