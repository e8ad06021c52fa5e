-- `cut_functions::is_cut` meets its contract: four leaves, each the same.
use Rattle.base.specs.{sym, ap, ◌∙◌, arith, length, take_all}
use Rattle.std.specs.Cmp.Lexicographic.{same_text}
use Rattle.model.specs.declared.Cut.{Cut}
use Rattle.base_words.specs.{leaves_of}
use Rattle.base_words.proofs.{four-leaves}
use Rattle.cut_functions.proofs.is_cut.Goals as goal

pub returns-then-c-eq4 : goal.returns-then-c-eq4
returns-then-c-eq4 c = λ e.
    let a = c.args in
    let size = ap (λ (z : Cut). length z.leaves) c.load_cut-c.ensures ∙ four-leaves a.work.now a.m a.u a.k in
    sym (ap leaves_of c.load_cut-c.ensures)
    ∙ take_all c.load_cut-c.result.count c.load_cut-c.result.leaves (omega (arith, size, c.if-c-eq4.true))
    ∙ same_text _ _ (sym e ∙ c.eq.ensures)
