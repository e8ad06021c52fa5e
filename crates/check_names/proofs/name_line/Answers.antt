-- `check_names::name_line` meets its contract: the first field is the keyword, and two words stand behind it.
use Rattle.base.specs.{sym, ◌∙◌, ap, Bool, cond, None, ◌+◌, arith, length-take-le}
use Rattle.model.specs.{text}
use Rattle.check_names.specs.{fields_from, two_words}
use Rattle.check_names.proofs.WordSplits.{space-fits}
use Rattle.check_names.proofs.NameLines.{line_code}
use Rattle.check_names.proofs.name_line.Goals as goal

pub slice_bounds-same_bytes-end : goal.slice_bounds-same_bytes-end
slice_bounds-same_bytes-end c =
    let a = c.args in
    sym (length-take-le c.space_from-first.result a.l.now (omega (arith, c.space_from-first.ensures, space-fits a.l.now 0 (omega arith))))

pub overflow_add-first : goal.overflow_add-first
overflow_add-first c =
    omega (arith, c.space_from-first.ensures, space-fits c.args.l.now 0 (omega arith))

pub returns-then-same_bytes : goal.returns-then-same_bytes
unfolding text
returns-then-same_bytes c =
    let a = c.args in
    c.two_words.ensures
    ∙ sym (line_code a.l.now a.k c.space_from-first.result c.space_from-first.ensures
    ∙ ap (λ (b : Bool). cond b (two_words a.k (fields_from a.l.now (c.space_from-first.result + 1))) None) (sym c.same_bytes.ensures ∙ c.if-same_bytes.true))

pub returns-else-same_bytes : goal.returns-else-same_bytes
unfolding text
returns-else-same_bytes c =
    let a = c.args in
    sym (line_code a.l.now a.k c.space_from-first.result c.space_from-first.ensures
    ∙ ap (λ (b : Bool). cond b (two_words a.k (fields_from a.l.now (c.space_from-first.result + 1))) None) (sym c.same_bytes.ensures ∙ c.if-same_bytes.false))
