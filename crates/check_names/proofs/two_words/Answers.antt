-- `check_names::two_words` meets its contract: the fields from the place on, and where each of them ends.
use Rattle.base.specs.{sym, ◌∙◌, ap, Bool, cond, None, ◌+◌, ◌-◌, arith, take, drop}
use Rattle.check_names.specs.{net_code}
use Rattle.check_names.proofs.WordSplits.{space-from, space-fits}
use Rattle.check_names.proofs.NameLines.{two_none, two-one, two-more, two_are}
use Rattle.check_names.proofs.two_words.Goals as goal

pub returns-then-at-l : goal.returns-then-at-l
returns-then-at-l c = let a = c.args in sym (two_none a.l.now a.at a.k c.if-at-l.true)

pub returns-then-end-l : goal.returns-then-end-l
returns-then-end-l c =
    let a = c.args in
    sym (two-one a.l.now a.at a.k c.if-at-l.false c.space_from-end.result c.space_from-end.ensures c.if-end-l.true)

pub returns-then-last-l : goal.returns-then-last-l
returns-then-last-l c =
    let a = c.args in
    sym (two-more a.l.now a.at a.k c.if-at-l.false c.space_from-end.result c.space_from-end.ensures c.if-end-l.false c.space_from-last.result c.space_from-last.ensures c.if-last-l.true)

pub slice_bounds-is_out-end : goal.slice_bounds-is_out-end
slice_bounds-is_out-end c =
    let a = c.args in
    omega (arith, c.space_from-last.ensures, space-fits a.l.now (c.space_from-end.result + 1) (omega (arith, c.if-end-l.false)))

pub slice_bounds-net_code-count : goal.slice_bounds-net_code-count
slice_bounds-net_code-count c =
    let a = c.args in
    omega (arith, c.space_from-end.ensures, space-from a.l.now a.at)

pub slice_bounds-net_code-start : goal.slice_bounds-net_code-start
slice_bounds-net_code-start c =
    let a = c.args in
    omega (arith, c.space_from-end.ensures, space-from a.l.now a.at)

pub returns-then-is_out : goal.returns-then-is_out
returns-then-is_out c =
    let a = c.args in let l = a.l.now in
    c.net_code.ensures
    ∙ sym (two_are l a.at a.k c.if-at-l.false c.space_from-end.result c.space_from-end.ensures c.if-end-l.false c.space_from-last.result c.space_from-last.ensures c.if-last-l.false
    ∙ ap (λ (b : Bool). cond b (net_code (take (c.space_from-end.result - a.at) (drop a.at l))) None) (sym c.is_out.ensures ∙ c.if-is_out.true))

pub returns-else-is_out : goal.returns-else-is_out
returns-else-is_out c =
    let a = c.args in
    let l = a.l.now in
    sym (two_are l a.at a.k c.if-at-l.false c.space_from-end.result c.space_from-end.ensures c.if-end-l.false c.space_from-last.result c.space_from-last.ensures c.if-last-l.false
    ∙ ap (λ (b : Bool). cond b (net_code (take (c.space_from-end.result - a.at) (drop a.at l))) None) (sym c.is_out.ensures ∙ c.if-is_out.false))
