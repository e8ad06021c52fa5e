-- `genlib_groups::word_at` meets its contract, by the part of the line that is the word.
use Rattle.base.specs.{sym, ap, ◌∙◌, arith, ℕ, ◌-◌, take, drop}
use Rattle.model.specs.{is_word_byte}
use Rattle.base_text.proofs.{class_from, class_part, class_past}
use Rattle.genlib_groups.proofs.word_at.Goals as goal

pub slice_bounds-result-start : goal.slice_bounds-result-start
slice_bounds-result-start c = let a = c.args in omega (arith, c.span_end-end.ensures, class_from is_word_byte a.w.now a.at)

pub slice_bounds-result-count : goal.slice_bounds-result-count
slice_bounds-result-count c = let a = c.args in omega (arith, c.span_end-end.ensures, class_from is_word_byte a.w.now a.at)

pub returns-then-end-w : goal.returns-then-end-w
returns-then-end-w c =
    let a = c.args in
    ap (λ (n : ℕ). take (n - a.at) (drop a.at a.w.now)) c.span_end-end.ensures ∙ class_part is_word_byte a.w.now a.at

pub returns-else-end-w : goal.returns-else-end-w
returns-else-end-w c =
    let a = c.args in
    sym (class_past is_word_byte a.w.now a.at _ c.span_end-end.ensures c.if-end-w.false)
