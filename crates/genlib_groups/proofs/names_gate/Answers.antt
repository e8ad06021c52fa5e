-- `genlib_groups::names_gate` meets its contract, by the line’s first word.
use Rattle.base.specs.{ap, ◌∙◌, List, ℕ}
use Rattle.model.specs.{same, text}
use Rattle.genlib_groups.proofs.GenlibLineLaws.{gate-part, gate_bounds}
use Rattle.genlib_groups.specs.{gate_word}
use Rattle.genlib_groups.proofs.names_gate.Goals as goal

pub returns : goal.returns
unfolding gate_word text
returns c =
    c.same_bytes.ensures ∙ ap (λ (x : List ℕ). same x gate_word) (gate-part _ _ _ c.span_end-from.ensures c.span_end-to.ensures)

pub slice_bounds-same_bytes-count : goal.slice_bounds-same_bytes-count
slice_bounds-same_bytes-count c = (gate_bounds _ _ _ c.span_end-from.ensures c.span_end-to.ensures).0

pub slice_bounds-same_bytes-start : goal.slice_bounds-same_bytes-start
slice_bounds-same_bytes-start c = (gate_bounds _ _ _ c.span_end-from.ensures c.span_end-to.ensures).0

pub slice_bounds-same_bytes-end : goal.slice_bounds-same_bytes-end
slice_bounds-same_bytes-end c = (gate_bounds _ _ _ c.span_end-from.ensures c.span_end-to.ensures).1
