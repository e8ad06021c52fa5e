-- `check_names::is_gate` meets its contract: the first field is the keyword.
use Rattle.base.specs.{sym, ◌∙◌, ap, List, ℕ, arith, length-take-le}
use Rattle.model.specs.{same, text}
use Rattle.check_names.proofs.WordSplits.{space-fits}
use Rattle.check_names.proofs.NameLines.{first-is}
use Rattle.check_names.proofs.is_gate.Goals as goal

pub slice_bounds-same_bytes-end : goal.slice_bounds-same_bytes-end
slice_bounds-same_bytes-end c =
    let a = c.args in
    sym (length-take-le c.space_from-first.result a.l.now (omega (arith, c.space_from-first.ensures, space-fits a.l.now 0 (omega arith))))

pub returns : goal.returns
unfolding text
returns c =
    let a = c.args in
    c.same_bytes.ensures ∙ ap (λ (w : List ℕ). same w (text ".gate")) (sym (first-is a.l.now c.space_from-first.result c.space_from-first.ensures))
