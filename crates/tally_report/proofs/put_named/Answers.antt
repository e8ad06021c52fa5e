-- `tally_report::put_named` meets its contract: an array has eight bytes, so no name is longer.
use Rattle.base.specs.{arith, ◌≡◌, sym, ap, subst, ◌∙◌, List, ℕ, ◌+◌, ◌≤◌, length, take, length-take-le, take_all, rules}
use Rattle.model.specs.{report_line}
use Rattle.base_text.specs.{Wrote}
use Rattle.tally_report.proofs.put_named.Goals as goal
use Rattle.tally_report.proofs.put_named.Goals.{then-c-lt8, else-c-lt8}

pub slice_bounds-name-end : goal.slice_bounds-name-end
slice_bounds-name-end c =
    let eight : length c.args.c.name ≡ 8 = search rules in
    elim c.if-c-lt8.branch [ then-c-lt8 y ↦ omega arith | else-c-lt8 y ↦ omega arith ]

pub slice_bounds-put_line-end : goal.slice_bounds-put_line-end
slice_bounds-put_line-end c =
    let eight : length c.args.c.name ≡ 8 = search rules in
    let short : c.if-c-lt8.len ≤ length c.args.c.name = elim c.if-c-lt8.branch [ then-c-lt8 y ↦ omega arith | else-c-lt8 y ↦ omega arith ] in
    sym (length-take-le c.if-c-lt8.len c.args.c.name short)

-- the bytes that were lent are the cell's name
pub put_line-requires : goal.put_line-requires
put_line-requires c =
    let a = c.args in
    let n = c.if-c-lt8.len in
    let name = a.c.name in
    let eight : length name ≡ 8 = search rules in
    let same : take n name ≡ take a.c.len name =
    elim c.if-c-lt8.branch [
      | then-c-lt8 y ↦ ap (λ (k : ℕ). take k name) y.len-is
      | else-c-lt8 y ↦ take_all n name (omega arith) ∙ sym (take_all a.c.len name (omega arith))
    ] in
    subst (λ (x : List ℕ). a.at + length (report_line x a.gates a.area a.netlists) ≤ length a.out.now) (sym same) c.requires

pub returns : goal.returns
returns c =
    let a = c.args in
    let n = c.if-c-lt8.len in
    let name = a.c.name in
    let eight : length name ≡ 8 = search rules in
    let same : take n name ≡ take a.c.len name =
    elim c.if-c-lt8.branch [
      | then-c-lt8 y ↦ ap (λ (k : ℕ). take k name) y.len-is
      | else-c-lt8 y ↦ take_all n name (omega arith) ∙ sym (take_all a.c.len name (omega arith))
    ] in
    let p = c.put_line in
    subst (λ (x : List ℕ). Wrote a.out.now p.new.out a.at p.result (report_line x a.gates a.area a.netlists)) same p.ensures
