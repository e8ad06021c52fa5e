-- `cells_reader::cells` meets its contract. The invariant: the cells so far and what the lines from here on give are what the text gives, and the library holds its cells and nothing else; the measure is the room that is left.
use Rattle.std.specs.Prelude.{Ok}
use Rattle.base.specs.{sym, ap, ◌∙◌, subst, arith, length}
use Rattle.model.specs.{library_of, library_answer}
use Rattle.model.specs.declared.Library.{Library}
use Rattle.cells_reader.proofs.CellLineSteps.{so_far, so_far-first, so_far_last, so_far_stop, so_far-added, added-capacity, added-length, Tidy}
use Rattle.cells_reader.proofs.CellLineSteps.{tidy_first, tidy_added, validated-cell, part-from, part_to, part-short}
use Rattle.cells_reader.proofs.cells.Goals as goal

pub loop-at-init : goal.loop-at-init
unfolding library_of
loop-at-init c =
    let e = c.empty-library.ensures in (
      omega (arith, ap (λ (l : Library). l.n) e),
      ap (λ (l : Library). length l.cells) e,
      so_far-first _ _ _ ∙ ap (λ (l : Library). so_far c.args.ranged l c.args.s.now c.args.from) (sym e),
      subst Tidy (sym e) tidy_first,
    )

pub slice_bounds-cell_of-count : goal.slice_bounds-cell_of-count
slice_bounds-cell_of-count c = omega (arith, part-from _ _ _ _ (validated-cell _ _ _ _ _ (sym c.in-Ok.ensures)).1)

pub slice_bounds-cell_of-start : goal.slice_bounds-cell_of-start
slice_bounds-cell_of-start c = omega (arith, part-from _ _ _ _ (validated-cell _ _ _ _ _ (sym c.in-Ok.ensures)).1)

pub slice_bounds-cell_of-end : goal.slice_bounds-cell_of-end
slice_bounds-cell_of-end c = omega (arith, part_to _ _ _ _ (validated-cell _ _ _ _ _ (sym c.in-Ok.ensures)).1 (omega arith))

pub cell_of-c-requires : goal.cell_of-c-requires
cell_of-c-requires c = part-short _ _ _ _ (validated-cell _ _ _ _ _ (sym c.in-Ok.ensures)).1

pub add-library-requires : goal.add-library-requires
add-library-requires c = (validated-cell _ _ _ _ _ (sym c.in-Ok.ensures)).0

pub loop-at-smaller : goal.loop-at-smaller
loop-at-smaller c = omega (arith, ap (λ (l : Library). l.n) c.add-library.ensures, (validated-cell _ _ _ _ _ (sym c.in-Ok.ensures)).0)

pub loop-at-preserved : goal.loop-at-preserved
loop-at-preserved c =
    let j = sym c.in-Ok.ensures in (
      added-capacity c.loop-at.library c.cell_of-c.result c.add-library.result (validated-cell _ _ _ _ _ j).0 c.add-library.ensures,
      added-length c.loop-at.library c.cell_of-c.result c.add-library.result c.loop-at.invariant.1 c.add-library.ensures,
      c.loop-at.invariant.2 ∙ so_far-added _ c.loop-at.library _ _ _ c.cell_of-c.result c.add-library.result c.loop-at-test.true c.loop-at.invariant.1 j c.cell_of-c.ensures c.add-library.ensures,
      tidy_added c.loop-at.library c.cell_of-c.result c.add-library.result c.loop-at.invariant.3 (validated-cell _ _ _ _ _ j).0 c.loop-at.invariant.1 c.add-library.ensures,
    )

pub returns-in-Err : goal.returns-in-Err
unfolding library_answer
returns-in-Err c =
    let e = c.loop-at.invariant.2 ∙ so_far_stop _ _ _ _ _ c.loop-at-test.true (sym c.in-Err.ensures) in
    sym (ap library_answer e)

pub returns : goal.returns
unfolding library_answer
returns c =
    let e = c.loop-at.invariant.2 ∙ so_far_last _ _ _ _ c.loop-at-test.false in
    ap (λ (l : Library). Ok l) c.loop-at.invariant.3 ∙ sym (ap library_answer e)
