-- `cells_reader::validate` meets its contract: each return knows the tests that led there. A name is a part of the text, of at most eight bytes.
use Rattle.base.specs.{sym, ◌∙◌, arith, lt-ltb, le-ltb}
use Rattle.cells_reader.specs.{validated_at}
use Rattle.cells_reader.proofs.CellLineSteps.{part-from, part_to, pins-few}
use Rattle.cells_reader.proofs.validate.Goals as goal

pub slice_bounds-repeated-count : goal.slice_bounds-repeated-count
slice_bounds-repeated-count c = omega (arith, part-from _ _ _ _ (sym c.in-Some.ensures))

pub slice_bounds-repeated-start : goal.slice_bounds-repeated-start
slice_bounds-repeated-start c = omega (arith, part-from _ _ _ _ (sym c.in-Some.ensures))

pub slice_bounds-repeated-end : goal.slice_bounds-repeated-end
slice_bounds-repeated-end c = omega (arith, part_to _ _ _ _ (sym c.in-Some.ensures) (omega arith))

pub returns-then-repeated : goal.returns-then-repeated
unfolding validated_at
returns-then-repeated c = rw (lt-ltb _ _ c.if-lib-ge32.false, sym c.in-Some.ensures, sym c.repeated.ensures ∙ c.if-repeated.true)

pub validate_figures-requires : goal.validate_figures-requires
validate_figures-requires c = pins-few _ _ _ _ (sym c.in-Some.ensures)

pub returns : goal.returns
unfolding validated_at
returns c =
    rw (lt-ltb _ _ c.if-lib-ge32.false, sym c.in-Some.ensures, sym c.repeated.ensures ∙ c.if-repeated.false)
    c.validate_figures.ensures

pub returns-in_default : goal.returns-in_default
unfolding validated_at
returns-in_default c = rw (lt-ltb _ _ c.if-lib-ge32.false, sym c.in_default.ensures)

pub returns-then-lib-ge32 : goal.returns-then-lib-ge32
unfolding validated_at
returns-then-lib-ge32 c = rw (le-ltb _ _ c.if-lib-ge32.true)
