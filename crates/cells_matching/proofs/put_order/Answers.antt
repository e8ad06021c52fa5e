-- `cells_matching::put_order` meets its contract. The invariant: the variants of the order from a mask on are on the match table.
use Rattle.base.specs.{◌≡◌, ap, ◌∙◌, ℕ, ◌+◌, ◌-◌, ◌*◌, ◌%◌, ◌^◌, ◌≤◌, add-zero, arith, length, pow_mono}
use Rattle.base_truth.proofs.{power}
use Rattle.cells_matching.specs.{passed}
use Rattle.cells_matching.proofs.BucketLinks.{passed-long}
use Rattle.cells_matching.proofs.VariantStores.{order-begun, order-next}
use Rattle.cells_matching.proofs.put_order.Goals as goal

pub loop-mask-init : goal.loop-mask-init
loop-mask-init c =
    let a = c.args in
    let e = power a.pins c.requires.0 in
    order-begun a.pins a.table a.line a.order c.requires.0 c.requires.2 a.matches.now (1 * 2 ^ a.pins % 2 ^ 64) e

pub overflow_add-x-in-loop-mask : goal.overflow_add-x-in-loop-mask
overflow_add-x-in-loop-mask c =
    omega (arith, c.requires.1, c.requires.2, power c.args.pins c.requires.0, pow_mono {i = c.args.pins} {j = 4} c.requires.0)

pub put-requires : goal.put-requires
put-requires c =
    let a = c.args in
    let l = c.loop-mask in
    let t = c.loop-mask-test.true in
    let small = pow_mono {i = a.pins} {j = 4} c.requires.0 in
    let e = power a.pins c.requires.0 in
    let same = ap length l.invariant ∙ passed-long a.pins a.table (384 * a.line + 16 * a.order + l.mask) (16 - l.mask) a.matches.now in (
      c.requires.2,
      omega (arith, e, t, small),
      omega (arith, c.requires.1, c.requires.2, e, t, small),
      omega (arith, c.requires.2, c.requires.4, e, t, small, same),
      c.first_word-word.ensures.1,
    )

pub loop-mask-preserved : goal.loop-mask-preserved
loop-mask-preserved c =
    let a = c.args in
    let l = c.loop-mask in
    let w = c.first_word-word in
    let f = c.first_table-first in
    let few : l.mask ≤ 2 ^ a.pins = omega (arith, power a.pins c.requires.0) in
    c.put.ensures
    ∙ order-next a.pins a.table a.line a.order c.requires.0 c.requires.2 a.matches.now c.requires.3 w.result w.ensures.0 f.result f.ensures l.mask l.matches c.loop-mask-test.true few l.invariant

pub shape_of-matches : goal.shape_of-matches
shape_of-matches c =
    let a = c.args in
    let l = c.loop-mask in
    ap length l.invariant ∙ passed-long a.pins a.table (384 * a.line + 16 * a.order + l.mask) (16 - l.mask) a.matches.now

pub returns : goal.returns
returns c =
    let a = c.args in
    let l = c.loop-mask in
    let z : l.mask ≡ 0 = omega (arith, c.loop-mask-test.false) in
    l.invariant
    ∙ ap (λ (m : ℕ). passed a.pins a.table (384 * a.line + 16 * a.order + m) (16 - m) a.matches.now) z
    ∙ ap (λ (x : ℕ). passed a.pins a.table x 16 a.matches.now) (add-zero (384 * a.line + 16 * a.order))
