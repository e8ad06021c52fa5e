-- `cells_pairs::put_pins` meets its contract. The invariant: the numbers of the first p pins are written.
use Rattle.base.specs.{ℕ, ◌+◌, ◌-◌, ◌<◌, arith, length}
use Rattle.model.specs.{from, below, cells_of}
use Rattle.base_text.proofs.{begin, step, capacity, kept, end}
use Rattle.cells_pairs.specs.{inner_ids, pin_ids}
use Rattle.cells_pairs.proofs.PairJoins.{each_begin, each_next, each_none}
use Rattle.cells_pairs.proofs.put_pins.Goals as goal

pub loop-p-init : goal.loop-p-init
unfolding pin_ids
loop-p-init c =
    let a = c.args in
    begin a.ids.now a.at (each_begin (λ (q : ℕ). inner_ids (cells_of a.lib) a.i q (below (length (cells_of a.lib)))) a.pins)

pub put_inners-next-requires : goal.put_inners-next-requires
unfolding pin_ids
put_inners-next-requires c =
    let l = c.loop-p in
    let a = c.args in
    let h : l.p < a.pins = c.loop-p-test.true in (
      c.requires.0,
      c.requires.1,
      omega (arith, c.requires.2, h),
      capacity c.requires.3 l.invariant (inner_ids (cells_of a.lib) a.i l.p (below (length (cells_of a.lib))))
          (pin_ids (cells_of a.lib) a.i (from (l.p + 1) (a.pins - (l.p + 1))))
          (each_next (λ (q : ℕ). inner_ids (cells_of a.lib) a.i q (below (length (cells_of a.lib)))) l.p a.pins h),
    )

pub loop-p-preserved : goal.loop-p-preserved
unfolding pin_ids
loop-p-preserved c =
    let l = c.loop-p in
    let q = c.put_inners-next in
    let a = c.args in
    let h : l.p < a.pins = c.loop-p-test.true in
    step c.requires.3 l.invariant q.new.ids q.result
    (inner_ids (cells_of a.lib) a.i l.p (below (length (cells_of a.lib)))) (pin_ids (cells_of a.lib) a.i (from (l.p + 1) (a.pins - (l.p + 1))))
    (each_next (λ (q : ℕ). inner_ids (cells_of a.lib) a.i q (below (length (cells_of a.lib)))) l.p a.pins h) q.ensures

pub shape_of-ids : goal.shape_of-ids
shape_of-ids c = kept c.requires.3 c.loop-p.invariant

pub returns : goal.returns
unfolding pin_ids
returns c =
    let a = c.args in
    end c.requires.3 c.loop-p.invariant (each_none (λ (q : ℕ). inner_ids (cells_of a.lib) a.i q (below (length (cells_of a.lib)))) c.loop-p.p a.pins
    c.loop-p-test.false)
