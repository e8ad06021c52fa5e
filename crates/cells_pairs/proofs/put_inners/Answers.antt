-- `cells_pairs::put_inners` meets its contract. The invariant: the numbers of the first j inner lines are written.
use Rattle.base.specs.{◌+◌, ◌-◌, ◌<◌, arith, take, get_or}
use Rattle.model.specs.{from, no_cell, cells_of}
use Rattle.base_text.proofs.{begin, step, capacity, kept, end}
use Rattle.cells_pairs.specs.{id_of, id_for, inner_ids}
use Rattle.cells_pairs.proofs.PairJoins.{listed-pins, inner_begin, inner-next, inner-end}
use Rattle.cells_pairs.proofs.put_inners.Goals as goal

pub loop-j-init : goal.loop-j-init
loop-j-init c =
    begin c.args.ids.now c.args.at (inner_begin c.args.lib c.requires.0 c.args.i c.args.p)

pub put_pair_id-next-requires : goal.put_pair_id-next-requires
unfolding cells_of
put_pair_id-next-requires c =
    let l = c.loop-j in
    let h : l.j < c.args.lib.n = c.loop-j-test.true in (
      listed-pins c.args.lib c.requires.0 c.args.i c.requires.1,
      listed-pins c.args.lib c.requires.0 l.j h,
      omega (arith, c.requires.0.few, c.requires.1, c.requires.2, h),
      capacity c.requires.3 l.invariant (id_for (get_or c.args.lib.cells c.args.i no_cell) (get_or c.args.lib.cells l.j no_cell)
          (id_of c.args.i c.args.p l.j))
          (inner_ids (take c.args.lib.n c.args.lib.cells) c.args.i c.args.p (from (l.j + 1) (c.args.lib.n - (l.j + 1))))
          (inner-next c.args.lib c.requires.0 c.args.i c.args.p l.j c.requires.1 h),
    )

pub loop-j-preserved : goal.loop-j-preserved
unfolding cells_of
loop-j-preserved c =
    let l = c.loop-j in
    let q = c.put_pair_id-next in
    let h : l.j < c.args.lib.n = c.loop-j-test.true in
    step c.requires.3 l.invariant q.new.ids q.result
    (id_for (get_or c.args.lib.cells c.args.i no_cell) (get_or c.args.lib.cells l.j no_cell) (id_of c.args.i c.args.p l.j))
    (inner_ids (take c.args.lib.n c.args.lib.cells) c.args.i c.args.p (from (l.j + 1) (c.args.lib.n - (l.j + 1))))
    (inner-next c.args.lib c.requires.0 c.args.i c.args.p l.j c.requires.1 h) q.ensures

pub shape_of-ids : goal.shape_of-ids
unfolding cells_of
shape_of-ids c = kept c.requires.3 c.loop-j.invariant

pub returns : goal.returns
unfolding cells_of
returns c =
    end c.requires.3 c.loop-j.invariant (inner-end c.args.lib c.requires.0 c.args.i c.args.p c.loop-j.j c.loop-j-test.false)
