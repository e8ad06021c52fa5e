-- `cells_pairs::form` meets its contract. The invariant: the numbers of the first i roots are written.
use Rattle.base.specs.{◌+◌, ◌-◌, ◌<◌, ◌≤◌, arith, length, get_or}
use Rattle.model.specs.{from, below, no_cell, cells_of}
use Rattle.base_text.proofs.{begin, step, capacity, kept, end}
use Rattle.cells_pairs.specs.{pin_ids, root_ids, pair_ids}
use Rattle.cells_pairs.proofs.PairJoins.{listed-pins, roots_begin, roots_next, roots_end}
use Rattle.cells_pairs.proofs.form.Goals as goal

pub loop-i-init : goal.loop-i-init
loop-i-init c =
    begin c.args.ids.now 0 (roots_begin c.args.lib c.requires.0)

pub put_pins-next-requires : goal.put_pins-next-requires
unfolding cells_of
put_pins-next-requires c =
    let l = c.loop-i in
    let h : l.i < c.args.lib.n = c.loop-i-test.true in
    let fits : 0 + length (pair_ids (cells_of c.args.lib)) ≤ length c.args.ids.now = omega (arith, c.requires.1) in
    rw c.from.ensures (
      c.requires.0,
      h,
      listed-pins c.args.lib c.requires.0 l.i h,
      capacity fits l.invariant (pin_ids (cells_of c.args.lib) l.i (below (get_or c.args.lib.cells l.i no_cell).pins))
          (root_ids (cells_of c.args.lib) (from (l.i + 1) (c.args.lib.n - (l.i + 1)))) (roots_next c.args.lib c.requires.0 l.i h),
    )

pub loop-i-preserved : goal.loop-i-preserved
unfolding cells_of
loop-i-preserved c =
    let l = c.loop-i in
    let q = c.put_pins-next in
    let h : l.i < c.args.lib.n = c.loop-i-test.true in
    let fits : 0 + length (pair_ids (cells_of c.args.lib)) ≤ length c.args.ids.now = omega (arith, c.requires.1) in
    step fits l.invariant q.new.ids q.result (pin_ids (cells_of c.args.lib) l.i (below (get_or c.args.lib.cells l.i no_cell).pins))
    (root_ids (cells_of c.args.lib) (from (l.i + 1) (c.args.lib.n - (l.i + 1)))) (roots_next c.args.lib c.requires.0 l.i h) (rw c.from.ensures at q.ensures)

pub shape_of-ids : goal.shape_of-ids
unfolding cells_of
shape_of-ids c =
    let fits : 0 + length (pair_ids (cells_of c.args.lib)) ≤ length c.args.ids.now = omega (arith, c.requires.1) in
    kept fits c.loop-i.invariant

pub returns : goal.returns
unfolding cells_of
returns c =
    let fits : 0 + length (pair_ids (cells_of c.args.lib)) ≤ length c.args.ids.now = omega (arith, c.requires.1) in
    end fits c.loop-i.invariant (roots_end c.args.lib c.requires.0 c.loop-i.i c.loop-i-test.false)
