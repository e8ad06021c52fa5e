-- `cells_pairs::put_cells` meets its contract. The invariant: the cells before line i are written.
use Rattle.base.specs.{◌≡◌, refl, ap, ◌∙◌, ◌++◌, ℕ, ◌+◌, ◌<◌, arith, take, drop, get_or, get_or-take}
use Rattle.model.specs.{each, no_cell, cells_of}
use Rattle.model.specs.declared.Cell.{Cell}
use Rattle.model.specs.declared.Library.{Library}
use Rattle.base_text.proofs.{begin, step, capacity, kept, end}
use Rattle.cells_pairs.specs.{Joinable, cell_bytes}
use Rattle.cells_pairs.proofs.PairJoins.{listed-pins}
use Rattle.cells_pairs.proofs.RecordLookup.{next-cell, no_cell_lem}
use Rattle.cells_pairs.proofs.put_cells.Goals as goal

-- the bytes of the cells from line i on
next_one : (lib : Library) → Joinable lib → (i : ℕ) → i < lib.n
    → each cell_bytes (drop i (take lib.n lib.cells)) ≡ cell_bytes (get_or lib.cells i no_cell) ++ each cell_bytes (drop (i + 1) (take lib.n lib.cells))
unfolding cells_of
next_one lib ok i h =
    next-cell (take lib.n lib.cells) i (omega (arith, ok.whole))
    ∙ ap (λ (x : Cell). cell_bytes x ++ each cell_bytes (drop (i + 1) (take lib.n lib.cells))) (get_or-take lib.n lib.cells i no_cell h)

pub loop-i-init : goal.loop-i-init
loop-i-init c = begin c.args.records.now c.args.at refl

pub put_cell-next-requires : goal.put_cell-next-requires
unfolding cells_of
put_cell-next-requires c =
    let l = c.loop-i in
    let h : l.i < c.args.lib.n = c.loop-i-test.true in (
      listed-pins c.args.lib c.requires.0 l.i h,
      capacity c.requires.1 l.invariant (cell_bytes (get_or c.args.lib.cells l.i no_cell))
          (each cell_bytes (drop (l.i + 1) (take c.args.lib.n c.args.lib.cells))) (next_one c.args.lib c.requires.0 l.i h),
    )

pub loop-i-preserved : goal.loop-i-preserved
unfolding cells_of
loop-i-preserved c =
    let l = c.loop-i in
    let h : l.i < c.args.lib.n = c.loop-i-test.true in
    let q = c.put_cell-next in
    step c.requires.1 l.invariant q.new.records q.result (cell_bytes (get_or c.args.lib.cells l.i no_cell))
    (each cell_bytes (drop (l.i + 1) (take c.args.lib.n c.args.lib.cells))) (next_one c.args.lib c.requires.0 l.i h) q.ensures

pub shape_of-records : goal.shape_of-records
unfolding cells_of
shape_of-records c = kept c.requires.1 c.loop-i.invariant

pub returns : goal.returns
unfolding cells_of
returns c =
    end c.requires.1 c.loop-i.invariant (no_cell_lem (take c.args.lib.n c.args.lib.cells) c.loop-i.i (omega (arith, c.requires.0.whole, c.loop-i-test.false)))
