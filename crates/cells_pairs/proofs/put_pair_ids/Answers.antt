-- `cells_pairs::put_pair_ids` meets its contract. The invariant: the numbers before number i are written.
use Rattle.base.specs.{◌∙◌, refl, ◌+◌, ◌<◌, arith, length, drop, get_or}
use Rattle.model.specs.{each}
use Rattle.base_text.proofs.{begin, step, capacity, kept, end}
use Rattle.cells_pairs.specs.{id_bytes}
use Rattle.cells_pairs.proofs.RecordLookup.{low-first, next_id, no_id}
use Rattle.cells_pairs.proofs.put_pair_ids.Goals as goal

pub loop-k-init : goal.loop-k-init
loop-k-init c = begin c.args.records.now c.args.at refl

pub put_bytes-next-requires : goal.put_bytes-next-requires
put_bytes-next-requires c =
    let l = c.loop-k in
    rw (c.to_le_bytes.ensures ∙ low-first (get_or c.args.ids.now l.k-index 0) (omega (arith, c.type_inv.ids l.k-index)))
    (capacity c.requires l.invariant (id_bytes (get_or c.args.ids.now l.k-index 0)) (each id_bytes (drop (l.k-index + 1) c.args.ids.now))
    (next_id c.args.ids.now l.k-index c.loop-k-test.true))

pub loop-k-preserved : goal.loop-k-preserved
loop-k-preserved c =
    let l = c.loop-k in
    let h : l.k-index < length c.args.ids.now = c.loop-k-test.true in
    let q = c.put_bytes-next in
    step c.requires l.invariant q.new.out q.result (id_bytes (get_or c.args.ids.now l.k-index 0)) (each id_bytes (drop (l.k-index + 1) c.args.ids.now))
    (next_id c.args.ids.now l.k-index h)
    (rw (c.to_le_bytes.ensures ∙ low-first (get_or c.args.ids.now l.k-index 0) (omega (arith, c.type_inv.ids l.k-index))) at q.ensures)

pub shape_of-records : goal.shape_of-records
shape_of-records c = kept c.requires c.loop-k.invariant

pub returns : goal.returns
returns c = end c.requires c.loop-k.invariant (no_id c.args.ids.now c.loop-k.k-index c.loop-k-test.false)
