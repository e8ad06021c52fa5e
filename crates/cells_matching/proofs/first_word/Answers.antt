-- `cells_matching::first_word` meets its contract: four picks below 16 and a line below 256 fit in a word.
use Rattle.base.specs.{arith}
use Rattle.cells_matching.specs.{pick_of}
use Rattle.cells_matching.proofs.first_word.Goals as goal

pub returns : goal.returns
unfolding pick_of
returns c =
    let p = c.pick_pin-a.ensures in
    let q = c.pick_pin-b.ensures in
    let r = c.pick_pin-c.ensures in
    let t = c.pick_pin-d.ensures in
    (omega (arith, p.0, q.0, r.0, t.0), omega (arith, p.1, q.1, r.1, t.1, c.requires.0))
