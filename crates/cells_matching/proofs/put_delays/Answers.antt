-- `cells_matching::put_delays` meets its contract: four stores.
use Rattle.base.specs.{◌≡◌, sym, ◌+◌, ◌*◌, add-zero, set}
use Rattle.cells_matching.specs.{timed}
use Rattle.cells_matching.proofs.put_delays.Goals as goal

pub returns : goal.returns
unfolding timed
returns c =
    let a = c.args in
    let first : 65536 + 4 * a.line ≡ 65536 + 4 * a.line + 0 = sym (add-zero (65536 + 4 * a.line)) in
    λ i. set (set (set (set a.matches.now (first i) (c.delay_of.ensures i)) (65536 + 4 * a.line + 1) (c.delay_of-2.ensures i)) (65536 + 4 * a.line + 2) (c.delay_of-3.ensures i)) (65536 + 4 * a.line + 3) (c.delay_of-4.ensures i)
