-- `net_timing::min_delay_table` meets its contract. The invariant: the numbers before the k-th have their cells' lowest delays.
use Rattle.base.specs.{arith}
use Rattle.model.specs.{cells_of}
use Rattle.cells_pairs.proofs.{by_length}
use Rattle.net_timing.proofs.min_delay_table.Goals as goal

pub returns : goal.returns
returns c =
    let a = c.args in
    record {
      listed = λ i j h b. c.loop-k.invariant i j
          (omega (arith, h, by_length (cells_of a.lib) a.ids.now, c.requires.joinable.whole, c.loop-k-test.false)) b;
    }
