-- `graph_order::take` meets its contract, on either side of its test.
use Rattle.base.specs.{lt-ltb, le-ltb}
use Rattle.graph_order.specs.{passed_to, taken_from}
use Rattle.graph_order.proofs.take.Goals as goal

pub returns-then-v-scan : goal.returns-then-v-scan
unfolding passed_to taken_from
returns-then-v-scan c =
    let l = lt-ltb c.args.v c.args.scan c.if-v-scan.true in
    record { answer = rw l; left = rw l c.remove.ensures }

pub returns : goal.returns
unfolding passed_to taken_from
returns c =
    let l = le-ltb c.args.v c.args.scan c.if-v-scan.false in
    record { answer = rw l; left = rw l }
