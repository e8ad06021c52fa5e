-- `run_graph::show_order` is safe.
use Rattle.base.specs.{arith}
use Rattle.graph_order.proofs.{fit-capacity}
use Rattle.run_graph.proofs.show_order.Goals as goal

pub slot-requires : goal.slot-requires
slot-requires g c = (fit-capacity c.args.h c.args.work.now c.requires, omega arith)
