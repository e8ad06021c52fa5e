-- `base_truth::pin_net` meets its contract: a place is one of four.
use Rattle.base.specs.{arith}
use Rattle.base_truth.proofs.VariantTables.{place-small}
use Rattle.base_truth.proofs.pin_net.Goals as goal

pub offset_bounds-leaves-place : goal.offset_bounds-leaves-place
offset_bounds-leaves-place c = omega (arith, c.place.ensures, place-small c.args.order c.args.j c.requires.0 c.requires.1)

pub bounds-leaves-place : goal.bounds-leaves-place
bounds-leaves-place c = omega (arith, c.place.ensures, place-small c.args.order c.args.j c.requires.0 c.requires.1)
