-- `net_writer::count_driver` meets its contract: two gates more, one or none.
use Rattle.base.specs.{arith}
use Rattle.net_writer.proofs.NetlistLength.{gates-two, gates-one, gates-absent, tally_append, tally_none}
use Rattle.net_writer.proofs.count_driver.Goals as goal

pub returns-in-Nothing : goal.returns-in-Nothing
returns-in-Nothing c = (rw (gates-absent c.in-Nothing.is, tally_none), omega arith)

pub returns-in-One : goal.returns-in-One
returns-in-One c = (rw (c.count_instance.ensures.0, gates-one c.in-One.is), omega arith)

pub returns-in-Pair : goal.returns-in-Pair
returns-in-Pair c = (rw (c.count_instance-in-Pair-2.ensures.0, c.count_instance-in-Pair.ensures.0, tally_append, gates-two c.in-Pair.is), omega arith)
