-- `check_wires::look` meets its contract.
use Rattle.base.specs.{◌%◌, ◌≤◌, arith}
use Rattle.check_wires.specs.{head_of}
use Rattle.check_wires.proofs.HashBuckets.{looked_input, looked_none}
use Rattle.check_wires.proofs.look.Goals as goal

pub returns-in-Some : goal.returns-in-Some
returns-in-Some c =
    let a = c.args in
    looked_input a.nets.now a.inputs.now a.heads.now a.links.now a.count a.i a.x c.requires.1 c.in-Some.k c.requires.0 c.in-Some.ensures

pub find-requires : goal.find-requires
find-requires c =
    let a = c.args in
    let low : head_of a.heads.now a.x ≤ a.i = c.requires.1.below (a.x % 16381) in
    (c.requires.1.falling, omega (arith, c.head.ensures, c.requires.2), omega (arith, c.head.ensures, c.requires.3))

pub returns-in-None : goal.returns-in-None
returns-in-None c =
    let a = c.args in
    looked_none a.nets.now a.inputs.now a.heads.now a.links.now a.count a.i a.x c.requires.1 c.head.result c.in_default.ensures c.head.ensures c.in-None.ensures
