-- `check_wires::refer` meets its contract.
use Rattle.base.specs.{arith, refl}
use Rattle.check_wires.proofs.HashBuckets.{chained-none}
use Rattle.check_wires.proofs.DriverLookup.{twice_referred, undriven_referred, whole_referred}
use Rattle.check_wires.proofs.refer.Goals as goal

pub first_driven_twice-requires : goal.first_driven_twice-requires
first_driven_twice-requires c = (c.requires.0, chained-none c.args.nets.now 16381 10923 refl refl)

pub returns-in-Err : goal.returns-in-Err
returns-in-Err c =
    let a = c.args in let e = c.in-Err.ensures in
    (e.0.0, twice_referred a.nets.now a.inputs.now a.count a.n c.requires.0 c.in-Err.t a.refs.now e.0.0 e.0.1)

pub returns-in-Err-first_undriven : goal.returns-in-Err-first_undriven
returns-in-Err-first_undriven c =
    let a = c.args in let w = c.in-Err-first_undriven.ensures in
    (w.0, undriven_referred a.nets.now a.inputs.now a.count a.n c.requires.0 c.in_default.ensures.0 c.in-Err-first_undriven.f a.refs.now _ w.0 w.1)

pub returns : goal.returns
returns c =
    let a = c.args in
    whole_referred a.nets.now a.inputs.now a.count a.n c.requires.0 c.in_default.ensures.0 a.n a.refs.now _ (omega arith) c.in_default-first_undriven.ensures
