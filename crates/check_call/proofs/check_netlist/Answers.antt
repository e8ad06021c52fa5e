-- `check_call::check_netlist` meets its contract: the netlist read, then its nets, or 32.
use Rattle.base.specs.{◌∙◌, ℕ, ◌≤◌, arith, length, replicate, length-replicate}
use Rattle.check_call.proofs.InputCodes.{ordered-preamble}
use Rattle.check_call.proofs.CheckStages.{read-stops, read_goes, read_wireable}
use Rattle.check_call.proofs.check_netlist.Goals as goal

pub read-requires : goal.read-requires
read-requires c =
    let a = c.args in let g = c.requires.0.0 in
    (c.requires.1, c.requires.2, (let z : 87384 ≤ length {A = ℕ} (replicate 87384 0) = omega (arith, length-replicate {A = ℕ} 87384 0) in z), (g, ordered-preamble a.work.now a.h g c.requires.0.1))

pub returns-in-Err : goal.returns-in-Err
returns-in-Err c = λ g p.
    let a = c.args in
    read-stops a.work.now a.h g p a.lib c.requires.1 a.netlist.now _ _ c.in-Err.place (c.in-Err.ensures g (ordered-preamble a.work.now a.h g p))

pub check_nets-requires : goal.check_nets-requires
check_nets-requires c =
    let a = c.args in
    let g = c.requires.0.0 in let t = (c.in-Ok.ensures g (ordered-preamble a.work.now a.h g c.requires.0.1)).follows in
    (g, t.drivers, read_wireable a.work.now a.h g c.requires.0.1 a.lib c.requires.1 a.netlist.now _ _ c.in-Ok.n t)

pub returns-in-Ok : goal.returns-in-Ok
returns-in-Ok c = λ g p.
    let a = c.args in
    let t = (c.in-Ok.ensures g (ordered-preamble a.work.now a.h g p)).follows in
    c.check_nets.ensures g t.drivers (read_wireable a.work.now a.h g p a.lib c.requires.1 a.netlist.now _ _ c.in-Ok.n t)
    ∙ read_goes a.work.now a.h g p a.lib c.requires.1 a.netlist.now _ _ c.in-Ok.n t
