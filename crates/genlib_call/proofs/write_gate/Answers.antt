-- `genlib_call::write_gate` meets its contract: one line more, or none.
use Rattle.base.specs.{◌≡◌, sym, ap, subst, List, ℕ, arith, length}
use Rattle.model.specs.{gate_text}
use Rattle.base_text.specs.{Wrote}
use Rattle.base_text.proofs.{idle}
use Rattle.genlib_groups.specs.{group_at}
use Rattle.genlib_celltext.specs.{gate_in}
use Rattle.genlib_call.specs.{line_of}
use Rattle.genlib_call.proofs.GatePasses.{line-held, line-none}
use Rattle.genlib_call.proofs.write_gate.Goals as goal

pub put_gate-requires : goal.put_gate-requires
put_gate-requires c = (c.in-Ok.ensures.0, omega (arith, c.requires.2, ap length (line-held (group_at c.args.s.now c.args.at) _ (sym c.in-Ok.ensures.1))))

pub returns-in-Ok : goal.returns-in-Ok
returns-in-Ok c =
    let p = c.put_gate in
    let a = c.args in
    let line : line_of (group_at a.s.now a.at) ≡ gate_text (gate_in a.s.now c.in-Ok.g) = line-held (group_at a.s.now a.at) _ (sym c.in-Ok.ensures.1) in
    subst (λ (bs : List ℕ). Wrote a.out.now p.new.out a.to p.result bs) (sym line) p.ensures

pub returns-in-Err : goal.returns-in-Err
returns-in-Err c =
    let a = c.args in
    idle a.out.now a.to (line-none (group_at a.s.now a.at) _ _ (sym c.in-Err.ensures.1))
