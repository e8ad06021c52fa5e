-- `mapper::print` meets its contract: the netlist is measured, with its timing lines where delays are ranges, and written where it fits.
use Rattle.std.specs.Prelude.{Ok}
use Rattle.model.specs.{refused_with}
use Rattle.base.specs.{ℕ, ◌+◌, arith, ap, sym, subst, Bool, true, length}
use Rattle.mapper.specs.{Answered, printed_for}
use Rattle.mapper.proofs.StageLaws.{answered_as}
use Rattle.mapper.proofs.NetlistStage.{print_short, print_capacity, print_done, timed-short, timed-done}
use Rattle.mapper.proofs.MinArrivalStage.{lowered_mapped, lowered_mins, lines_asked, lines_said}
use Rattle.mapper.proofs.print.Goals as goal

pub measure-m-requires : goal.measure-m-requires
measure-m-requires c = let p = c.requires in (p.0, p.1)

pub retime-requires : goal.retime-requires
retime-requires c =
    let t = c.requires.2 in
    (t.library.coded, t.retimable, t.slots)

pub lines_len-requires : goal.lines_len-requires
lines_len-requires c =
    let a = c.args in
    let p = c.requires in
    lines_asked _ a.lib a.ids.now a.h p.0 (lowered_mapped a.work.now a.lib a.ids.now a.h p.0 p.1 p.2 _ c.retime.ensures)

pub returns-then-text-whole : goal.returns-then-text-whole
returns-then-text-whole c =
    let a = c.args in
    let long = c.lines_len.ensures.0 in
    λ g p t.
    let q = lowered_mapped a.work.now a.lib a.ids.now a.h g p t _ c.retime.ensures in
    let low = lowered_mins a.work.now a.lib a.ids.now a.h g p t _ c.retime.ensures in
    answered_as (ap (λ (ranged : Bool). printed_for ranged a.lib a.ids.now g (length a.text.now)) c.if-ranged.true)
    (subst (λ (n : ℕ). Answered (printed_for true a.lib a.ids.now g (length a.text.now)) a.text.now (refused_with 18 (c.measure-m.result.length + n)) a.text.now) (sym long)
    (timed-short a.lib a.ids.now g a.text.now c.measure-m.result (c.measure-m.ensures.0 g p) _ (lines_said _ a.lib a.ids.now a.h g q low) (omega (arith, long))))

pub write-requires : goal.write-requires
write-requires c =
    let a = c.args in
    let p = c.requires in
    (p.0, lowered_mapped a.work.now a.lib a.ids.now a.h p.0 p.1 p.2 _ c.retime.ensures, print_capacity _ _ p.0 a.text.now c.measure-m.result (c.measure-m.ensures.0 p.0 p.1) (omega arith))

pub put_lines-requires : goal.put_lines-requires
put_lines-requires c =
    let a = c.args in
    let p = c.requires in
    let q = lines_asked _ a.lib a.ids.now a.h p.0 (lowered_mapped a.work.now a.lib a.ids.now a.h p.0 p.1 p.2 _ c.retime.ensures) in
    (q.0, q.1, omega (arith, c.lines_len.ensures.0, c.if-text-whole.false, c.write.auto.out))

pub returns-then-ranged : goal.returns-then-ranged
returns-then-ranged c =
    let a = c.args in
    let long = c.lines_len.ensures.0 in
    λ g p t.
    let q = lowered_mapped a.work.now a.lib a.ids.now a.h g p t _ c.retime.ensures in
    let low = lowered_mins a.work.now a.lib a.ids.now a.h g p t _ c.retime.ensures in
    answered_as (ap (λ (ranged : Bool). printed_for ranged a.lib a.ids.now g (length a.text.now)) c.if-ranged.true)
    (subst (λ (n : ℕ). Answered (printed_for true a.lib a.ids.now g (length a.text.now)) a.text.now (Ok (record { length = c.measure-m.result.length + n; figures = c.measure-m.result.figures })) c.put_lines.new.out) (sym long)
    (timed-done a.lib a.ids.now g a.text.now c.measure-m.result (c.measure-m.ensures.0 g p) _ (lines_said _ a.lib a.ids.now a.h g q low) (omega (arith, long, c.if-text-whole.false)) _ _ (c.write.ensures g q).1 c.put_lines.ensures.leaves))

pub returns-then-text-m : goal.returns-then-text-m
returns-then-text-m c =
    let a = c.args in
    λ g p t.
    answered_as (ap (λ (ranged : Bool). printed_for ranged a.lib a.ids.now g (length a.text.now)) c.if-ranged.false)
    (print_short _ _ g _ _ (c.measure-m.ensures.0 g p) (omega arith))

pub write-requires-2 : goal.write-requires-2
write-requires-2 c =
    let p = c.requires in
    (p.0, p.1, print_capacity _ _ p.0 c.args.text.now _ (c.measure-m.ensures.0 p.0 p.1) (omega arith))

pub returns : goal.returns
returns c =
    let a = c.args in
    λ g p t.
    answered_as (ap (λ (ranged : Bool). printed_for ranged a.lib a.ids.now g (length a.text.now)) c.if-ranged.false)
    (print_done _ _ g _ _ (c.measure-m.ensures.0 g p) (omega arith) _ (c.write-2.ensures g p).1)
