-- `check_reader::read_lines` meets its contract: one part of the text behind the other.
use Rattle.base.specs.{arith}
use Rattle.std.proofs.lemmas.Result.{err_from_is_err_and}
use Rattle.model.specs.{text}
use Rattle.check_reader.proofs.NetlistReading.{none-left, pairs-left, end-left, preamble-broken, gates-size, gates-broken, pairs-refused, end-refused, all_taken}
use Rattle.check_reader.proofs.read_lines.Goals as goal

pub preamble-requires : goal.preamble-requires
preamble-requires c = (c.requires.1, c.requires.3)

pub returns-in_err-from : goal.returns-in_err-from
returns-in_err-from c =
    let p = err_from_is_err_and c.from_residual.result c.from_residual.ensures.1 in
    rw (p.1, p.2) (λ g f. (none-left c.args.nets.now, preamble-broken c.args.s.now c.args.lib g c.in_err-from.field-0.0 (c.in_err-from.ensures g f)))

pub read_gates-requires : goal.read_gates-requires
read_gates-requires c = (c.requires.0, c.requires.1, c.requires.2)

pub returns-in_err-gates : goal.returns-in_err-gates
returns-in_err-gates c =
    let p = err_from_is_err_and c.from_residual-in_err-gates.result c.from_residual-in_err-gates.ensures.1 in
    rw (p.1, p.2) (λ g f. (
      c.in_err-gates.ensures.0,
      gates-broken c.args.s.now c.args.lib g c.in_ok-from.from (c.in_ok-from.ensures g f) c.in_err-gates.field-0.0 c.in_err-gates.ensures.2,
    ))

pub read_pairs-requires : goal.read_pairs-requires
read_pairs-requires c =
    let size = gates-size c.args.s.now c.args.lib _ c.in_ok-gates.gates c.args.nets.now _ c.in_ok-gates.ensures in
    (c.requires.3.1.few_outputs, c.requires.1, c.in_ok-gates.ensures.few, omega (arith, size, c.requires.2), omega (arith, size, c.in_ok-gates.ensures.capacity))

pub returns-in_err-at : goal.returns-in_err-at
returns-in_err-at c =
    let a = c.args in let p = err_from_is_err_and c.from_residual-in_err-at.result c.from_residual-in_err-at.ensures.1 in
    rw (p.1, p.2) (λ g f. (
      pairs-left a.s.now a.lib c.in_ok-from.from c.in_ok-gates.gates a.nets.now _ c.in_ok-gates.ensures _ c.in_err-at.ensures.0,
      pairs-refused a.s.now a.lib g c.in_ok-from.from (c.in_ok-from.ensures g f) a.nets.now _ c.in_ok-gates.gates c.in_ok-gates.ensures a.h.outputs f.outputs
          c.in_err-at.field-0.0 c.in_err-at.ensures.1,
    ))

pub returns-in_err-_end : goal.returns-in_err-_end
unfolding text
returns-in_err-_end c =
    let a = c.args in let e = err_from_is_err_and c.from_residual-in_err-_end.result c.from_residual-in_err-_end.ensures.1 in
    let left = end-left a.s.now a.lib c.in_ok-from.from c.in_ok-gates.gates a.nets.now _ c.in_ok-gates.ensures a.h.outputs _ c.in_ok-at.at _ c.in_ok-at.ensures in
    rw (e.1, e.2) (λ g f. (
      left,
      end-refused a.s.now a.lib g c.in_ok-from.from (c.in_ok-from.ensures g f) a.nets.now _ c.in_ok-gates.gates c.in_ok-gates.ensures a.h.outputs f.outputs
          c.in_ok-at.at _ c.in_ok-at.ensures c.in_err-_end.field-0.0 c.in_err-_end.ensures,
    ))

pub returns : goal.returns
unfolding text
returns c = λ g f.
    let a = c.args in
    all_taken a.s.now a.lib g c.in_ok-from.from (c.in_ok-from.ensures g f) a.nets.now _ c.in_ok-gates.gates c.in_ok-gates.ensures a.h.outputs f.outputs
    c.in_ok-at.at _ c.in_ok-at.ensures c.requires.1 c.in_ok-_end._end c.in_ok-_end.ensures
