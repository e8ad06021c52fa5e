-- `check_reader::read_pairs` meets its contract. The invariant: the drivers of the outputs so far stand in the array, and the lines from here on are expected.
use Rattle.base.specs.{◌≡◌, arith, length}
use Rattle.std.proofs.lemmas.Result.{err_from_is_err_and}
use Rattle.check_reader.proofs.NameLineReading.{pairs_start, pairs-kept, pairs-broken, pairs-step, pairs_end}
use Rattle.check_reader.proofs.read_pairs.Goals as goal

pub loop-k-init : goal.loop-k-init
loop-k-init c = let a = c.args in (omega (arith, c.requires.2), pairs_start a.s.now a.outs a.from a.first a.nets.now c.requires.4)

pub overflow_add-first : goal.overflow_add-first
overflow_add-first c = omega (arith, c.loop-k.invariant.0)

pub name_step-requires : goal.name_step-requires
name_step-requires c =
    let size : length c.loop-k.nets ≡ length c.args.nets.now = c.loop-k.invariant.1.size in
    (omega (arith, c.requires.0, c.loop-k-test.true), c.loop-k.invariant.0, omega (arith, c.requires.3), c.requires.1)

pub returns-in_err-at : goal.returns-in_err-at
returns-in_err-at c =
    let a = c.args in let p = err_from_is_err_and c.from_residual.result c.from_residual.ensures.1 in
    rw (p.1, p.2) (
      pairs-kept a.s.now a.outs a.from a.first c.loop-k.at c.loop-k.k a.nets.now c.loop-k.nets c.loop-k.invariant.1 _ c.in_err-at.ensures.0,
      pairs-broken a.s.now a.outs a.from a.first c.loop-k.at c.loop-k.k a.nets.now c.loop-k.nets c.loop-k.invariant.1 c.loop-k-test.true c.in_err-at.field-0.0
          c.in_err-at.ensures.1,
    )

pub loop-k-preserved : goal.loop-k-preserved
loop-k-preserved c =
    let a = c.args in (
      omega (arith, c.in_ok-at.ensures.far, c.loop-k.invariant.0),
      pairs-step a.s.now a.outs a.from a.first c.loop-k.at c.loop-k.k a.nets.now c.loop-k.nets c.loop-k.invariant.1 c.loop-k-test.true
          (omega (arith, c.requires.1, c.requires.3, c.loop-k.invariant.0, c.in_ok-at.ensures.within)) _ _ c.in_ok-at.ensures,
    )

pub returns : goal.returns
returns c =
    let a = c.args in
    pairs_end a.s.now a.outs a.from a.first c.loop-k.at c.loop-k.k a.nets.now c.loop-k.nets c.loop-k.invariant.1 (omega arith) c.loop-k.invariant.0
