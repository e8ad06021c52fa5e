-- `check_wires::first_undriven` meets its contract. The invariant: the pins passed are written. The measure is how many are left.
use Rattle.base.specs.{◌+◌, ◌%◌, ◌≤◌, ◌<◌, arith}
use Rattle.check_wires.proofs.PinReferences.{filled_none, filled_next, filled_row}
use Rattle.check_wires.proofs.first_undriven.Goals as goal
use Rattle.check_wires.proofs.first_undriven.Goals.{Else-r-n}

pub loop-at-init : goal.loop-at-init
loop-at-init c = let a = c.args in filled_none a.nets.now a.inputs.now a.count a.n a.refs.now

pub overflow_mul-at-end : goal.overflow_mul-at-end
overflow_mul-at-end c = omega (arith, c.requires.0.few)

pub pin_of-r-requires : goal.pin_of-r-requires
pin_of-r-requires c = (c.requires.0, c.requires.1, c.loop-at-test.true)

pub returns-then-r-n : goal.returns-then-r-n
returns-then-r-n c =
    let a = c.args in
    let f = c.loop-at.invariant in (
      omega (arith, c.loop-at-test.true),
      record {
        long = f.long;
        rows = record {
          most = omega (arith, c.loop-at-test.true);
          rows = λ i h. filled_row a.nets.now a.inputs.now a.count a.n a.refs.now c.loop-at.at c.loop-at.refs f i (omega arith);
          has_undriven = λ h. (c.loop-at.at % 4, c.pin_of-r.ensures.used c.if-r-n.true, c.pin_of-r.ensures.none c.if-r-n.true);
        };
        behind = λ b h. f.behind b (omega (arith, c.loop-at-test.true));
      },
    )

pub overflow_cast-refs : goal.overflow_cast-refs
overflow_cast-refs c =
    let most : c.pin_of-r.result ≤ 12 + c.args.n = c.pin_of-r.ensures.most in
    omega (arith, c.requires.0.few)

-- a pin lies in the array
inside : (c : Else-r-n) → c.loop-at.at < 43692
inside c = omega (arith, c.loop-at-test.true, c.requires.0.few)

pub loop-at-preserved : goal.loop-at-preserved
loop-at-preserved c =
    let a = c.args in
    let most : c.pin_of-r.result ≤ 12 + a.n = c.pin_of-r.ensures.most in
    filled_next a.nets.now a.inputs.now a.count a.n a.refs.now c.loop-at.at c.pin_of-r.result c.loop-at.refs
    (omega (arith, inside (goal.at.loop-at-preserved c).Else-r-n, c.requires.2)) c.loop-at.invariant (c.pin_of-r.ensures.pin (omega arith))

pub returns : goal.returns
returns c =
    let a = c.args in
    let f = c.loop-at.invariant in
    record {
      long = f.long;
      rows = record {
        most = omega arith;
        rows = λ i h. filled_row a.nets.now a.inputs.now a.count a.n a.refs.now c.loop-at.at c.loop-at.refs f i (omega (arith, c.loop-at-test.false));
        has_undriven = λ h. absurd (omega arith);
      };
      behind = λ b h. f.behind b (omega arith);
    }
