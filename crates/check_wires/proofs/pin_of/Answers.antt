-- `check_wires::pin_of` meets its contract.
use Rattle.base.specs.{◌/◌, ◌%◌, arith, refl}
use Rattle.check_wires.proofs.PinReferences.{pin_looked}
use Rattle.check_wires.proofs.pin_of.Goals as goal

pub returns-then-j-nets : goal.returns-then-j-nets
returns-then-j-nets c = record {
  most = omega arith;
  pin = λ h. record { most = h; input = λ p q. absurd (omega arith); driver = λ p q. absurd (omega arith); past = λ p. refl };
  used = λ e. absurd (omega arith);
  none = λ e. absurd (omega arith);
}

pub returns : goal.returns
returns c =
    let a = c.args in
    pin_looked a.nets.now a.inputs.now a.count a.n (a.at / 4) (a.at % 4) c.look.result c.if-j-nets.false c.look.ensures
