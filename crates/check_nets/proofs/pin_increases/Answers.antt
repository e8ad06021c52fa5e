-- `check_nets::pin_increases` meets its contract.
use Rattle.base.specs.{leb-true, ℕ, ◌+◌, ◌-◌, ◌*◌, arith, ◌≡◌, ap, get_or}
use Rattle.check_nets.proofs.pin_increases.Goals as goal

pub listed-requires : goal.listed-requires
listed-requires c =
    omega (arith, c.pin-x.ensures, c.requires.0.few, c.requires.0.most (4 * c.args.i + c.args.j) (omega (arith, c.requires.1, c.requires.2)))

pub returns : goal.returns
returns c =
    λ e k f.
    let z : c.pin-x.result - 12 ≡ k = omega (arith, c.pin-x.ensures, f.1) in
    omega (arith, leb-true c.args.least c.listed.result e, c.listed.ensures, ap (λ (y : ℕ). get_or c.args.components.now y 0) z)
