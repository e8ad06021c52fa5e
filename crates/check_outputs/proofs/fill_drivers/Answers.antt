-- `check_outputs::fill_drivers` meets its contract. The invariant: the drivers passed have their words.
use Rattle.base.specs.{◌≡◌, sym, ap, ◌∙◌, subst, length, get_or, set, length-set, ℕ, ◌+◌, ◌<◌, arith}
use Rattle.check_outputs.specs.{driver_word, Readable}
use Rattle.check_outputs.proofs.EvaluationSteps.{filled_more, driver-same}
use Rattle.check_outputs.proofs.fill_drivers.Goals as goal

pub driver_word-x-requires : goal.driver_word-x-requires
driver_word-x-requires c =
    subst (Readable c.args.nets.now c.args.refs.now) (sym c.from-i.ensures) (c.requires.1 c.loop-p.p (omega arith))

pub offset_bounds-drivers-i : goal.offset_bounds-drivers-i
offset_bounds-drivers-i c =
    omega (arith, c.from-i.ensures, (c.requires.1 c.loop-p.p (omega arith)).few)

pub bounds-drivers-i : goal.bounds-drivers-i
bounds-drivers-i c =
    omega (arith, c.from-i.ensures, (c.requires.1 c.loop-p.p (omega arith)).few)

pub loop-p-preserved : goal.loop-p-preserved
loop-p-preserved c =
    let a = c.args in let p = c.loop-p.p in let xs = c.loop-p.drivers in
    let order : ℕ → ℕ = λ q. get_or a.order.now q 0 in
    let inside : get_or a.order.now p 0 < length xs = omega (arith, (c.requires.1 p (omega arith)).few, c.loop-p.invariant.1) in (
      (λ values t.
          subst (λ (v : ℕ). (q : ℕ) → q < p + 1 → get_or (set xs v c.driver_word-x.result) (order q) 0 ≡ values (order q)) (sym c.from-i.ensures)
          (filled_more xs order values p c.driver_word-x.result inside
          (c.driver_word-x.ensures
          ∙ ap (driver_word a.nets.now a.refs.now a.b (λ u. get_or xs u 0)) c.from-i.ensures
          ∙ driver-same a.nets.now a.refs.now a.order.now a.n a.b values t p (omega arith) (λ u. get_or xs u 0) (c.loop-p.invariant.0 values t))
          (c.loop-p.invariant.0 values t))),
      length-set xs c.from-i.result c.driver_word-x.result ∙ c.loop-p.invariant.1,
    )

pub loop-p-init : goal.loop-p-init
loop-p-init c = ((λ values t j h. absurd (omega arith)), c.requires.2)

pub returns : goal.returns
returns c = λ values t j h. c.loop-p.invariant.0 values t j (omega arith)
