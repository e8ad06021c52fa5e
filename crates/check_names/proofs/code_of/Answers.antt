-- `check_names::code_of` meets its contract. The invariant: the number is that of the bytes passed, from the last on.
use Rattle.base.specs.{◌≡◌, sym, ◌∙◌, ap, ℕ, ◌+◌, ◌-◌, ◌*◌, arith, length, drop}
use Rattle.check_names.specs.{code}
use Rattle.check_names.proofs.NetNames.{code-end, code_fits, code-more}
use Rattle.check_names.proofs.code_of.Goals as goal

pub loop-i-init : goal.loop-i-init
loop-i-init c = sym (code-end c.args.w.now (length c.args.w.now) (omega arith))

pub overflow_mul-n : goal.overflow_mul-n
overflow_mul-n c =
    omega (arith, code_fits c.args.w.now (λ k. omega (arith, c.type_inv.w k)) c.loop-i.i c.loop-i.n (omega arith) c.loop-i.invariant c.loop-i-test.true c.requires)

pub overflow_add-n : goal.overflow_add-n
overflow_add-n c =
    omega (
      arith,
      code_fits c.args.w.now (λ k. omega (arith, c.type_inv.w k)) c.loop-i.i c.loop-i.n (omega arith) c.loop-i.invariant c.loop-i-test.true c.requires,
      c.type_inv.w (c.loop-i.i - 1),
      c.from.ensures,
    )

pub loop-i-preserved : goal.loop-i-preserved
loop-i-preserved c =
    ap (λ (b : ℕ). c.loop-i.n * 256 + b) c.from.ensures ∙ code-more c.args.w.now (λ k. omega (arith, c.type_inv.w k)) c.loop-i.i c.loop-i.n (omega arith) c.loop-i.invariant c.loop-i-test.true

pub returns : goal.returns
returns c =
    c.loop-i.invariant ∙ ap (λ (i : ℕ). code (drop i c.args.w.now)) (let z : c.loop-i.i ≡ 0 = omega arith in z)
