-- `base_text::digits_at` meets its contract. The invariant: the bytes so far are digits, of value n, to which the rest adds; the measure is what is left.
use Rattle.base.specs.{sym, ap, ◌∙◌, arith, ℕ, Some}
use Rattle.base_text.proofs.ByteRuns.{run-first, run_on, run_large, run_other, run-closed, run_end}
use Rattle.base_text.proofs.digits_at.Goals as goal

pub loop-at-init : goal.loop-at-init
loop-at-init c = run-first _ _

pub returns-then-b-lt48 : goal.returns-then-b-lt48
returns-then-b-lt48 c =
    c.closed.ensures ∙ sym (run-closed _ _ _ _ c.loop-at.invariant c.loop-at-test.true c.requires.0 c.requires.1 c.if-b-lt48.true)

pub returns-then-b-gt57 : goal.returns-then-b-gt57
returns-then-b-gt57 c =
    sym (run_other _ _ _ _ c.loop-at.invariant c.loop-at-test.true c.if-b-gt57.true)

pub returns-then-n-gt65535 : goal.returns-then-n-gt65535
returns-then-n-gt65535 c =
    sym (run_large _ _ _ _ c.loop-at.invariant c.loop-at-test.true c.if-b-lt48.false (rw c.from.ensures at c.if-n-gt65535.true))

pub loop-at-preserved : goal.loop-at-preserved
loop-at-preserved c =
    rw c.from.ensures (run_on _ _ _ _ c.loop-at.invariant c.loop-at-test.true c.if-b-lt48.false c.if-b-gt57.false (rw c.from.ensures at c.if-n-gt65535.false))

pub returns : goal.returns
returns c =
    sym (run_end _ _ _ _ c.loop-at.invariant c.requires.0 c.requires.1 c.loop-at-test.false ∙ ap (λ (k : ℕ). Some (c.loop-at.n, record { at = k })) (omega arith))
