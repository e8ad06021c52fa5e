-- `cover_choice::uncovered` meets its contract. The invariant: the outputs from k on say the same as all.
use Rattle.base.specs.{◌≡◌, sym, ap, ◌∙◌, true, false, List, ℕ, suc, ◌+◌, ◌-◌, ◌<◌, arith}
use Rattle.model.specs.{from, refused_at, first_of, absent, uncovered, refused_with}
use Rattle.base_words.specs.{output_at, phase_at}
use Rattle.cover_choice.specs.{outputs_from, missing_from, missing}
use Rattle.cover_choice.proofs.uncovered.Goals as goal

-- a step: output k has no source, or the answer is that of the outputs after it
found : (w : List ℕ) (m k n : ℕ) → absent (phase_at w m (output_at w m k)).source ≡ true → missing_from w m k (suc n) ≡ refused_with 17 k
unfolding missing_from outputs_from from uncovered first_of refused_at
found w m k n e = rw e

past : (w : List ℕ) (m k n : ℕ) → absent (phase_at w m (output_at w m k)).source ≡ false → missing_from w m k (suc n) ≡ missing_from w m (suc k) n
unfolding missing_from outputs_from from uncovered first_of refused_at
past w m k n e = rw e

pub loop-k-init : goal.loop-k-init
loop-k-init c =
    let a = c.args in
    let n : ℕ = a.h.outputs in
    let e : n - 0 ≡ n = omega arith in
    ap (missing_from a.work.now a.h.size 0) e

pub returns-then-lacks_source : goal.returns-then-lacks_source
unfolding missing
returns-then-lacks_source c =
    let a = c.args in
    let k : ℕ = c.loop-k.k in
    let n : ℕ = a.h.outputs in
    let h : k < n = c.loop-k-test.true in
    let e : n - k ≡ suc (n - suc k) = omega arith in
    sym (sym c.loop-k.invariant ∙ ap (missing_from a.work.now a.h.size k) e
    ∙ found a.work.now a.h.size k (n - suc k) (sym c.lacks_source.ensures ∙ c.if-lacks_source.true))

pub loop-k-preserved : goal.loop-k-preserved
loop-k-preserved c =
    let a = c.args in
    let k : ℕ = c.loop-k.k in
    let n : ℕ = a.h.outputs in
    let h : k < n = c.loop-k-test.true in
    let e : n - k ≡ suc (n - (k + 1)) = omega arith in
    let s : k + 1 ≡ suc k = omega arith in
    ap (λ (j : ℕ). missing_from a.work.now a.h.size j (n - (k + 1))) s
    ∙ sym (ap (missing_from a.work.now a.h.size k) e ∙ past a.work.now a.h.size k (n - (k + 1)) (sym c.lacks_source.ensures ∙ c.if-lacks_source.false))
    ∙ c.loop-k.invariant

pub returns : goal.returns
unfolding missing missing_from outputs_from from uncovered first_of refused_at
returns c =
    let a = c.args in
    let k : ℕ = c.loop-k.k in
    let n : ℕ = a.h.outputs in
    let e : n - k ≡ 0 = omega arith in
    sym (sym c.loop-k.invariant ∙ ap (missing_from a.work.now a.h.size k) e)
