-- `cover_choice::mark_outputs` meets its contract. The invariant: the outputs that are left, marked, give the same words as all.
use Rattle.base.specs.{◌≡◌, refl, sym, ap, subst, ◌∙◌, List, ℕ, suc, ◌+◌, ◌-◌, ◌/◌, ◌≤◌, ◌<◌, arith, length}
use Rattle.base_words.specs.{HasCapacity, output_at, put_needed}
use Rattle.base_words.proofs.{capacity-need}
use Rattle.cover_choice.specs.{put_outputs, OutputsIn}
use Rattle.cover_choice.proofs.NeededMarks.{mark_outputs_in, mark_size}
use Rattle.cover_choice.proofs.mark_outputs.Goals as goal

-- one output more
step : (w : List ℕ) (m k n : ℕ) → k < n → put_outputs w m k (n - k) ≡ put_outputs (put_needed w m (output_at w m k)) m (k + 1) (n - (k + 1))
unfolding put_outputs
step w m k n h =
    let e : n - k ≡ suc (n - (k + 1)) = omega arith in
    let i : suc k ≡ k + 1 = omega arith in
    ap (put_outputs w m k) e ∙ ap (λ (j : ℕ). put_outputs (put_needed w m (output_at w m k)) m j (n - (k + 1))) i

done : (w : List ℕ) (m k n : ℕ) → n ≤ k → put_outputs w m k (n - k) ≡ w
unfolding put_outputs
done w m k n h = let e : n - k ≡ 0 = omega arith in ap (put_outputs w m k) e

pub loop-k-init : goal.loop-k-init
loop-k-init c =
    let a = c.args in
    let n : ℕ = a.outputs in
    let e : n - 0 ≡ n = omega arith in
    (c.requires, refl, ap (put_outputs a.work.now a.m 0) e)

pub mark_needed-requires : goal.mark_needed-requires
mark_needed-requires c =
    let a = c.args in
    let i = c.loop-k.invariant.0 in (
      capacity-need c.loop-k.work a.m a.outputs i.capacity,
      subst (λ (x : ℕ). x / 2 ≤ a.m) (sym c.output-l.ensures) (i.within c.loop-k.k c.loop-k-test.true),
    )

pub loop-k-preserved : goal.loop-k-preserved
loop-k-preserved c =
    let a = c.args in
    let w : List ℕ = c.loop-k.work in
    let k : ℕ = c.loop-k.k in
    let x : ℕ = output_at w a.m k in
    let i = c.loop-k.invariant.0 in
    let h : k < a.outputs = c.loop-k-test.true in
    let r : HasCapacity w a.m = capacity-need w a.m a.outputs i.capacity in
    let v : x / 2 ≤ a.m = i.within k h in
    let e : c.mark_needed.new.work ≡ put_needed w a.m x = c.mark_needed.ensures ∙ ap (put_needed w a.m) c.output-l.ensures in (
      subst (λ (y : List ℕ). OutputsIn y a.m a.outputs) (sym e) (mark_outputs_in w a.m x r v a.outputs i),
      ap length e ∙ mark_size w a.m x r v ∙ c.loop-k.invariant.1,
      ap (λ (y : List ℕ). put_outputs y a.m (k + 1) (a.outputs - (k + 1))) e ∙ sym (step w a.m k a.outputs h) ∙ c.loop-k.invariant.2,
    )

pub returns : goal.returns
returns c =
    let a = c.args in
    sym (done c.loop-k.work a.m c.loop-k.k a.outputs c.loop-k-test.false) ∙ c.loop-k.invariant.2
