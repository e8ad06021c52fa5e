-- `cover_choice::mark_variables` meets its contract. The invariant: the variables that are left, done, give the same words as all.
use Rattle.base.specs.{◌≡◌, refl, sym, ap, subst, ◌∙◌, List, ℕ, suc, ◌-◌, ◌≤◌, ◌<◌, arith}
use Rattle.model.specs.declared.Cell.{Cell}
use Rattle.base_words.specs.{slot_at}
use Rattle.cover_choice.specs.{PinsOf, MatchesIn, fed_step, fed_down}
use Rattle.cover_choice.proofs.KeptWords.{NeedsKept}
use Rattle.cover_choice.proofs.NeededMarks.{step_kept, needs-matches, needs-slots}
use Rattle.cover_choice.proofs.mark_variables.Goals as goal

step : (cells : List Cell) (w : List ℕ) (m i j : ℕ) → suc j ≡ i → fed_down cells w m i ≡ fed_down cells (fed_step cells w m (slot_at w m j)) m j
unfolding fed_down
step cells w m i j e = ap (fed_down cells w m) (sym e)

done : (cells : List Cell) (w : List ℕ) (m i : ℕ) → i ≡ 0 → fed_down cells w m i ≡ w
unfolding fed_down
done cells w m i e = ap (fed_down cells w m) e

pub loop-i-init : goal.loop-i-init
loop-i-init c = (c.requires.1, refl, λ cells r p. (r, refl))

pub mark_variable-requires : goal.mark_variable-requires
mark_variable-requires c =
    let a = c.args in
    let h : 0 < c.loop-i.i = c.loop-i-test.true in
    let b : c.loop-i.i ≤ a.n = omega arith in (
      (c.requires.0.0, (c.loop-i.invariant.2 c.requires.0.0 c.requires.0.1 c.requires.0.2).0, c.requires.0.2),
      subst (λ (x : ℕ). x ≤ a.m) (sym c.slot-v.ensures) (c.loop-i.invariant.0.within (c.loop-i.i - 1) (omega arith)),
    )

pub loop-i-preserved : goal.loop-i-preserved
loop-i-preserved c =
    let a = c.args in
    let w : List ℕ = c.loop-i.work in
    let i : ℕ = c.loop-i.i in
    let h : 0 < i = c.loop-i-test.true in
    let b : i ≤ a.n = omega arith in
    let v : ℕ = slot_at w a.m (i - 1) in
    let v-in : v ≤ a.m = c.loop-i.invariant.0.within (i - 1) (omega arith) in
    let known : (cells : List Cell) → MatchesIn cells w a.m → PinsOf cells a.pins.now → c.mark_variable.new.work ≡ fed_step cells w a.m v =
    λ cells r p. c.mark_variable.ensures cells r p ∙ ap (fed_step cells w a.m) c.slot-v.ensures in
    let kept : (cells : List Cell) → MatchesIn cells w a.m → PinsOf cells a.pins.now → NeedsKept a.m w c.mark_variable.new.work =
    λ cells r p. subst (NeedsKept a.m w) (sym (known cells r p)) (step_kept a.m cells w v r v-in) in
    let k : NeedsKept a.m w c.mark_variable.new.work = kept c.requires.0.0 (c.loop-i.invariant.2 c.requires.0.0 c.requires.0.1 c.requires.0.2).0 c.requires.0.2 in
    let e : suc (i - 1) ≡ i = omega arith in (
      needs-slots a.m a.n w _ k c.loop-i.invariant.0,
      k.size ∙ c.loop-i.invariant.1,
      (λ cells r₀ p.
          let r = c.loop-i.invariant.2 cells r₀ p in (
            needs-matches a.m cells w _ k r.0,
            ap (λ (x : List ℕ). fed_down cells x a.m (i - 1)) (known cells r.0 p) ∙ sym (step cells w a.m i (i - 1) e) ∙ r.1,
          )),
    )

pub returns : goal.returns
returns c cells r p =
    let a = c.args in
    let e : c.loop-i.i ≡ 0 = omega arith in
    sym (done cells c.loop-i.work a.m c.loop-i.i e) ∙ (c.loop-i.invariant.2 cells r p).1
