-- `net_timing::retime_variables` meets its contract. The invariant: the first i variables are timed.
use Rattle.base.specs.{◌≡◌, refl, sym, ap, subst, ◌∙◌, List, ℕ, suc, ◌+◌, ◌≤◌, arith}
use Rattle.model.specs.declared.Cell.{Cell}
use Rattle.base_words.specs.{slot_at}
use Rattle.cover_choice.specs.{PinsOf}
use Rattle.net_timing.specs.{retimed_step, retimed_up, Retimable, MinsOf}
use Rattle.net_timing.proofs.MinDelayLaws.{MinsKept, step_kept, mins-slots, mins-retimable}
use Rattle.net_timing.proofs.retime_variables.Goals as goal

step : (cells : List Cell) (w : List ℕ) (m i : ℕ) → retimed_step cells (retimed_up cells w m i) m (slot_at (retimed_up cells w m i) m i) ≡ retimed_up cells w m (i + 1)
unfolding retimed_up
step cells w m i = let e : suc i ≡ i + 1 = omega arith in ap (retimed_up cells w m) e

begin : (cells : List Cell) (w : List ℕ) (m : ℕ) → w ≡ retimed_up cells w m 0
unfolding retimed_up
begin cells w m = refl

pub loop-i-init : goal.loop-i-init
loop-i-init c = (c.requires.1, refl, λ cells r p q. (r, begin cells c.args.work.now c.args.m))

pub retime_variable-requires : goal.retime_variable-requires
retime_variable-requires c =
    let a = c.args in (
      (c.requires.0.0, (c.loop-i.invariant.2 c.requires.0.0 c.requires.0.1 c.requires.0.2 c.requires.0.3).0, c.requires.0.2),
      subst (λ (x : ℕ). x ≤ a.m) (sym c.slot-v.ensures) (c.loop-i.invariant.0.within c.loop-i.i c.loop-i-test.true),
    )

pub loop-i-preserved : goal.loop-i-preserved
loop-i-preserved c =
    let a = c.args in
    let w : List ℕ = c.loop-i.work in
    let i : ℕ = c.loop-i.i in
    let b : c.slot-v.result ≤ a.m = subst (λ (x : ℕ). x ≤ a.m) (sym c.slot-v.ensures) (c.loop-i.invariant.0.within i c.loop-i-test.true) in
    let known : (cells : List Cell) → Retimable cells w a.m → PinsOf cells a.pins.now → MinsOf cells a.mins.now → c.retime_variable.new.work ≡ retimed_step cells w a.m c.slot-v.result =
    λ cells r p q. c.retime_variable.ensures cells r p q in
    let first = (c.loop-i.invariant.2 c.requires.0.0 c.requires.0.1 c.requires.0.2 c.requires.0.3).0 in
    let k : MinsKept a.m w c.retime_variable.new.work =
    subst (MinsKept a.m w) (sym (known c.requires.0.0 first c.requires.0.2 c.requires.0.3)) (step_kept c.requires.0.0 w a.m c.slot-v.result c.loop-i.invariant.0.capacity b) in (
      mins-slots a.m w _ k a.n c.loop-i.invariant.0,
      k.size ∙ c.loop-i.invariant.1,
      (λ cells r₀ p q.
          let r = c.loop-i.invariant.2 cells r₀ p q in (
            mins-retimable a.m w _ k cells r.0,
            known cells r.0 p q
                ∙ ap (retimed_step cells w a.m) c.slot-v.ensures
                ∙ ap (λ (x : List ℕ). retimed_step cells x a.m (slot_at x a.m i)) r.1
                ∙ step cells a.work.now a.m i,
          )),
    )

pub shape_of-work : goal.shape_of-work
shape_of-work c = c.loop-i.invariant.1

pub returns : goal.returns
returns c cells r p q =
    let a = c.args in
    let e : c.loop-i.i ≡ a.n = omega arith in
    (c.loop-i.invariant.2 cells r p q).1 ∙ ap (retimed_up cells a.work.now a.m) e
