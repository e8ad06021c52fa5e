-- `cover_choice::choose_variables` meets its contract. The invariant: the first i variables are chosen.
use Rattle.base.specs.{◌≡◌, refl, sym, ap, subst, ◌∙◌, List, ℕ, suc, ◌+◌, ◌≤◌, arith, length}
use Rattle.model.specs.declared.Cell.{Cell}
use Rattle.base_words.specs.{slot_at}
use Rattle.cover_choice.specs.{chosen_step, chosen_up, Choosable}
use Rattle.cover_choice.proofs.ChoiceSteps.{up_after, up_choosable, after-slot}
use Rattle.cover_choice.proofs.choose_variables.Goals as goal

step : (cells : List Cell) (w : List ℕ) (m i : ℕ) → chosen_step cells (chosen_up cells w m i) m (slot_at (chosen_up cells w m i) m i) ≡ chosen_up cells w m (i + 1)
unfolding chosen_up
step cells w m i = let e : suc i ≡ i + 1 = omega arith in ap (chosen_up cells w m) e

begin : (cells : List Cell) (w : List ℕ) (m : ℕ) → w ≡ chosen_up cells w m 0
unfolding chosen_up
begin cells w m = refl

pub loop-i-init : goal.loop-i-init
loop-i-init c = let a = c.args in λ cells tools. begin cells a.work.now a.m

pub slot-v-requires : goal.slot-v-requires
slot-v-requires c =
    let a = c.args in
    let r : Choosable c.loop-i.work a.m =
    subst (λ (x : List ℕ). Choosable x a.m) (sym (c.loop-i.invariant c.requires.0.0 c.requires.0.1)) (up_choosable c.requires.0.0 c.requires.0.1.built.matchable a.work.now a.m a.n c.requires.1 c.loop-i.i (omega arith)) in
    (r.cuts.capacity, omega (arith, c.requires.1.slots.few, c.loop-i-test.true))

pub choose_variable-requires : goal.choose_variable-requires
choose_variable-requires c =
    let a = c.args in
    let u = up_after c.requires.0.0 c.requires.0.1.built.matchable a.work.now a.m a.n c.requires.1 c.loop-i.i (omega arith) in (
      c.requires.0,
      subst (λ (x : List ℕ). Choosable x a.m) (sym (c.loop-i.invariant c.requires.0.0 c.requires.0.1)) (up_choosable c.requires.0.0 c.requires.0.1.built.matchable a.work.now a.m a.n c.requires.1 c.loop-i.i (omega arith)),
      subst (λ (x : ℕ). x ≤ a.m) (sym (c.slot-v.ensures ∙ ap (λ (x : List ℕ). slot_at x a.m c.loop-i.i) (c.loop-i.invariant c.requires.0.0 c.requires.0.1)))
          (after-slot c.requires.0.0 c.requires.0.1.built.matchable a.work.now a.m a.n c.requires.1 c.loop-i.i c.loop-i-test.true u.kept),
    )

pub loop-i-preserved : goal.loop-i-preserved
loop-i-preserved c =
    let a = c.args in
    let i : ℕ = c.loop-i.i in
    λ cells tools. c.choose_variable.ensures cells tools
    ∙ ap (chosen_step cells c.loop-i.work a.m) c.slot-v.ensures
    ∙ ap (λ (x : List ℕ). chosen_step cells x a.m (slot_at x a.m i)) (c.loop-i.invariant cells tools)
    ∙ step cells a.work.now a.m i

pub shape_of-work : goal.shape_of-work
shape_of-work c =
    let a = c.args in
    ap length (c.loop-i.invariant c.requires.0.0 c.requires.0.1) ∙ (up_after c.requires.0.0 c.requires.0.1.built.matchable a.work.now a.m a.n c.requires.1 c.loop-i.i (omega arith)).kept.size

pub returns : goal.returns
returns c =
    let a = c.args in
    let e : c.loop-i.i ≡ a.n = omega (arith, c.loop-i-test.false) in
    λ cells tools. c.loop-i.invariant cells tools ∙ ap (chosen_up cells a.work.now a.m) e
