-- `check_outputs::fill_slots` meets its contract. The invariant: the variables of the slots passed have their words.
use Rattle.base.specs.{◌≡◌, sym, ◌∙◌, subst, length, get_or, set, length-set, ℕ, ◌+◌, ◌<◌, arith}
use Rattle.base_words.specs.{slot_at}
use Rattle.check_outputs.proofs.EvaluationSteps.{filled_more, slot_same, slots_less}
use Rattle.check_outputs.proofs.fill_slots.Goals as goal

pub slot_word-x-requires : goal.slot_word-x-requires
slot_word-x-requires c =
    slots_less c.args.work.now c.args.m c.args.inputs c.args.n (c.loop-i.i + 1) c.requires.0 (omega arith)

pub offset_bounds-variables-v : goal.offset_bounds-variables-v
offset_bounds-variables-v c =
    omega (arith, c.slot-v.ensures, c.requires.0.slots c.loop-i.i (omega arith), c.requires.0.capacity.small)

pub bounds-variables-v : goal.bounds-variables-v
bounds-variables-v c =
    omega (arith, c.slot-v.ensures, c.requires.0.slots c.loop-i.i (omega arith), c.requires.0.capacity.small)

pub loop-i-preserved : goal.loop-i-preserved
loop-i-preserved c =
    let a = c.args in
    let i = c.loop-i.i in let xs = c.loop-i.variables in
    let inside : slot_at a.work.now a.m i < length xs = omega (arith, c.requires.0.slots i (omega arith), c.requires.0.capacity.small, c.loop-i.invariant.1) in (
      (λ values t.
          subst (λ (v : ℕ). (j : ℕ) → j < i + 1 → get_or (set xs v c.slot_word-x.result) (slot_at a.work.now a.m j) 0 ≡ values (slot_at a.work.now a.m j)) (sym c.slot-v.ensures)
          (filled_more xs (slot_at a.work.now a.m) values i c.slot_word-x.result inside
          (c.slot_word-x.ensures
          ∙ slot_same a.work.now a.m a.inputs a.n a.b values t i (omega arith) (λ u. get_or xs u 0) (c.loop-i.invariant.0 values t))
          (c.loop-i.invariant.0 values t))),
      length-set xs c.slot-v.result c.slot_word-x.result ∙ c.loop-i.invariant.1,
    )

pub loop-i-init : goal.loop-i-init
loop-i-init c = ((λ values t j h. absurd (omega arith)), c.requires.1)

pub returns : goal.returns
returns c = λ values t j h. c.loop-i.invariant.0 values t j (omega arith)
