-- `check_outputs::slot_word` meets its contract.
use Rattle.base.specs.{ap, ◌∙◌, ℕ, ◌/◌, ◌≤◌, ◌<◌, arith, get_or}
use Rattle.check_outputs.specs.{and_word, and_at}
use Rattle.check_outputs.proofs.EvaluationSteps.{slot-zero, slot-input, slot-and}
use Rattle.check_outputs.proofs.slot_word.Goals as goal
use Rattle.check_outputs.proofs.slot_word.Goals.{After-slot-v, After-left-l, After-right-r}

pub returns-then-i-eq0 : goal.returns-then-i-eq0
returns-then-i-eq0 c =
    let a = c.args in
    slot-zero a.work.now a.m a.inputs a.b (λ u. get_or a.variables.now u 0) a.i c.if-i-eq0.true

pub returns-then-i-inputs : goal.returns-then-i-inputs
returns-then-i-inputs c =
    let a = c.args in
    c.input_word.ensures
    ∙ slot-input a.work.now a.m a.inputs a.b (λ u. get_or a.variables.now u 0) a.i c.if-i-eq0.false c.if-i-inputs.true

-- the variable in the slot
inside : (c : After-slot-v) → c.slot-v.result ≤ c.args.m
inside c = omega (arith, c.slot-v.ensures, c.requires.slots c.args.i (omega arith))

-- the variables of its literals
left-inside : (c : After-left-l) → c.left-l.result / 2 < 4096
left-inside c =
    let at : c.slot-v.result ≤ c.args.m = omega (arith, c.slot-v.ensures, c.requires.slots c.args.i (omega arith)) in
    omega (arith, c.left-l.ensures, c.requires.lefts c.slot-v.result at, c.requires.capacity.small)

right-inside : (c : After-right-r) → c.right-r.result / 2 < 4096
right-inside c =
    let at : c.slot-v.result ≤ c.args.m = omega (arith, c.slot-v.ensures, c.requires.slots c.args.i (omega arith)) in
    omega (arith, c.right-r.ensures, c.requires.rights c.slot-v.result at, c.requires.capacity.small)

pub left-l-requires : goal.left-l-requires
left-l-requires c = (c.requires.capacity, inside (goal.at.left-l-requires c).After-slot-v)

pub right-r-requires : goal.right-r-requires
right-r-requires c = (c.requires.capacity, inside (goal.at.right-r-requires c).After-slot-v)

pub offset_bounds-variables-l : goal.offset_bounds-variables-l
offset_bounds-variables-l c = omega (arith, left-inside (goal.at.offset_bounds-variables-l c).After-left-l)

pub bounds-variables-l : goal.bounds-variables-l
bounds-variables-l c = omega (arith, left-inside (goal.at.bounds-variables-l c).After-left-l)

pub offset_bounds-variables-r : goal.offset_bounds-variables-r
offset_bounds-variables-r c = omega (arith, right-inside (goal.at.offset_bounds-variables-r c).After-right-r)

pub bounds-variables-r : goal.bounds-variables-r
bounds-variables-r c = omega (arith, right-inside (goal.at.bounds-variables-r c).After-right-r)

pub returns : goal.returns
unfolding and_at
returns c =
    let a = c.args in let values : ℕ → ℕ = λ u. get_or a.variables.now u 0 in
    c.and_word.ensures
    ∙ (λ k. and_word (c.left-l.ensures k) (values (c.left-l.ensures k / 2)) (c.right-r.ensures k) (values (c.right-r.ensures k / 2)))
    ∙ ap (and_at a.work.now a.m values) c.slot-v.ensures
    ∙ slot-and a.work.now a.m a.inputs a.b values a.i c.if-i-eq0.false c.if-i-inputs.false
