-- `check_outputs::fill_differences` meets its contract. The invariant: the outputs passed have their words.
use Rattle.base.specs.{get_or, length-set, ap, ◌∙◌, ℕ, ◌+◌, ◌/◌, ◌<◌, arith}
use Rattle.base_words.specs.{output_at}
use Rattle.check_outputs.specs.{literal_word, differences}
use Rattle.check_outputs.proofs.EvaluationSteps.{filled_more}
use Rattle.check_outputs.proofs.fill_differences.Goals as goal
use Rattle.check_outputs.proofs.fill_differences.Goals.{After-output-l}

pub loop-k-init : goal.loop-k-init
loop-k-init c = ((λ j h. absurd (omega arith)), c.requires.4)

pub output-l-requires : goal.output-l-requires
output-l-requires c = (c.requires.0, omega arith)

-- the variable of an output's literal
inside : (c : After-output-l) → c.output-l.result / 2 < 4096
inside c = omega (arith, c.output-l.ensures, c.requires.3 c.loop-k.k (omega arith), c.requires.0.small)

pub offset_bounds-variables-l : goal.offset_bounds-variables-l
offset_bounds-variables-l c = omega (arith, inside (goal.at.offset_bounds-variables-l c).After-output-l)

pub bounds-variables-l : goal.bounds-variables-l
bounds-variables-l c = omega (arith, inside (goal.at.bounds-variables-l c).After-output-l)

pub loop-k-preserved : goal.loop-k-preserved
loop-k-preserved c =
    let a = c.args in let xs = c.loop-k.wrong in let k = c.loop-k.k in let w = a.work.now in
    let word : ℕ → ℕ = λ j.
    differences (literal_word (output_at w a.m j) (get_or a.variables.now (output_at w a.m j / 2) 0)) (get_or a.drivers.now (a.first + j) 0) in (
      filled_more xs (λ j. j) word k c.differing.result (omega (arith, c.loop-k.invariant.1, c.requires.1))
          (c.differing.ensures
          ∙ ap (λ (x : ℕ). differences x (get_or a.drivers.now (a.first + k) 0))
          (c.literal_word-x.ensures ∙ (λ i. literal_word (c.output-l.ensures i) (get_or a.variables.now (c.output-l.ensures i / 2) 0))))
          c.loop-k.invariant.0,
      length-set xs k c.differing.result ∙ c.loop-k.invariant.1,
    )

pub returns : goal.returns
returns c = (c.loop-k.invariant.1, λ j h. c.loop-k.invariant.0 j (omega arith))
