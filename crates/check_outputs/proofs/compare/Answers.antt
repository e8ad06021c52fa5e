-- `check_outputs::compare` meets its contract. The invariant: what is answered for the assignments from here on is the answer, and inside a block its words are known.
use Rattle.base.specs.{◌≡◌, refl, sym, ap, ◌∙◌, Option, ℕ, ◌+◌, ◌-◌, ◌/◌, ◌^◌, arith, rules, length}
use Rattle.model.specs.{input_nets, settled, wrong_at, compare_from}
use Rattle.check_outputs.specs.{wrong_word}
use Rattle.check_outputs.proofs.ComparisonVerdict.{found_wrong, go_on, stop_at}
use Rattle.check_outputs.proofs.compare.Goals as goal

-- how many assignments there are
all-assignments : (h inputs end : ℕ) → inputs ≡ h → end ≡ 2 ^ h → (wrong : ℕ → Option ℕ) → compare_from (2 ^ inputs) 0 wrong ≡ compare_from end 0 wrong
all-assignments h inputs end e f wrong = ap (λ (x : ℕ). compare_from x 0 wrong) (ap (λ (x : ℕ). 2 ^ x) e ∙ sym f)

pub loop-s-init : goal.loop-s-init
loop-s-init c = (
  search rules,
  (λ g ds q. (ap (λ (x : ℕ). compare_from x 0 (wrong_at g (settled (length ds) (input_nets g) ds))) (let e : c.assignments_of-end.result ≡ c.assignments_of-end.result - 0 = omega arith in e), λ d. absurd (d refl))),
)

pub evaluate-requires : goal.evaluate-requires
evaluate-requires c =
    ((c.requires, c.loop-s.invariant.0), λ g ds q. (c.loop-s.invariant.1 g ds q).1)

pub first_wrong-requires : goal.first_wrong-requires
first_wrong-requires c = (c.requires.2.fit.outs, omega arith)

pub returns-in-Some : goal.returns-in-Some
returns-in-Some c = λ g ds q.
    let a = c.args in let s = c.loop-s.s in
    let wrong = wrong_at g (settled (length ds) (input_nets g) ds) in
    sym (all-assignments a.h.inputs (length g.inputs) c.assignments_of-end.result q.graph_loaded.ins c.assignments_of-end.ensures wrong
    ∙ (c.loop-s.invariant.1 g ds q).0
    ∙ stop_at wrong s (c.assignments_of-end.result - s) (omega arith) c.in-Some.k
    (found_wrong g ds s c.evaluate.new.wrong a.h.outputs q.graph_loaded.outs (c.evaluate.ensures.1 g ds q) ∙ sym c.first_wrong.ensures ∙ c.in-Some.is))

pub loop-s-preserved : goal.loop-s-preserved
loop-s-preserved c =
    let a = c.args in
    let s = c.loop-s.s in (
      c.evaluate.ensures.0,
      (λ g ds q.
          let wrong = wrong_at g (settled (length ds) (input_nets g) ds) in (
            (c.loop-s.invariant.1 g ds q).0
                ∙ go_on wrong s (c.assignments_of-end.result - s) (omega arith)
                (found_wrong g ds s c.evaluate.new.wrong a.h.outputs q.graph_loaded.outs (c.evaluate.ensures.1 g ds q) ∙ sym c.first_wrong.ensures ∙ c.in_default.is)
                ∙ ap (λ (x : ℕ). compare_from x (s + 1) wrong) (let e : c.assignments_of-end.result - s - 1 ≡ c.assignments_of-end.result - (s + 1) = omega arith in e),
            (λ d k l. c.evaluate.ensures.1 g ds q k l ∙ ap (λ (x : ℕ). wrong_word g ds x k) (let e : s / 64 ≡ (s + 1) / 64 = omega (arith, d) in e)),
          )),
    )

pub returns : goal.returns
unfolding compare_from
returns c = λ g ds q.
    let a = c.args in
    let wrong = wrong_at g (settled (length ds) (input_nets g) ds) in
    sym (all-assignments a.h.inputs (length g.inputs) c.assignments_of-end.result q.graph_loaded.ins c.assignments_of-end.ensures wrong
    ∙ (c.loop-s.invariant.1 g ds q).0
    ∙ ap (λ (x : ℕ). compare_from x c.loop-s.s wrong) (let e : c.assignments_of-end.result - c.loop-s.s ≡ 0 = omega arith in e))

pub assignments_of-end-requires : goal.assignments_of-end-requires
assignments_of-end-requires c = let q = c.requires.2 in omega (arith, q.few, q.graph_loaded.ins)
