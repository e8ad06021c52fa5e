-- `genlib_call::sized_gate` meets its contract: the pins, the depth, and the gate.
use Rattle.base.specs.{◌≡◌, sym, ap, subst, ◌∙◌, true, List, ℕ, ◌≤◌, ◌<◌, arith, length, drop}
use Rattle.model.specs.{tokens, pins_of, shallow}
use Rattle.genlib_expression.specs.{names_at}
use Rattle.genlib_expression.specs.declared.Pins.{Pins}
use Rattle.genlib_expression.proofs.{length-names}
use Rattle.genlib_groups.specs.{lines_behind}
use Rattle.genlib_call.proofs.GateValidation.{sized_many, sized_deep, sized_fits, as_read}
use Rattle.genlib_call.proofs.sized_gate.Goals as goal
use Rattle.genlib_call.proofs.sized_gate.Goals.{then-p-gt4-via-then-p-gt4, then-p-gt4-via-else-p-gt4+then-not-is_shallow}

-- at most four pins
few_lem : (w : List ℕ) (p : Pins) (formula : List (List ℕ)) → names_at w p ≡ pins_of formula → p.n ≤ 4 → length (pins_of formula) ≤ 4
few_lem w p formula e h = omega (arith, ap length e, length-names w p)

pub returns-then-p-gt4 : goal.returns-then-p-gt4
returns-then-p-gt4 c =
    let a = c.args in
    let ts = tokens a.w.now in
    let lines = lines_behind a.s.now a.from in
    let f = c.find_pins-p in
    let rest = c.nth-n.ensures.rest in
    elim c.then-p-gt4.branch [
      | then-p-gt4-via-then-p-gt4 y ↦ (tt, sym (sized_many lines ts a.at (subst (λ (x : List (List ℕ)). 4 < length (pins_of x)) rest (f.ensures.1.many y.if-p-gt4.true))))
      | then-p-gt4-via-else-p-gt4+then-not-is_shallow y ↦
          let few = few_lem a.w.now f.result (drop 5 ts) (f.ensures.1.few y.if-p-gt4.false ∙ ap pins_of rest) y.if-p-gt4.false in
          (tt, sym (sized_deep lines ts a.at few (sym (y.is_shallow.ensures ∙ ap (shallow 0) rest) ∙ y.if-not-is_shallow.true)))
    ]

pub gate_of-requires : goal.gate_of-requires
gate_of-requires c =
    (c.requires.0, c.requires.1, record { four = c.if-p-gt4.false; names = c.find_pins-p.ensures.1.few c.if-p-gt4.false ∙ ap pins_of c.nth-n.ensures.rest })

pub returns : goal.returns
returns c =
    let a = c.args in
    let ts = tokens a.w.now in
    let lines = lines_behind a.s.now a.from in
    let f = c.find_pins-p in
    let rest = c.nth-n.ensures.rest in
    let few = few_lem a.w.now f.result (drop 5 ts) (f.ensures.1.few c.if-p-gt4.false ∙ ap pins_of rest) c.if-p-gt4.false in
    let flat : shallow 0 (drop 5 ts) ≡ true = sym (c.is_shallow.ensures ∙ ap (shallow 0) rest) ∙ c.if-not-is_shallow.false in
    let r = as_read a.s.now a.at c.gate_of.result _ c.gate_of.ensures.stands c.gate_of.ensures.same in
    rw c.ok_or.ensures.value (r.0, r.1 ∙ sym (sized_fits lines ts a.at few flat))
