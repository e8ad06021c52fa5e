-- `check_names::pin_at` meets its contract: the word is the field at the place.
use Rattle.base.specs.{sym, ◌∙◌, ap, Some, arith, ℕ, ◌+◌, ◌-◌, List, take, drop}
use Rattle.model.specs.{pin_net}
use Rattle.check_names.specs.{space_from, opt_code, pin_of, pin_at}
use Rattle.check_names.proofs.WordSplits.{fields-none, fields-part, space-fits, space-from}
use Rattle.check_names.proofs.PinLetters.{with-none, with-some}
use Rattle.check_names.proofs.pin_at.Goals as goal

pub returns-then-at-l : goal.returns-then-at-l
unfolding pin_at
returns-then-at-l c =
    let a = c.args in
    sym (ap (λ (ws : List (List ℕ)). pin_of a.b ws (space_from a.l.now a.at + 1)) (fields-none a.l.now a.at c.if-at-l.true))

pub slice_bounds-pin_code-count : goal.slice_bounds-pin_code-count
slice_bounds-pin_code-count c = let a = c.args in omega (arith, c.space_from-end.ensures, space-from a.l.now a.at)

pub slice_bounds-pin_code-start : goal.slice_bounds-pin_code-start
slice_bounds-pin_code-start c = let a = c.args in omega (arith, c.space_from-end.ensures, space-from a.l.now a.at)

pub slice_bounds-pin_code-end : goal.slice_bounds-pin_code-end
slice_bounds-pin_code-end c = let a = c.args in omega (arith, c.space_from-end.ensures, space-fits a.l.now a.at c.if-at-l.false)

pub overflow_add-next : goal.overflow_add-next
overflow_add-next c = let a = c.args in omega (arith, c.space_from-end.ensures, space-fits a.l.now a.at c.if-at-l.false)

pub returns-in_err-code : goal.returns-in_err-code
unfolding pin_at
returns-in_err-code c =
    let a = c.args in let l = a.l.now in
    c.from_residual.ensures
    ∙ sym (ap (λ (ws : List (List ℕ)). pin_of a.b ws (space_from l a.at + 1)) (fields-part l a.at c.if-at-l.false)
    ∙ with-none (space_from l a.at + 1) _ (ap (λ (e : ℕ). opt_code (pin_net a.b (take (e - a.at) (drop a.at l)))) (sym c.space_from-end.ensures) ∙ sym c.in_err-code.ensures))

pub returns : goal.returns
unfolding pin_at
returns c =
    let a = c.args in let l = a.l.now in
    ap (λ (n : ℕ). Some (record { code = c.in_ok-code.code; next = n + 1 })) c.space_from-end.ensures
    ∙ sym (ap (λ (ws : List (List ℕ)). pin_of a.b ws (space_from l a.at + 1)) (fields-part l a.at c.if-at-l.false)
    ∙ with-some (space_from l a.at + 1) _ _ (ap (λ (e : ℕ). opt_code (pin_net a.b (take (e - a.at) (drop a.at l)))) (sym c.space_from-end.ensures) ∙ sym c.in_ok-code.ensures))
