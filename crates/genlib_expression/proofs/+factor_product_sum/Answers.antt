-- `genlib_expression::sum`, `product` and `factor` meet their contracts: a name, a bracket that closes, and the steps of the two chains.
use Rattle.base.specs.{ℕ, le_refl, arith, refl, sym, ap, subst, ◌∙◌, Some, Bool, true, false, ◌&&◌, ◌||◌, List}
use Rattle.model.specs.{bit, name_value, product_of, sum_of}
use Rattle.model.specs.GenlibFormula.{within}
use Rattle.genlib_expression.specs.{names_at, rest_at}
use Rattle.genlib_expression.proofs.TokenSpans.{behind-yes, behind_no}
use Rattle.genlib_expression.proofs.ExpressionValues.{chain_bad, chain-end, chain-on, factor-is, atom-name, atom_bad, atom-closed}
use Rattle.genlib_expression.proofs.ExpressionValues.{within_none, within-sum, later, no_row, every-row, and_row, or_row}
use Rattle.genlib_expression.proofs.ExpressionValues.{factor_part, product_part, ProductChained, SumChained}
use Rattle.genlib_expression.proofs.+factor_product_sum.Goals as goal

pub factor-returns-in_default-clause-same : goal.factor-returns-in_default-clause-same
factor-returns-in_default-clause-same t c =
    let w = c.args.w.now in
    let value : ℕ → List ℕ → Bool = name_value (names_at w c.args.p) in
    let depth = c.args.depth in
    let no = behind_no w _ 40 c.in_default.ensures in
    λ row g k h. c.name.ensures.1 row g
    ∙ sym (factor-is (value row) (within (value row) k depth) _ _ _ c.negated_by_signs-odd.ensures.2 ∙ atom-name (value row) (within (value row) k depth) _ _ no)

pub factor-returns-then-depth-eq0-clause-same : goal.factor-returns-then-depth-eq0-clause-same
factor-returns-then-depth-eq0-clause-same t c =
    let w = c.args.w.now in
    let value : ℕ → List ℕ → Bool = name_value (names_at w c.args.p) in
    let depth = c.args.depth in
    let y = behind-yes w _ 40 _ c.in-Some.ensures in
    λ row g k h. sym (factor-is (value row) (within (value row) k depth) _ _ _ c.negated_by_signs-odd.ensures.2
    ∙ atom_bad (value row) (within (value row) k depth) _ _ _ y.0 y.1 (within_none (value row) k depth _ c.if-depth-eq0.true))

pub factor-sum-requires : goal.factor-sum-requires
factor-sum-requires t c =
    let y = behind-yes c.args.w.now _ 40 _ c.in-Some.ensures in
    (omega (arith, c.decreases), (y.3, c.requires.1))

pub factor-returns-clause-within : goal.factor-returns-clause-within
factor-returns-clause-within t c =
    let y = behind-yes c.args.w.now _ 40 _ c.in-Some.ensures in
    later _ _ _ c.close.result (omega (arith, c.negated_by_signs-odd.ensures.0, y.2, c.in_ok-v.ensures.within.0)) c.close.ensures.0

pub factor-returns-clause-same : goal.factor-returns-clause-same
factor-returns-clause-same t c =
    let w = c.args.w.now in
    let value : ℕ → List ℕ → Bool = name_value (names_at w c.args.p) in
    let depth = c.args.depth in
    let y = behind-yes w _ 40 _ c.in-Some.ensures in
    λ row i k h. c.close.ensures.1 row i
    ∙ sym (factor-is (value row) (within (value row) k depth) _ _ _ c.negated_by_signs-odd.ensures.2
    ∙ atom-closed (value row) (within (value row) k depth) _ _ _ y.0 y.1 (bit c.in_ok-v.v row) _
    (within-sum (value row) k depth _ c.if-depth-eq0.false ∙ sym (c.in_ok-v.ensures.same row i k h)))

pub factor-returns-in_err-v-clause-same : goal.factor-returns-in_err-v-clause-same
factor-returns-in_err-v-clause-same t c =
    let w = c.args.w.now in
    let value : ℕ → List ℕ → Bool = name_value (names_at w c.args.p) in
    let depth = c.args.depth in
    let y = behind-yes w _ 40 _ c.in-Some.ensures in
    λ row i k h. rw c.from_residual.ensures (sym (factor-is (value row) (within (value row) k depth) _ _ _ c.negated_by_signs-odd.ensures.2
    ∙ atom_bad (value row) (within (value row) k depth) _ _ _ y.0 y.1
    (within-sum (value row) k depth _ c.if-depth-eq0.false ∙ sym (c.in_err-v.ensures.same row i k h))))

pub product-loop-u-init : goal.product-loop-u-init
product-loop-u-init t c =
    let a = c.args in
    (le_refl _, c.requires.0, λ row g k h. subst (λ (x : Bool). ProductChained a.w.now a.p row a.depth k a.from x a.from) (sym (every-row row g)) (k, omega arith, refl))

pub product-returns-in_err-u-clause-same : goal.product-returns-in_err-u-clause-same
unfolding product_of
product-returns-in_err-u-clause-same t c =
    let a = c.args in
    let l = c.loop-u in
    λ row i k h. rw c.from_residual.ensures (sym (chain_bad 42 ◌&&◌ (factor_part a.w.now a.p row a.depth k) a.w.now k true a.from (bit l.v row) l.at l.invariant.1
    (l.invariant.2 row i k h) (sym (c.in_err-u.ensures.same row i k h))))

pub product-returns-in_default-clause-same : goal.product-returns-in_default-clause-same
unfolding product_of
product-returns-in_default-clause-same t c =
    let a = c.args in
    let w = a.w.now in
    let l = c.loop-u in
    let u = c.in_ok-u.u in
    let n = c.in_ok-u.n in
    let no = behind_no w _ 42 c.in_default.ensures in
    λ row i k h. ap (λ (x : Bool). Some (x, rest_at w n)) (and_row l.v u row)
    ∙ sym (chain-end 42 ◌&&◌ (factor_part w a.p row a.depth k) w k true a.from (bit l.v row) l.at l.invariant.1
    (l.invariant.2 row i k h) (bit u row) n (sym (c.in_ok-u.ensures.same row i k h)) no)

pub product-loop-u-smaller : goal.product-loop-u-smaller
product-loop-u-smaller t c =
    let y = behind-yes c.args.w.now _ 42 _ c.in-Some.ensures in
    let e = c.in_ok-u.ensures.within in
    omega arith

pub product-loop-u-preserved : goal.product-loop-u-preserved
product-loop-u-preserved t c =
    let a = c.args in
    let w = a.w.now in
    let l = c.loop-u in
    let u = c.in_ok-u.u in
    let n = c.in_ok-u.n in
    let y = behind-yes w _ 42 _ c.in-Some.ensures in
    let e = c.in_ok-u.ensures.within in (
      omega (arith, l.invariant.0, e.0, y.2),
      y.3,
      λ row i k h. subst (λ (x : Bool). ProductChained w a.p row a.depth k a.from x c.in-Some.next) (sym (and_row l.v u row))
          (chain-on 42 ◌&&◌ (factor_part w a.p row a.depth k) w k true a.from (bit l.v row) l.at l.invariant.1
          (l.invariant.2 row i k h) (bit u row) n (sym (c.in_ok-u.ensures.same row i k h)) c.in-Some.next y.0 y.1 (omega (arith, e.0, y.2))),
    )

pub sum-loop-u-init : goal.sum-loop-u-init
sum-loop-u-init t c =
    let a = c.args in
    (le_refl _, c.requires.0, λ row g k h. subst (λ (x : Bool). SumChained a.w.now a.p row a.depth k a.from x a.from) (sym (no_row row)) (k, omega arith, refl))

pub sum-returns-in_err-u-clause-same : goal.sum-returns-in_err-u-clause-same
unfolding sum_of
sum-returns-in_err-u-clause-same t c =
    let a = c.args in
    let l = c.loop-u in
    λ row i k h. rw c.from_residual.ensures (sym (chain_bad 43 ◌||◌ (product_part a.w.now a.p row a.depth k) a.w.now k false a.from (bit l.v row) l.at l.invariant.1
    (l.invariant.2 row i k h) (sym (c.in_err-u.ensures.same row i k h))))

pub sum-returns-in_default-clause-same : goal.sum-returns-in_default-clause-same
unfolding sum_of
sum-returns-in_default-clause-same t c =
    let a = c.args in
    let w = a.w.now in
    let l = c.loop-u in
    let u = c.in_ok-u.u in
    let n = c.in_ok-u.n in
    let no = behind_no w _ 43 c.in_default.ensures in
    λ row i k h. ap (λ (x : Bool). Some (x, rest_at w n)) (or_row l.v u row)
    ∙ sym (chain-end 43 ◌||◌ (product_part w a.p row a.depth k) w k false a.from (bit l.v row) l.at l.invariant.1
    (l.invariant.2 row i k h) (bit u row) n (sym (c.in_ok-u.ensures.same row i k h)) no)

pub sum-loop-u-smaller : goal.sum-loop-u-smaller
sum-loop-u-smaller t c =
    let y = behind-yes c.args.w.now _ 43 _ c.in-Some.ensures in
    let e = c.in_ok-u.ensures.within in
    omega arith

pub sum-loop-u-preserved : goal.sum-loop-u-preserved
sum-loop-u-preserved t c =
    let a = c.args in
    let w = a.w.now in
    let l = c.loop-u in
    let u = c.in_ok-u.u in
    let n = c.in_ok-u.n in
    let y = behind-yes w _ 43 _ c.in-Some.ensures in
    let e = c.in_ok-u.ensures.within in (
      omega (arith, l.invariant.0, e.0, y.2),
      y.3,
      λ row i k h. subst (λ (x : Bool). SumChained w a.p row a.depth k a.from x c.in-Some.next) (sym (or_row l.v u row))
          (chain-on 43 ◌||◌ (product_part w a.p row a.depth k) w k false a.from (bit l.v row) l.at l.invariant.1
          (l.invariant.2 row i k h) (bit u row) n (sym (c.in_ok-u.ensures.same row i k h)) c.in-Some.next y.0 y.1 (omega (arith, e.0, y.2))),
    )
