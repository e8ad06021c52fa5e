-- `genlib_groups::figure` meets its contract, by its digits and three decimals.
use Rattle.base.specs.{◌≡◌, refl, sym, ap, ◌∙◌, arith, ℕ, ◌+◌, ◌-◌, ◌*◌, min, List, [], ◌∷◌, ◌++◌, append_assoc}
use Rattle.base.specs.{take, get_or, length-take-le}
use Rattle.model.specs.{as_digits, is_digit, in_thousandths}
use Rattle.base_text.specs.{span_end}
use Rattle.genlib_groups.proofs.GenlibFigures.{whole_is, three, decimal_byte, figure-broken, figure-long, figure-ok}
use Rattle.genlib_groups.proofs.GenlibFigures.{cap_digit}
use Rattle.genlib_groups.proofs.figure.Goals as goal
use Rattle.genlib_groups.proofs.figure.Goals.{then-not-is_figure-via-then-not-is_figure, then-not-is_figure-via-else-not-is_figure+then-w-end}

-- three digits more behind the whole
number_is : (w : List ℕ) (end : ℕ) → end ≡ span_end is_digit w 0 → (n x y z a b d : ℕ)
    → n ≡ min 65536 (as_digits 0 (take end w))
    → x ≡ get_or w (end + 1) 48 → y ≡ get_or w (end + 2) 48 → z ≡ get_or w (end + 3) 48
    → a ≡ min 65536 (n * 10 + (x - 48)) → b ≡ min 65536 (a * 10 + (y - 48)) → d ≡ min 65536 (b * 10 + (z - 48)) → d ≡ min 65536 (in_thousandths w)
number_is w end e n x y z a b d en ex ey ez ea eb ed =
    let t = take end w in
    let fa : a ≡ min 65536 (as_digits 0 (t ++ (x ∷ []))) = ea ∙ cap_digit 0 t x n en in
    let fb : b ≡ min 65536 (as_digits 0 ((t ++ (x ∷ [])) ++ (y ∷ []))) = eb ∙ cap_digit 0 (t ++ (x ∷ [])) y a fa in
    let fd : d ≡ min 65536 (as_digits 0 (((t ++ (x ∷ [])) ++ (y ∷ [])) ++ (z ∷ []))) = ed ∙ cap_digit 0 ((t ++ (x ∷ [])) ++ (y ∷ [])) z b fb in
    let g : (((t ++ (x ∷ [])) ++ (y ∷ [])) ++ (z ∷ [])) ≡ t ++ (get_or w (end + 1) 48 ∷ get_or w (end + 2) 48 ∷ get_or w (end + 3) 48 ∷ []) = simp append_assoc (cc) in
    fd ∙ ap (λ (l : List ℕ). min 65536 (as_digits 0 l)) g ∙ ap (min 65536) (sym (three w end e))

pub overflow_add-end : goal.overflow_add-end
overflow_add-end c = omega (arith, (whole_is c.args.w.now _ c.span_end-end.ensures).0)

pub returns-then-not-is_figure : goal.returns-then-not-is_figure
returns-then-not-is_figure c =
    let f = c.is_figure.ensures in
    let e = c.span_end-end.ensures in
    elim c.then-not-is_figure.branch [
      | then-not-is_figure-via-then-not-is_figure y ↦ figure-broken _ _ refl (sym f ∙ y.if-not-is_figure.true)
      | then-not-is_figure-via-else-not-is_figure+then-w-end y ↦ figure-long _ _ e (sym f ∙ y.if-not-is_figure.false) y.if-w-end.true
    ]

pub whole-requires : goal.whole-requires
whole-requires c = (whole_is c.args.w.now _ c.span_end-end.ensures).2

pub slice_bounds-whole-end : goal.slice_bounds-whole-end
slice_bounds-whole-end c = sym (length-take-le _ _ (whole_is c.args.w.now _ c.span_end-end.ensures).0)

pub overflow_add-end-2 : goal.overflow_add-end-2
overflow_add-end-2 c =
    omega (arith, (whole_is c.args.w.now _ c.span_end-end.ensures).0)

pub add_digit-a-requires : goal.add_digit-a-requires
add_digit-a-requires c =
    let b = decimal_byte _ _ c.span_end-end.ensures (sym c.is_figure.ensures ∙ c.if-not-is_figure.false) 0 (c.span_end-end.result + 1) (omega arith) in
    (omega (arith, c.whole.ensures), omega (arith, c.decimal.ensures, b.0), omega (arith, c.decimal.ensures, b.1))

pub overflow_add-end-3 : goal.overflow_add-end-3
overflow_add-end-3 c =
    omega (arith, (whole_is c.args.w.now _ c.span_end-end.ensures).0)

pub add_digit-b-requires : goal.add_digit-b-requires
add_digit-b-requires c =
    let b = decimal_byte _ _ c.span_end-end.ensures (sym c.is_figure.ensures ∙ c.if-not-is_figure.false) 1 (c.span_end-end.result + 2) (omega arith) in
    (omega (arith, c.add_digit-a.ensures), omega (arith, c.decimal-2.ensures, b.0), omega (arith, c.decimal-2.ensures, b.1))

pub overflow_add-end-4 : goal.overflow_add-end-4
overflow_add-end-4 c =
    omega (arith, (whole_is c.args.w.now _ c.span_end-end.ensures).0)

pub add_digit-c-requires : goal.add_digit-c-requires
add_digit-c-requires c =
    let b = decimal_byte _ _ c.span_end-end.ensures (sym c.is_figure.ensures ∙ c.if-not-is_figure.false) 2 (c.span_end-end.result + 3) (omega arith) in
    (omega (arith, c.add_digit-b.ensures), omega (arith, c.decimal-3.ensures, b.0), omega (arith, c.decimal-3.ensures, b.1))

pub returns : goal.returns
returns c =
    let e = c.span_end-end.ensures in
    let f = sym c.is_figure.ensures ∙ c.if-not-is_figure.false in
    let n = number_is _ _ e _ _ _ _ _ _ _ c.whole.ensures c.decimal.ensures c.decimal-2.ensures c.decimal-3.ensures c.add_digit-a.ensures c.add_digit-b.ensures c.add_digit-c.ensures in
    c.ok.ensures.value ∙ figure-ok c.args.w.now _ e f c.if-w-end.false _ n c.try_from.result c.try_from.ensures
