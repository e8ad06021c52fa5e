-- Figures: `is_figure` passes exactly figures, and `thousandths` gives a figure's thousandths exactly where it has at most three decimals and is at most 65.535.
use Rattle.base.specs.{ℕ, suc, ◌+◌, ◌-◌, ◌*◌, ◌^◌, ◌≤◌, arith, ◌≡◌, refl, sym, ◌∙◌, ap, ap₂, subst, ◌↔◌, true, not, ◌&&◌, Some, List, []}
use Rattle.base.specs.{◌∷◌, ◌++◌, append_assoc, append-nil, T, eqb, leb, length, take, drop, replicate, and_yes, yes_and, eqb_yes, leb_yes}
use Rattle.base.specs.{yes_leb, drop-append_seam}
use Rattle.model.specs.{all, as_digits, between, is_empty, is_digit, is_digits, span, is_fraction, wholes, decimals, is_figure, in_thousandths}
use Rattle.model.specs.{thousandths}
use Rattle.theory_graph.proofs.{is_true, by_bool}
use Rattle.theory_text.proofs.{only_out, only_yes}
use Rattle.theory_refusals.proofs.{within_form, within-back}
use Rattle.promises.specs.GateForms.{Digits, digit, more, Figure, whole, pointed, Thousandths, wholly, partly, Usable}

-- ---- digits

after-digits : (n : ℕ) (u v : List ℕ) → as_digits n (u ++ v) ≡ as_digits (as_digits n u) v
unfolding as_digits
after-digits n [] v = refl
after-digits n (b ∷ u) v = after-digits (n * 10 + (b - 48)) u v

-- digits behind digits
digits-on : (v : List ℕ) (n : ℕ) (bs : List ℕ) → Digits v n → T (all is_digit bs) → Digits (v ++ bs) (as_digits n bs)
unfolding as_digits all is_digit
digits-on v n [] d t = subst (λ (x : List ℕ). Digits x n) (sym (append-nil v)) d
digits-on v n (b ∷ bs) d t =
    let p = and_yes (is_digit b) (all is_digit bs) t in
    subst (λ (x : List ℕ). Digits x (as_digits (n * 10 + (b - 48)) bs)) (append_assoc v (b ∷ []) bs) (digits-on (v ++ (b ∷ []))
    (n * 10 + (b - 48)) bs (subst (λ (x : ℕ). Digits (v ++ (x ∷ [])) (n * 10 + (b - 48))) (omega (arith, within_form 48 57 b p.0))
    (more {d = b - 48} d (omega (arith, within_form 48 57 b p.0)))) p.1)

pub digits_form : (w : List ℕ) → T (is_digits w) → Digits w (as_digits 0 w)
unfolding is_digits is_empty all as_digits is_digit
digits_form [] t = absurd t
digits_form (b ∷ w) t =
    let p = and_yes (is_digit b) (all is_digit w) t in
    let q = within_form 48 57 b p.0 in
    digits-on (b ∷ []) (0 * 10 + (b - 48)) w (subst (λ (x : ℕ). Digits (b ∷ []) x) (omega arith)
    (subst (λ (x : ℕ). Digits (x ∷ []) (b - 48)) (omega arith) (digit {d = b - 48} (omega arith)))) p.1

all_append : (u v : List ℕ) → T (all is_digit u) → T (all is_digit v) → T (all is_digit (u ++ v))
unfolding all
all_append [] v s t = t
all_append (b ∷ u) v s t = let p = and_yes (is_digit b) (all is_digit u) s in yes_and (is_digit b) (all is_digit (u ++ v)) p.0 (all_append u v p.1 t)

one-digit : (d : ℕ) → d ≤ 9 → T (all is_digit ((48 + d) ∷ []))
unfolding all is_digit
one-digit d h = yes_and (between 48 57 (48 + d)) true (within-back 48 57 (48 + d) (omega arith, omega arith)) tt

pub digits-all : {w : List ℕ} {n : ℕ} → Digits w n → T (all is_digit w)
digits-all (digit {d} h) = one-digit d h
digits-all (more {w} {n} {d} r h) = all_append w ((48 + d) ∷ []) (digits-all r) (one-digit d h)

pub digits_value : {w : List ℕ} {n : ℕ} → Digits w n → as_digits 0 w ≡ n
unfolding as_digits
digits_value (digit {d} h) = let e : 0 * 10 + (48 + d - 48) ≡ d = omega arith in e
digits_value (more {w} {n} {d} r h) =
    after-digits 0 w ((48 + d) ∷ []) ∙ ap (λ (x : ℕ). x * 10 + (48 + d - 48)) (digits_value r) ∙ (let e : n * 10 + (48 + d - 48) ≡ n * 10 + d = omega arith in e)

-- the first digit apart
pub digits-first : {w : List ℕ} {n : ℕ} → Digits w n → (b : ℕ) × (v : List ℕ) × (w ≡ b ∷ v)
digits-first (digit {d} h) = (48 + d, [], refl)
digits-first (more {w} {n} {d} r h) = let p = digits-first r in (p.0, p.1 ++ ((48 + d) ∷ []), ap (λ (x : List ℕ). x ++ ((48 + d) ∷ [])) p.2)

pub digits-back : {w : List ℕ} {n : ℕ} → Digits w n → T (is_digits w)
unfolding is_digits is_empty
digits-back {w} d = let p = digits-first d in yes_and (not (is_empty w)) (all is_digit w) (subst (λ (x : List ℕ). T (not (is_empty x))) (sym p.2) tt) (digits-all d)

-- ---- the parts of a figure

span-parts : (w : List ℕ) → T (all is_digit (span is_digit w)) × (w ≡ span is_digit w ++ drop (length (span is_digit w)) w)
unfolding span all
span-parts [] = (tt, refl)
span-parts (b ∷ w) = by_bool (is_digit b) (λ e. rw e (unfold all in
    (yes_and (is_digit b) (all is_digit (span is_digit w)) (rw e tt) (span-parts w).0, ap (λ (y : List ℕ). b ∷ y) (span-parts w).1)))
    (λ q. rw q (unfold all in (tt, refl)))

span-on : (a r : List ℕ) → T (all is_digit a) → span is_digit r ≡ [] → span is_digit (a ++ r) ≡ a
unfolding span all
span-on [] r t e = e
span-on (b ∷ a) r t e = let p = and_yes (is_digit b) (all is_digit a) t in cc (is_true (is_digit b) p.0, span-on a r p.1 e)

drop_more : (a : List ℕ) (b : ℕ) (r : List ℕ) → drop (suc (length a)) (a ++ (b ∷ r)) ≡ r
drop_more [] b r = refl
drop_more (c ∷ a) b r = drop_more a b r

drop_all : (a : List ℕ) → drop (suc (length a)) a ≡ []
drop_all [] = refl
drop_all (c ∷ a) = drop_all a

-- the digits before the point, and those behind it
wholes-whole : {w : List ℕ} {n : ℕ} → Digits w n → wholes w ≡ w
unfolding wholes span
wholes-whole {w} d = sym (ap (span is_digit) (append-nil w)) ∙ span-on w [] (digits-all d) refl

wholes_point : {w : List ℕ} {n : ℕ} (f : List ℕ) → Digits w n → wholes (w ++ (46 ∷ f)) ≡ w
unfolding wholes span is_digit between
wholes_point {w} f d = span-on w (46 ∷ f) (digits-all d) refl

decimals-whole : {w : List ℕ} {n : ℕ} → Digits w n → decimals w ≡ []
unfolding decimals
decimals-whole {w} d = ap (λ (x : List ℕ). drop (suc (length x)) w) (wholes-whole d) ∙ drop_all w

decimals_point : {w : List ℕ} {n : ℕ} (f : List ℕ) → Digits w n → decimals (w ++ (46 ∷ f)) ≡ f
unfolding decimals
decimals_point {w} f d = ap (λ (x : List ℕ). drop (suc (length x)) (w ++ (46 ∷ f))) (wholes_point f d) ∙ drop_more w 46 f

not-empty : {w : List ℕ} {n : ℕ} → Digits w n → T (not (is_empty w))
unfolding is_empty
not-empty d = let p = digits-first d in subst (λ (x : List ℕ). T (not (is_empty x))) (sym p.2) tt

-- ---- figures

pub figure_form : (w : List ℕ) → T (is_figure w) → Figure w
unfolding is_figure wholes
figure_form w t =
    let p = and_yes (not (is_empty (wholes w))) (is_fraction (drop (length (wholes w)) w)) t in
    go (wholes w) (drop (length (wholes w)) w) p.0 p.1 (span-parts w).0 (span-parts w).1
  where
    front : (a : List ℕ) → T (not (is_empty a)) → T (all is_digit a) → Digits a (as_digits 0 a)
    front a e d = unfold is_digits in digits_form a (yes_and (not (is_empty a)) (all is_digit a) e d)

    go : (a r : List ℕ) → T (not (is_empty a)) → T (is_fraction r) → T (all is_digit a) → w ≡ a ++ r → Figure w
    go a [] e f d k = subst Figure (sym (k ∙ append-nil a)) (whole (front a e d))
    go a (b ∷ f) e h d k = unfold is_fraction in let p = and_yes (eqb b 46) (is_digits f) h in rw
        (k ∙ ap (λ (x : ℕ). a ++ (x ∷ f)) (eqb_yes p.0)) (pointed (front a e d) (digits_form f p.1))

pub figure-back : {w : List ℕ} → Figure w → T (is_figure w)
unfolding is_figure is_fraction
figure-back {w} (whole d) =
    yes_and (not (is_empty (wholes w))) (is_fraction (drop (length (wholes w)) w)) (subst (λ (x : List ℕ). T (not (is_empty x))) (sym (wholes-whole d)) (not-empty d))
    (subst (λ (x : List ℕ). T (is_fraction (drop (length x) w))) (sym (wholes-whole d)) (subst (λ (x : List ℕ). T (is_fraction (drop (length w) x))) (append-nil w) (subst (λ (x : List ℕ). T (is_fraction x)) (sym (drop-append_seam w [])) tt)))
figure-back (pointed {w} {f} d e) =
    yes_and (not (is_empty (wholes (w ++ (46 ∷ f))))) (is_fraction (drop (length (wholes (w ++ (46 ∷ f)))) (w ++ (46 ∷ f))))
    (rw (wholes_point f d) (not-empty d)) (rw (wholes_point f d) (rw (drop-append_seam w (46 ∷ f)) (digits-back e)))

-- ---- thousandths

value-whole : {w : List ℕ} {n : ℕ} → Digits w n → in_thousandths w ≡ n * 1000
unfolding in_thousandths
value-whole {w} {n} d = ap₂ (λ (x y : List ℕ). as_digits 0 (x ++ take 3 (y ++ replicate 3 48))) (wholes-whole d) (decimals-whole d)
    ∙ after-digits 0 w (48 ∷ 48 ∷ 48 ∷ []) ∙ ap (λ (x : ℕ). as_digits x (48 ∷ 48 ∷ 48 ∷ [])) (digits_value d)
    ∙ (unfold as_digits in let e : ((n * 10 + 0) * 10 + 0) * 10 + 0 ≡ n * 1000 = omega arith in e)

padded : (k : ℕ) (f : List ℕ) → T (not (is_empty f)) → length f ≤ 3 → as_digits k (take 3 (f ++ replicate 3 48)) ≡ k * 1000 + as_digits 0 f * 10 ^ (3 - length f)
unfolding as_digits is_empty
padded k [] t h = absurd t
padded k (x ∷ []) t h = let e : ((k * 10 + (x - 48)) * 10 + 0) * 10 + 0 ≡ k * 1000 + (0 * 10 + (x - 48)) * 100 = omega arith in e
padded k (x ∷ y ∷ []) t h = let e : ((k * 10 + (x - 48)) * 10 + (y - 48)) * 10 + 0 ≡ k * 1000 + ((0 * 10 + (x - 48)) * 10 + (y - 48)) * 10 = omega arith in e
padded k (x ∷ y ∷ z ∷ []) t h = omega arith
padded k (x ∷ y ∷ z ∷ u ∷ f) t h = absurd (omega arith)

value_point : {w f : List ℕ} {n m : ℕ} → Digits w n → Digits f m → length f ≤ 3 → in_thousandths (w ++ (46 ∷ f)) ≡ n * 1000 + m * 10 ^ (3 - length f)
unfolding in_thousandths
value_point {w} {f} {n} {m} d e h = cc (
  wholes_point f d,
  decimals_point f d,
  after-digits 0 w
      (take 3 (f ++ replicate 3 48)),
  digits_value d,
  padded n f (not-empty e) h,
  digits_value e,
)

pub thousandths_form : (w : List ℕ) (n : ℕ) → thousandths w ≡ Some n → Usable w n
unfolding thousandths
thousandths_form w n e =
    let t = only_out (is_figure w && (leb (length (decimals w)) 3 && leb (in_thousandths w) 65535)) (in_thousandths w) n e in
    let p = and_yes (is_figure w) (leb (length (decimals w)) 3 && leb (in_thousandths w) 65535) t.0 in
    let q = and_yes (leb (length (decimals w)) 3) (leb (in_thousandths w) 65535) p.1 in
    (go (figure_form w p.0) (leb_yes q.0) t.1, subst (λ (x : ℕ). x ≤ 65535) t.1 (leb_yes q.1))
  where
    go : {v : List ℕ} → Figure v → length (decimals v) ≤ 3 → in_thousandths v ≡ n → Thousandths v n
    go (whole d) h k = subst (Thousandths _) (sym (value-whole d) ∙ k) (wholly d)
    go (pointed {w = a} {f} d c) h k =
        let l : length f ≤ 3 = subst (λ (x : List ℕ). length x ≤ 3) (decimals_point f d) h in
        subst (Thousandths (a ++ (46 ∷ f))) (sym (value_point d c l) ∙ k) (partly d c l)

pub thousandths-back : {w : List ℕ} {n : ℕ} → Usable w n → thousandths w ≡ Some n
unfolding thousandths
thousandths-back {w} {n} u = go u.0 u.1
  where
    made : (v : List ℕ) (m : ℕ) → Figure v → length (decimals v) ≤ 3 → in_thousandths v ≡ m → m ≤ 65535 → thousandths v ≡ Some m
    made v m f h e k = unfold thousandths in only_yes (is_figure v && (leb (length (decimals v)) 3 && leb (in_thousandths v) 65535))
        (in_thousandths v) (yes_and (is_figure v) (leb (length (decimals v)) 3 && leb (in_thousandths v) 65535) (figure-back f)
        (yes_and (leb (length (decimals v)) 3) (leb (in_thousandths v) 65535) (yes_leb h)
        (yes_leb (subst (λ (x : ℕ). x ≤ 65535) (sym e) k)))) ∙ ap Some e

    go : {v : List ℕ} {m : ℕ} → Thousandths v m → m ≤ 65535 → thousandths v ≡ Some m
    go (wholly {w = v} {n = m} d) k = made v (m * 1000) (whole d) (subst (λ (x : List ℕ). length x ≤ 3) (sym (decimals-whole d)) (omega arith)) (value-whole d) k
    go (partly {w = v} {f} {n = m} {m = r} d c l) k =
        made (v ++ (46 ∷ f)) (m * 1000 + r * 10 ^ (3 - length f)) (pointed d c) (subst (λ (x : List ℕ). length x ≤ 3) (sym (decimals_point f d)) l) (value_point d c l) k

pub thousandths_exactly : (w : List ℕ) (n : ℕ) → (thousandths w ≡ Some n) ↔ Usable w n
thousandths_exactly w n = (thousandths_form w n, thousandths-back)
