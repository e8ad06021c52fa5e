-- Expressions: the form at any depth, brackets at most 16 deep, and the pins before the `;`.
use Rattle.base.specs.{ℕ, zero, suc, ◌+◌, ◌-◌, ◌≤◌, arith, ◌≡◌, refl, sym, ◌∙◌, ap, subst, ◌↔◌, Bool, true, false, not, ◌&&◌, ◌||◌, List}
use Rattle.base.specs.{[], ◌∷◌, ◌++◌, append_assoc, Memᴰ, Memᴰ-head, Memᴰ-tail, Memᴰ-append_left, Memᴰ-append_right, T, leb}
use Rattle.base.specs.{length, drop, length-append, and_yes, yes_and, leb_yes, yes_leb}
use Rattle.model.specs.{is_name_byte, tokens, is_word_byte, is_sign, lead, is_word, formed, shallow, opened, pins_of, Part, product, factor, Means}
use Rattle.model.specs.{bracketed as m-bracketed, sign_negated as m-permuted, primed as m-primed, plus as m-plus}
use Rattle.model.specs.GenlibDemands.{sum, named as m-named, one as m-one, times as m-times, alone as m-alone}
use Rattle.theory_graph.proofs.{is_true}
use Rattle.theory_genlib.proofs.{word-sign, sign-alone, drop_in, value-formed, formed-value}
use Rattle.promises.specs.GateForms.{Named, Worth, named, bracketed, sign_negated, primed, one, times, alone, plus, Deep}
use Rattle.theory_genlib_refusals.proofs.WordForms.{name-word, word-name}
use Rattle.theory_genlib_refusals.proofs.PinOrder.{pins-order, order-once, kept}

-- ---- the grammar, with and without a bound on its brackets

pub worth_means : {value : List ℕ → Bool} {k : ℕ} {p : Part} {ts : List (List ℕ)} {v : Bool} → Worth value k p ts v → Means value p ts v
unfolding is_sign lead
worth_means (named {t = t} n) = m-named t (is_true (is_word t) (word-name t n))
worth_means (bracketed w) = m-bracketed (40 ∷ []) (41 ∷ []) refl (worth_means w) refl
worth_means (sign_negated w) = m-permuted (33 ∷ []) refl (worth_means w)
worth_means (primed w) = m-primed (39 ∷ []) (worth_means w) refl
worth_means (one w) = m-one (worth_means w)
worth_means (times w x) = m-times (42 ∷ []) (worth_means w) refl (worth_means x)
worth_means (alone w) = m-alone (worth_means w)
worth_means (plus w x) = m-plus (43 ∷ []) (worth_means w) refl (worth_means x)

-- a higher bound
worth_more : {value : List ℕ → Bool} {k : ℕ} {p : Part} {ts : List (List ℕ)} {v : Bool} (l : ℕ) → k ≤ l → Worth value k p ts v → Worth value l p ts v
worth_more l h (named n) = named n
worth_more zero h (bracketed w) = absurd (omega arith)
worth_more (suc l) h (bracketed w) = bracketed (worth_more l (omega arith) w)
worth_more l h (sign_negated w) = sign_negated (worth_more l h w)
worth_more l h (primed w) = primed (worth_more l h w)
worth_more l h (one w) = one (worth_more l h w)
worth_more l h (times w x) = times (worth_more l h w) (worth_more l h x)
worth_more l h (alone w) = alone (worth_more l h w)
worth_more l h (plus w x) = plus (worth_more l h w) (worth_more l h x)

-- each of the tokens that begins with a sign is that sign
abbrev Alone : List (List ℕ) → Type 0
Alone ts = (t : List ℕ) → Memᴰ t ts → (b : ℕ) → is_word_byte b ≡ false → is_sign b t ≡ true → t ≡ b ∷ []

means_worth : {value : List ℕ → Bool} {p : Part} {ts : List (List ℕ)} {v : Bool} → Alone ts → Means value p ts v → Worth value (length ts) p ts v
unfolding is_word_byte
means_worth a (m-named t e) = named (name-word t (subst T (sym e) tt))
means_worth {value} a (m-bracketed {ts} {v} t u e m f) =
    subst (λ (i : List ℕ). Worth value (suc (length (ts ++ (u ∷ [])))) factor (i ∷ ts ++ (u ∷ [])) v)
    (sym (a t (Memᴰ-head refl) 40 refl e)) (subst
    (λ (i : List ℕ). Worth value (suc (length (ts ++ (u ∷ [])))) factor ((40 ∷ []) ∷ ts ++ (i ∷ [])) v)
    (sym (a u (Memᴰ-tail (Memᴰ-append_right ts (Memᴰ-head refl))) 41 refl f)) (worth_more (suc (length (ts ++ (u ∷ []))))
    (omega (arith, length-append ts (u ∷ []))) (bracketed (means_worth (λ x k. a x (Memᴰ-tail (Memᴰ-append_left (u ∷ []) k))) m))))
means_worth {value} a (m-permuted {ts} {v} t e m) =
    let w = means_worth (λ x k. a x (Memᴰ-tail k)) m in
    subst (λ (i : List ℕ). Worth value (suc (length ts)) factor (i ∷ ts) (not v)) (sym (a t (Memᴰ-head refl) 33 refl e)) (sign_negated (worth_more (suc (length ts)) (omega arith) w))
means_worth {value} a (m-primed {ts} {v} t m e) =
    subst (λ (i : List ℕ). Worth value (length (ts ++ (t ∷ []))) factor (ts ++ (i ∷ [])) (not v))
    (sym (a t (Memᴰ-append_right ts (Memᴰ-head refl)) 39 refl e)) (primed (worth_more (length (ts ++ (t ∷ [])))
    (omega (arith, length-append ts (t ∷ []))) (means_worth (λ x k. a x (Memᴰ-append_left (t ∷ []) k)) m)))
means_worth a (m-one m) = one (means_worth a m)
means_worth {value} a (m-times {ts} {us} {v} {w = u} t m e n) =
    subst (λ (i : List ℕ). Worth value (length (ts ++ (t ∷ us))) product (ts ++ (i ∷ us)) (v && u))
    (sym (a t (Memᴰ-append_right ts (Memᴰ-head refl)) 42 refl e)) (times (worth_more (length (ts ++ (t ∷ us)))
    (omega (arith, length-append ts (t ∷ us))) (means_worth (λ x k. a x (Memᴰ-append_left (t ∷ us) k)) m))
    (worth_more (length (ts ++ (t ∷ us))) (omega (arith, length-append ts (t ∷ us)))
    (means_worth (λ x k. a x (Memᴰ-append_right ts (Memᴰ-tail k))) n)))
means_worth a (m-alone m) = alone (means_worth a m)
means_worth {value} a (m-plus {ts} {us} {v} {w = u} t m e n) =
    subst (λ (i : List ℕ). Worth value (length (ts ++ (t ∷ us))) sum (ts ++ (i ∷ us)) (v || u))
    (sym (a t (Memᴰ-append_right ts (Memᴰ-head refl)) 43 refl e)) (plus (worth_more (length (ts ++ (t ∷ us)))
    (omega (arith, length-append ts (t ∷ us))) (means_worth (λ x k. a x (Memᴰ-append_left (t ∷ us) k)) m))
    (worth_more (length (ts ++ (t ∷ us))) (omega (arith, length-append ts (t ∷ us)))
    (means_worth (λ x k. a x (Memᴰ-append_right ts (Memᴰ-tail k))) n)))

-- ---- the form

snoc_once : (f g : List (List ℕ)) (t : List ℕ) → f ++ (t ∷ []) ≡ g ++ (t ∷ []) → f ≡ g
snoc_once [] [] t e = refl
snoc_once [] (y ∷ g) t e = absurd (let n : 1 ≡ suc (length (g ++ (t ∷ []))) = ap length e in let l : length (g ++ (t ∷ [])) ≡ length g + 1 = length-append g (t ∷ []) in omega arith)
snoc_once (x ∷ f) [] t e = absurd (let n : suc (length (f ++ (t ∷ []))) ≡ 1 = ap length e in let l : length (f ++ (t ∷ [])) ≡ length f + 1 = length-append f (t ∷ []) in omega arith)
snoc_once (x ∷ f) (y ∷ g) t e = cc (snoc_once f g t (Rattle.theory_order.proofs.OrderSplits.cons_tail e))

-- the tokens before the `;` are an expression, whatever its names are worth
pub formula_form : (s : List ℕ) → formed (drop 5 (tokens s)) ≡ true → (f : List (List ℕ)) × (drop 5 (tokens s) ≡ f ++ ((59 ∷ []) ∷ [])) × Deep (length f) f
formula_form s e =
    let first = formed-value s e (λ (t : List ℕ). false) in
    let alones : Alone first.1.expression = λ t m b w i. sign-alone b w s t (drop_in 5 (tokens s) t
    (subst (λ (x : List (List ℕ)). Memᴰ t x) (sym first.1.is_all) (Memᴰ-append_left ((59 ∷ []) ∷ []) m))) i in (
      first.1.expression,
      first.1.is_all,
      (λ value. let h = formed-value s e value in
          let q : h.1.expression ≡ first.1.expression = snoc_once h.1.expression first.1.expression (59 ∷ [])
          (sym h.1.is_all ∙ first.1.is_all) in (h.0, means_worth alones (rw q at h.1.means))),
    )

pub formula-back : (k : ℕ) (f : List (List ℕ)) → Deep k f → formed (f ++ ((59 ∷ []) ∷ [])) ≡ true
formula-back k f d =
    let h = d (λ (t : List ℕ). false) in
    value-formed (λ (t : List ℕ). false) (f ++ ((59 ∷ []) ∷ [])) h.0 (record { expression = f; is_all = refl; means = worth_means h.1 })

-- ---- "brackets over 16 deep"

opened-name : (d : ℕ) (t : List ℕ) → Named t → opened d t ≡ d
unfolding opened is_name_byte
opened-name d t n = let w = is_true (is_word t) (word-name t n) in cc (word-sign 40 refl t w, word-sign 41 refl t w)

-- from the scan of the brackets to the bound ..
lower : {value : List ℕ → Bool} {k : ℕ} {p : Part} {ts : List (List ℕ)} {v : Bool} → Worth value k p ts v → (d : ℕ) (rest : List (List ℕ)) → T (shallow d (ts ++ rest))
    → Worth value (16 - d) p ts v × T (shallow d rest)
unfolding shallow opened is_sign lead
lower (named {t = t} n) d rest h = (named n, rw (← opened-name d t n) (and_yes (leb d 16) (shallow (opened d t) rest) h).1)
lower {value} (bracketed {ts = ts} {v} w) d rest h =
    let a = and_yes (leb d 16) (shallow (d + 1) ((ts ++ ((41 ∷ []) ∷ [])) ++ rest)) h in
    let b = lower w (d + 1) ((41 ∷ []) ∷ rest) (subst (λ (x : List (List ℕ)). T (shallow (d + 1) x)) (append_assoc ts ((41 ∷ []) ∷ []) rest) a.1) in
    let c = and_yes (leb (d + 1) 16) (shallow (d + 1 - 1) rest) b.1 in
    let l : d + 1 ≤ 16 = leb_yes c.0 in
    let e : suc (16 - (d + 1)) ≡ 16 - d = omega arith in
    let f : d + 1 - 1 ≡ d = omega arith in
    (subst (λ (x : ℕ). Worth value x factor ((40 ∷ []) ∷ ts ++ ((41 ∷ []) ∷ [])) v) e (bracketed b.0), subst (λ (x : ℕ). T (shallow x rest)) f c.1)
lower (sign_negated {ts = ts} w) d rest h = let a = lower w d rest (and_yes (leb d 16) (shallow d (ts ++ rest)) h).1 in (sign_negated a.0, a.1)
lower (primed {ts = ts} w) d rest h =
    let a = lower w d ((39 ∷ []) ∷ rest) (subst (λ (x : List (List ℕ)). T (shallow d x)) (append_assoc ts ((39 ∷ []) ∷ []) rest) h) in
    (primed a.0, (and_yes (leb d 16) (shallow d rest) a.1).1)
lower (one w) d rest h = let a = lower w d rest h in (one a.0, a.1)
lower (times {ts = ts} {us} w x) d rest h =
    let a = lower w d ((42 ∷ []) ∷ us ++ rest) (subst (λ (y : List (List ℕ)). T (shallow d y)) (append_assoc ts ((42 ∷ []) ∷ us) rest) h) in
    let b = lower x d rest (and_yes (leb d 16) (shallow d (us ++ rest)) a.1).1 in
    (times a.0 b.0, b.1)
lower (alone w) d rest h = let a = lower w d rest h in (alone a.0, a.1)
lower (plus {ts = ts} {us} w x) d rest h =
    let a = lower w d ((43 ∷ []) ∷ us ++ rest) (subst (λ (y : List (List ℕ)). T (shallow d y)) (append_assoc ts ((43 ∷ []) ∷ us) rest) h) in
    let b = lower x d rest (and_yes (leb d 16) (shallow d (us ++ rest)) a.1).1 in
    (plus a.0 b.0, b.1)

-- .. and back
raise : {value : List ℕ → Bool} {k : ℕ} {p : Part} {ts : List (List ℕ)} {v : Bool} → Worth value k p ts v → (d : ℕ) (rest : List (List ℕ)) → d + k ≤ 16 → T (shallow d rest) → T (shallow d (ts ++ rest))
unfolding shallow opened is_sign lead
raise (named {k} {t} n) d rest l h = yes_and (leb d 16) (shallow (opened d t) rest) (yes_leb {a = d} {b = 16} (omega arith)) (subst (λ (x : ℕ). T (shallow x rest)) (sym (opened-name d t n)) h)
raise (bracketed {k} {ts} w) d rest l h = yes_and (leb d 16) (shallow (d + 1) ((ts ++ ((41 ∷ []) ∷ [])) ++ rest))
    (yes_leb {a = d} {b = 16} (omega arith)) (subst (λ (x : List (List ℕ)). T (shallow (d + 1) x))
    (sym (append_assoc ts ((41 ∷ []) ∷ []) rest)) (raise w (d + 1) ((41 ∷ []) ∷ rest) (omega arith) (yes_and (leb (d + 1) 16)
    (shallow (d + 1 - 1) rest) (yes_leb {a = d + 1} {b = 16} (omega arith)) (subst (λ (x : ℕ). T (shallow x rest)) (omega arith) h))))
raise (sign_negated {k} {ts} w) d rest l h = yes_and (leb d 16) (shallow d (ts ++ rest)) (yes_leb {a = d} {b = 16} (omega arith)) (raise w d rest l h)
raise (primed {k} {ts} w) d rest l h = rw (append_assoc ts ((39 ∷ []) ∷ []) rest)
    (raise w d ((39 ∷ []) ∷ rest) l (yes_and (leb d 16) (shallow d rest) (yes_leb {a = d} {b = 16} (omega arith)) h))
raise (one w) d rest l h = raise w d rest l h
raise (times {k} {ts} {us} w x) d rest l h = rw (append_assoc ts ((42 ∷ []) ∷ us) rest) (raise w d ((42 ∷ []) ∷ us ++ rest) l
    (yes_and (leb d 16) (shallow d (us ++ rest)) (yes_leb {a = d} {b = 16} (omega arith)) (raise x d rest l h)))
raise (alone w) d rest l h = raise w d rest l h
raise (plus {k} {ts} {us} w x) d rest l h = rw (append_assoc ts ((43 ∷ []) ∷ us) rest) (raise w d ((43 ∷ []) ∷ us ++ rest) l
    (yes_and (leb d 16) (shallow d (us ++ rest)) (yes_leb {a = d} {b = 16} (omega arith)) (raise x d rest l h)))

pub shallow_exactly : (k : ℕ) (f : List (List ℕ)) → Deep k f → T (shallow 0 (f ++ ((59 ∷ []) ∷ []))) ↔ Deep 16 f
unfolding shallow opened is_sign lead
shallow_exactly k f d = ((λ t value. ((d value).0, (lower (d value).1 0 ((59 ∷ []) ∷ []) t).0)), λ e. raise (e (λ (t : List ℕ). false)).1 0 ((59 ∷ []) ∷ []) (omega arith) tt)

-- ---- the pins before the `;`

pub pins-before : (f : List (List ℕ)) → pins_of (f ++ ((59 ∷ []) ∷ [])) ≡ pins_of f
unfolding is_name_byte
pins-before f = order-once (f ++ ((59 ∷ []) ∷ [])) (pins_of (f ++ ((59 ∷ []) ∷ []))) (pins_of f) (pins-order (f ++ ((59 ∷ []) ∷ []))) (kept f (pins_of f) (59 ∷ []) (pins-order f)
    (λ p e n. absurd (unfold is_word in (subst (λ (x : List ℕ). T (is_word x)) e (word-name p n.is_name)))))
