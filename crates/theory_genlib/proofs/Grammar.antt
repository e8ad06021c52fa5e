-- What the grammar takes is an expression of that value, by the words of the request.
--     sum-means           the tokens that are taken are a sum, and what is left stands behind them
use Rattle.base.specs.{ℕ, zero, suc, ◌≡◌, refl, sym, ◌∙◌, ap, subst, Bool, true, false, not, cond, ◌&&◌, ◌||◌, None, Some, List, [], ◌∷◌}
use Rattle.base.specs.{◌++◌, append_assoc, drop}
use Rattle.model.specs.{and_then, flip, is_sign, is_word, Taken, negated_by_signs, begins, chain, quoted, close_bracket, atom, factor_of, product_of, sum_of}
use Rattle.model.specs.{Part, product, factor, Means}
use Rattle.model.specs.GenlibFormula.{named, within}
use Rattle.model.specs.GenlibDemands.{sum}
use Rattle.model.specs.GenlibDemands.Means.{bracketed, sign_negated, primed, times, plus, alone, named as name, one}
use Rattle.theory_graph.proofs.{by_bool}
use Rattle.theory_genlib.proofs.FormulaShapes.{begins-is, none-some, some-once}

-- a part of this value stands before what is left
pub record Before (value : List ℕ → Bool) (p : Part) (ts : List (List ℕ)) (r : Bool × List (List ℕ)) : Type 0 where
  pub tokens : List (List ℕ)
  pub is_all : ts ≡ tokens ++ r.1
  pub means : Means value p tokens r.0

abbrev pub Sound : (List ℕ → Bool) → Part → (List (List ℕ) → Taken) → Type 0
Sound value p part = (ts : List (List ℕ)) (r : Bool × List (List ℕ)) → part ts ≡ Some r → Before value p ts r

flip-not : (v x : Bool) → not (flip (not v) x) ≡ flip v x
unfolding flip
flip-not true x = refl
flip-not false true = refl
flip-not false false = refl

flip_twice : (v x : Bool) → flip v (flip v x) ≡ x
unfolding flip
flip_twice true true = refl
flip_twice true false = refl
flip_twice false x = refl

module _ (value : List ℕ → Bool) where
  -- the `!` before a factor
  record Signs (v : Bool) (ts : List (List ℕ)) : Type 0 where
    signs : List (List ℕ)
    is_all : ts ≡ signs ++ (negated_by_signs 33 v ts).1
    means : (us : List (List ℕ)) (x : Bool) → Means value factor us x → Means value factor (signs ++ us) (flip v (flip (negated_by_signs 33 v ts).0 x))

  bangs : (v : Bool) (ts : List (List ℕ)) → Signs v ts
  unfolding negated_by_signs
  bangs v [] = record { signs = []; is_all = refl; means = λ us x m. subst (λ (y : Bool). Means value factor us y) (sym (flip_twice v x)) m }
  bangs v (t ∷ ts) = by_bool (is_sign 33 t) (λ e. unfold negated_by_signs in let here : negated_by_signs 33 v (t ∷ ts) ≡ negated_by_signs 33 (not v) ts = ap
      (λ (b : Bool). cond b (negated_by_signs 33 (not v) ts) (v, t ∷ ts)) e in record {
        signs = t ∷ (bangs (not v) ts).signs;
        is_all = ap (λ (us : List (List ℕ)). t ∷ us) (bangs (not v) ts).is_all
            ∙ ap (λ (q : Bool × List (List ℕ)). t ∷ (bangs (not v) ts).signs ++ q.1) (sym here);
        means = λ us x m. subst (λ (y : Bool). Means value factor (t ∷ (bangs (not v) ts).signs ++ us) y)
            (flip-not v (flip (negated_by_signs 33 (not v) ts).0 x) ∙ ap (λ (q : Bool × List (List ℕ)). flip v (flip q.0 x)) (sym here))
            (sign_negated t e ((bangs (not v) ts).means us x m));
      }) (λ q. unfold negated_by_signs in let here : negated_by_signs 33 v (t ∷ ts) ≡ (v, t ∷ ts) = ap
      (λ (b : Bool). cond b (negated_by_signs 33 (not v) ts) (v, t ∷ ts)) q in record {
        signs = [];
        is_all = ap (λ (q : Bool × List (List ℕ)). q.1) (sym here);
        means = λ us x m. subst (λ (y : Bool). Means value factor us y)
            (sym (flip_twice v x) ∙ ap (λ (q : Bool × List (List ℕ)). flip v (flip q.0 x)) (sym here)) m;
      })

  -- the `'` behind one
  quotes : (us : List (List ℕ)) (v : Bool) (ts : List (List ℕ)) → Means value factor us v → Before value factor (us ++ ts) (negated_by_signs 39 v ts)
  unfolding negated_by_signs
  quotes us v [] m = record { tokens = us; is_all = refl; means = m }
  quotes us v (t ∷ ts) m = by_bool (is_sign 39 t) (λ e. rw e (let b = (quotes (us ++ (t ∷ [])) (not v) ts) (primed t m e) in
      record { tokens = b.tokens; is_all = sym (append_assoc us (t ∷ []) ts) ∙ b.is_all; means = b.means }))
      (λ q. rw q (record { tokens = us; is_all = refl; means = m }))

  -- parts of level p with the sign b between them make one of level q
  module _ (b : ℕ) (join : Bool → Bool → Bool) (p q : Part) (part : List (List ℕ) → Taken) (sound : Sound value p part)
      (first : (ts : List (List ℕ)) (v : Bool) → Means value p ts v → Means value q ts v)
      (further : (ts us : List (List ℕ)) (v w : Bool) (t : List ℕ) → Means value q ts v → is_sign b t ≡ true → Means value p us w → Means value q (ts ++ (t ∷ us)) (join v w)) where
    -- what a chain does behind a part
    abbrev onward : ℕ → Bool → Bool × List (List ℕ) → Taken
    onward fuel v s = cond (begins b s.1) (chain b join part fuel (join v s.0) (drop 1 s.1)) (Some (join v s.0, s.1))

    then_some : (o : Taken) (f : Bool × List (List ℕ) → Taken) (r : Bool × List (List ℕ)) → and_then o f ≡ Some r → (s : Bool × List (List ℕ)) × (o ≡ Some s) × (f s ≡ Some r)
    unfolding and_then
    then_some None f r e = none-some e
    then_some (Some s) f r e = (s, refl, e)

    chain-on : (fuel : ℕ) (v : Bool) (us : List (List ℕ)) (t : List ℕ) (ts : List (List ℕ)) (r : Bool × List (List ℕ)) → Means value q us v → is_sign b t ≡ true
        → chain b join part fuel v ts ≡ Some r → Before value q (us ++ (t ∷ ts)) r
    unfolding chain
    chain-on zero v us t ts r m s e = none-some e
    chain-on (suc fuel) v us t ts r m s e =
        let a = then_some (part ts) (onward fuel v) r e in
        let h = sound ts a.0 a.1 in
        by_bool (begins b a.0.1) (λ g. let y = begins-is b a.0.1 g in let z =
        (chain-on fuel (join v a.0.0) (us ++ (t ∷ h.tokens)) y.0 (drop 1 a.0.1) r)
        (further us h.tokens v a.0.0 t m s h.means) y.1 (rw g at a.2) in record {
          tokens = z.tokens;
          is_all = ap (λ (vs : List (List ℕ)). us ++ (t ∷ vs)) h.is_all ∙ sym (append_assoc us (t ∷ h.tokens) a.0.1)
              ∙ ap (λ (vs : List (List ℕ)). (us ++ (t ∷ h.tokens)) ++ vs) y.2 ∙ z.is_all;
          means = z.means;
        }) (λ p. let y : ◌≡◌ {A = Bool × List (List ℕ)} (join v a.0.0, a.0.1) r = some-once (rw p at a.2) in subst
        (λ (o : Bool × List (List ℕ)). Before value q (us ++ (t ∷ ts)) o) y (record {
          tokens = us ++ (t ∷ h.tokens);
          is_all = ap (λ (vs : List (List ℕ)). us ++ (t ∷ vs)) h.is_all ∙ sym (append_assoc us (t ∷ h.tokens) a.0.1);
          means = (further us h.tokens v a.0.0 t m s h.means);
        }))

    chain-sound : (fuel : ℕ) (v : Bool) → ((x : Bool) → join v x ≡ x) → Sound value q (chain b join part fuel v)
    unfolding chain
    chain-sound zero v unit ts r e = none-some e
    chain-sound (suc fuel) v unit ts r e =
        let a = then_some (part ts) (onward fuel v) r e in
        let h = sound ts a.0 a.1 in
        go a.0 h (begins b a.0.1) refl (subst (λ (y : Bool). Means value q h.tokens y) (sym (unit a.0.0)) (first h.tokens a.0.0 h.means)) a.2
      where
        go : (x : Bool × List (List ℕ)) (h : Before value p ts x) (c : Bool) → begins b x.1 ≡ c → Means value q h.tokens (join v x.0)
            → cond c (chain b join part fuel (join v x.0) (drop 1 x.1)) (Some (join v x.0, x.1)) ≡ Some r → Before value q ts r
        go x h true g k w =
            let y = begins-is b x.1 g in
            let z = chain-on fuel (join v x.0) h.tokens y.0 (drop 1 x.1) r k y.1 w in
            record { tokens = z.tokens; is_all = h.is_all ∙ ap (λ (vs : List (List ℕ)). h.tokens ++ vs) y.2 ∙ z.is_all; means = z.means }
        go x h false g k w = subst (λ (o : Bool × List (List ℕ)). Before value q ts o) (some-once w)
            (record { tokens = h.tokens; is_all = h.is_all; means = k })

  module _ (inside : List (List ℕ) → Taken) (sound : Sound value sum inside) where
    -- a factor, with its `!` before it
    atom-sound : (v : Bool) (ts : List (List ℕ)) (r : Bool × List (List ℕ)) → atom value inside (negated_by_signs 33 false ts).0 (negated_by_signs 33 false ts).1 ≡ Some r → Before value factor ts r
    unfolding atom
    atom-sound v ts r e = go (begins 40 us) refl e
      where
        odd : Bool
        odd = (negated_by_signs 33 false ts).0

        us : List (List ℕ)
        us = (negated_by_signs 33 false ts).1

        w : Signs false ts
        w = bangs false ts

        -- what is taken behind the `!`, and the `'` behind it
        whole : (xs : List (List ℕ)) (x : Bool) (rest : List (List ℕ)) → us ≡ xs ++ rest → Means value factor xs x → Some (negated_by_signs 39 (flip odd x) rest) ≡ Some r → Before value factor ts r
        whole xs x rest a m k =
            let b = quotes (w.signs ++ xs) (flip odd x) rest (unfold flip in w.means xs x m) in
            subst (λ (o : Bool × List (List ℕ)). Before value factor ts o) (some-once k)
            (record { tokens = b.tokens; is_all = w.is_all ∙ ap (λ (vs : List (List ℕ)). w.signs ++ vs) a ∙ sym (append_assoc w.signs xs rest) ∙ b.is_all; means = b.means })

        close : (q : Bool × List (List ℕ)) → inside (drop 1 us) ≡ Some q → (t : List ℕ) → is_sign 40 t ≡ true → us ≡ t ∷ drop 1 us → (c : Bool) → begins 41 q.1 ≡ c
            → cond c (Some (negated_by_signs 39 (flip odd q.0) (drop 1 q.1))) None ≡ Some r → Before value factor ts r
        close q i t s a true g k =
            let h = sound (drop 1 us) q i in
            let y = begins-is 41 q.1 g in
            whole (t ∷ h.tokens ++ (y.0 ∷ [])) q.0 (drop 1 q.1)
            (a ∙ ap (λ (vs : List (List ℕ)). t ∷ vs) (h.is_all ∙ ap (λ (vs : List (List ℕ)). h.tokens ++ vs) y.2 ∙ sym (append_assoc h.tokens (y.0 ∷ []) (drop 1 q.1))))
            (bracketed t y.0 s h.means y.1) k
        close q i t s a false g k = none-some k

        inner : (o : Taken) → inside (drop 1 us) ≡ o → (t : List ℕ) → is_sign 40 t ≡ true → us ≡ t ∷ drop 1 us → and_then o (λ q. close_bracket (flip odd q.0) q.1) ≡ Some r → Before value factor ts r
        inner None i t s a k = unfold and_then in none-some k
        inner (Some q) i t s a k = unfold and_then close_bracket quoted in close q i t s a (begins 41 q.1) refl k

        word : (xs : List (List ℕ)) → us ≡ xs → named value odd xs ≡ Some r → Before value factor ts r
        word [] a k = unfold named in none-some k
        word (t ∷ xs) a k = unfold named quoted in by_bool (is_word t) (λ g. whole (t ∷ []) (value t) xs a (name t g) (rw g at k))
            (λ e. none-some (rw e at k))

        go : (c : Bool) → begins 40 us ≡ c → cond c (and_then (inside (drop 1 us)) (λ q. close_bracket (flip odd q.0) q.1)) (named value odd us) ≡ Some r → Before value factor ts r
        go true g k = let y = begins-is 40 us g in inner (inside (drop 1 us)) refl y.0 y.1 y.2 k
        go false g k = word us refl k

    factor-sound : Sound value factor (factor_of value inside)
    unfolding factor_of
    factor-sound ts r e = atom-sound false ts r e

    form_sound : (fuel : ℕ) → Sound value sum (sum_of value fuel inside)
    unfolding sum_of product_of
    form_sound fuel =
        chain-sound 43 ◌||◌ product sum (product_of value fuel inside) (chain-sound 42 ◌&&◌ factor product (factor_of value inside) factor-sound (λ ts v m. one m) (λ ts us v w t m e n. times t m e n) fuel true (λ x. refl)) (λ ts v m. alone m) (λ ts us v w t m e n. plus t m e n) fuel false (λ x. refl)

  within-sound : (fuel k : ℕ) → Sound value sum (within value fuel k)
  unfolding within
  within-sound fuel zero ts r e = none-some e
  within-sound fuel (suc k) ts r e = form_sound (within value fuel k) (within-sound fuel k) fuel ts r e

  pub sum-means : (fuel k : ℕ) → Sound value sum (sum_of value fuel (within value fuel k))
  sum-means fuel k = form_sound (within value fuel k) (within-sound fuel k) fuel
