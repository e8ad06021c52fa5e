-- The flat scan of an expression and its grammar say the same form, at any depth of brackets.
--     sum_passes          what the grammar takes, the scan passes over
--     taken_formed        what it takes, with `;` alone behind it, is in form
--     sum_takes           what the scan accepts, the grammar takes
--     deep_taken          what is in form is taken whole, with `;` alone left
--     formed_taken        and so it is with 16 brackets, where they are at most 16 deep
use Rattle.base.specs.{ℕ, zero, suc, ◌+◌, ◌-◌, ◌≤◌, ◌<◌, le_refl, arith, ◌≡◌, refl, sym, ◌∙◌, ap, subst, Bool, true, false, not, cond, ◌&&◌}
use Rattle.base.specs.{◌||◌, true≢false, false≢true, None, Some, List, [], ◌∷◌, Memᴰ, Memᴰ-head, Memᴰ-tail, T, eqb, leb}
use Rattle.base.specs.{leb→le, ltb, lt→ltb, length, drop, eqb-true, no_eqb}
use Rattle.model.specs.{and_then, all, flip, is_name_byte, is_letter, between, lead, is_sign, is_word, is_empty, scan_expected, scan_after, scan_token}
use Rattle.model.specs.{scan, is_done, formed, opened, shallow, Taken, negated_by_signs, begins, chain, quoted, close_bracket, atom, factor_of, product_of}
use Rattle.model.specs.{sum_of}
use Rattle.model.specs.GenlibFormula.{named, within}
use Rattle.model.specs.declared.Scan.{Scan}
use Rattle.model.specs.declared.Scan.TheVariants.{Expected, After, Done, Broken}
use Rattle.theory_graph.proofs.{is_true, is_false, by_bool, by_option}

-- ---- one token

pub sign-lead : (b : ℕ) (t : List ℕ) → is_sign b t ≡ true → lead t ≡ b
unfolding is_sign
sign-lead b t e = eqb-true (lead t) b e

-- behind a factor a token counts by its first byte alone
after_byte : (d b : ℕ) (t : List ℕ) → is_sign b t ≡ true → scan_after d t ≡ scan_after d (b ∷ [])
unfolding scan_after is_sign lead
after_byte d b t e = ap (λ (n : ℕ). scan_after d (n ∷ [])) (sign-lead b t e)

after_quote : (d : ℕ) (t : List ℕ) → is_sign 39 t ≡ true → scan_after d t ≡ After d
unfolding scan_after is_sign lead
after_quote d t e = after_byte d 39 t e

after-times : (d : ℕ) (t : List ℕ) → is_sign 42 t ≡ true → scan_after d t ≡ Expected d
unfolding scan_after is_sign lead
after-times d t e = after_byte d 42 t e

after_plus : (d : ℕ) (t : List ℕ) → is_sign 43 t ≡ true → scan_after d t ≡ Expected d
unfolding scan_after is_sign lead
after_plus d t e = after_byte d 43 t e

after_close : (d : ℕ) (t : List ℕ) → is_sign 41 t ≡ true → scan_after (suc d) t ≡ After d
unfolding scan_after is_sign lead
after_close d t e =
    cc (after_byte (suc d) 41 t e, is_true (ltb 0 (suc d)) (lt→ltb 0 (suc d) (omega arith)), let q : suc d - 1 ≡ d = omega arith in q)

-- where a factor is expected
abbrev expected_byte : ℕ → ℕ → Bool → Scan
expected_byte d n word = cond (eqb n 33) (Expected d) (cond (eqb n 40) (Expected (d + 1)) (cond word (After d) Broken))

expected_byte_lem : (d b : ℕ) (t : List ℕ) → is_sign b t ≡ true → scan_expected d t ≡ expected_byte d b (is_word t)
unfolding scan_expected is_sign
expected_byte_lem d b t e = ap (λ (n : ℕ). expected_byte d n (is_word t)) (sign-lead b t e)

expected_open : (d : ℕ) (t : List ℕ) → is_sign 40 t ≡ true → scan_expected d t ≡ Expected (suc d)
expected_open d t e = expected_byte_lem d 40 t e ∙ ap Expected (let q : d + 1 ≡ suc d = omega arith in q)

expected_else : (d : ℕ) (t : List ℕ) → is_sign 33 t ≡ false → is_sign 40 t ≡ false → scan_expected d t ≡ cond (is_word t) (After d) Broken
unfolding scan_expected
expected_else d t e h = ap (λ (b : Bool). cond b (Expected d) (cond (is_sign 40 t) (Expected (d + 1)) (cond (is_word t) (After d) Broken))) e ∙ ap (λ (b : Bool). cond b (Expected (d + 1)) (cond (is_word t) (After d) Broken)) h

-- ---- the scan

expected-on : (d : ℕ) (t : List ℕ) (ts : List (List ℕ)) (s : Scan) → scan_expected d t ≡ s → scan (Expected d) (t ∷ ts) ≡ scan s ts
unfolding scan scan_token
expected-on d t ts s e = ap (λ (x : Scan). scan x ts) e

after_on : (d : ℕ) (t : List ℕ) (ts : List (List ℕ)) (s : Scan) → scan_after d t ≡ s → scan (After d) (t ∷ ts) ≡ scan s ts
unfolding scan scan_token
after_on d t ts s e = ap (λ (x : Scan). scan x ts) e

broken_stays : (ts : List (List ℕ)) → scan Broken ts ≡ Broken
unfolding scan scan_token
broken_stays [] = refl
broken_stays (t ∷ ts) = broken_stays ts

done-ends : (ts : List (List ℕ)) → is_done (scan Done ts) ≡ true → ts ≡ []
unfolding scan scan_token is_done
done-ends [] e = refl
done-ends (t ∷ ts) e = absurd (false≢true (sym (ap is_done (broken_stays ts)) ∙ e))

-- ---- signs that step a value

signs_expected : (d : ℕ) (v : Bool) (ts : List (List ℕ)) → scan (Expected d) ts ≡ scan (Expected d) (negated_by_signs 33 v ts).1
unfolding negated_by_signs
signs_expected d v [] = refl
signs_expected d v (t ∷ ts) = by_bool (is_sign 33 t) (λ e. cc (expected-on d t ts (Expected d) (expected_byte_lem d 33 t e), (signs_expected d (not v) ts))) (λ q. cc)

signs_after : (d : ℕ) (v : Bool) (ts : List (List ℕ)) → scan (After d) ts ≡ scan (After d) (negated_by_signs 39 v ts).1
unfolding negated_by_signs
signs_after d v [] = refl
signs_after d v (t ∷ ts) = by_bool (is_sign 39 t) (λ e. cc (after_on d t ts (After d) (after_quote d t e), (signs_after d (not v) ts)))
    (λ q. cc)

signs_stop : (b : ℕ) (v : Bool) (ts : List (List ℕ)) → begins b (negated_by_signs b v ts).1 ≡ false
unfolding negated_by_signs begins
signs_stop b v [] = refl
signs_stop b v (t ∷ ts) = by_bool (is_sign b t) (λ e. cc (signs_stop b (not v) ts)) (λ q. cc)

signs_short : (b : ℕ) (v : Bool) (ts : List (List ℕ)) → length (negated_by_signs b v ts).1 ≤ length ts
unfolding negated_by_signs
signs_short b v [] = omega arith
signs_short b v (t ∷ ts) = by_bool (is_sign b t) (λ e. rw e (omega (arith, signs_short b (not v) ts)))
    (λ q. rw q (omega (arith, signs_short b (not v) ts)))

-- a list that begins with a sign
pub begins-is : (b : ℕ) (ts : List (List ℕ)) → begins b ts ≡ true → (t : List ℕ) × (is_sign b t ≡ true) × (ts ≡ t ∷ drop 1 ts)
unfolding begins
begins-is b [] e = absurd (false≢true e)
begins-is b (t ∷ ts) e = (t, e, refl)

-- ---- what the grammar takes, the scan passes over

pub none-some : {A B : Type 0} {a : A} → None ≡ Some a → B
none-some e = let z : ◌≡◌ {A = ℕ} 0 1 = cc in absurd (omega arith)

pub some-once : {A : Type 0} {a b : A} → Some a ≡ Some b → a ≡ b
some-once e = cc

abbrev pub Passes : (List (List ℕ) → Taken) → Type 0
Passes part = (ts : List (List ℕ)) (r : Bool × List (List ℕ)) → part ts ≡ Some r → (d : ℕ) → scan (Expected d) ts ≡ scan (After d) r.1

abbrev rest : ℕ → Bool × List (List ℕ) → Scan
rest d r = scan (After d) r.1

module _ (b : ℕ) (op : (d : ℕ) (t : List ℕ) → is_sign b t ≡ true → scan_after d t ≡ Expected d) (join : Bool → Bool → Bool) (part : List (List ℕ) → Taken) (passes : Passes part) where
  -- the same of the parts that follow
  abbrev Later : ℕ → Bool × List (List ℕ) → ℕ → Type 0
  Later fuel r d = (w : Bool) (us : List (List ℕ)) → chain b join part fuel w us ≡ Some r → scan (Expected d) us ≡ rest d r

  chain_passes : (fuel : ℕ) (v : Bool) → Passes (chain b join part fuel v)
  unfolding chain
  chain_passes zero v ts r e d = none-some e
  chain_passes (suc fuel) v ts r e d = first (λ w us x. chain_passes fuel w us r x d) (part ts) refl e
    where
      first : Later fuel r d → (o : Taken) → part ts ≡ o
          → and_then o (λ q. cond (begins b q.1) (chain b join part fuel (join v q.0) (drop 1 q.1)) (Some (join v q.0, q.1))) ≡ Some r → scan (Expected d) ts ≡ rest d r
      first later None g x = unfold and_then in none-some x
      first later (Some q) g x = unfold and_then in by_bool (begins b q.1) (λ p. let w = begins-is b q.1 p in (passes ts q g d) ∙ ap
          (scan (After d)) w.2 ∙ after_on d w.0 (drop 1 q.1) (Expected d) (op d w.0 w.1) ∙ later (join v q.0) (drop 1 q.1)
          (rw p at x))
          (λ z. let y : ◌≡◌ {A = Bool × List (List ℕ)} (join v q.0, q.1) r = some-once (rw z at x) in (passes ts q g d) ∙ ap (rest d) y)

module _ (value : List ℕ → Bool) (inside : List (List ℕ) → Taken) (passes : Passes inside) where
  bracket_passes : (d : ℕ) (odd : Bool) (ts : List (List ℕ)) (r : Bool × List (List ℕ)) → and_then (inside ts) (λ q. close_bracket (flip odd q.0) q.1) ≡ Some r
      → scan (Expected (suc d)) ts ≡ rest d r
  unfolding and_then
  bracket_passes d odd ts r e = by_option (inside ts) (λ g. none-some (rw g at e))
      (λ p z. passes ts p z (suc d) ∙ (unfold close_bracket quoted in by_bool (begins 41 p.1) (λ g.
      let w = begins-is 41 p.1 g in ap (scan (After (suc d))) w.2
      ∙ after_on (suc d) w.0 (drop 1 p.1) (After d) (after_close d w.0 w.1) ∙ signs_after d (flip odd p.0) (drop 1 p.1)
      ∙ ap (rest d) (some-once (rw g at (rw z at e)))) (λ q. none-some (rw q at (rw z at e)))))

  named_passes : (d : ℕ) (odd : Bool) (ts : List (List ℕ)) (r : Bool × List (List ℕ)) → begins 33 ts ≡ false → begins 40 ts ≡ false → named value odd ts ≡ Some r → scan (Expected d) ts ≡ rest d r
  unfolding named quoted begins
  named_passes d odd [] r a b e = none-some e
  named_passes d odd (t ∷ ts) r a b e = by_bool (is_word t) (λ g. expected-on d t ts (After d)
      (expected_else d t a b ∙ ap (λ (c : Bool). cond c (After d) Broken) g) ∙ signs_after d (flip odd (value t)) ts ∙ ap (rest d)
      (some-once (rw g at e))) (λ q. none-some (rw q at e))

  factor_passes : Passes (factor_of value inside)
  unfolding factor_of
  factor_passes ts r e d = signs_expected d false ts ∙ (unfold atom in by_bool (begins 40 (negated_by_signs 33 false ts).1) (λ g.
      let w = begins-is 40 (negated_by_signs 33 false ts).1 g in ap (scan (Expected d)) w.2
      ∙ expected-on d w.0 (drop 1 (negated_by_signs 33 false ts).1) (Expected (suc d)) (expected_open d w.0 w.1)
      ∙ bracket_passes d (negated_by_signs 33 false ts).0 (drop 1 (negated_by_signs 33 false ts).1) r (rw g at e))
      (λ q. named_passes d (negated_by_signs 33 false ts).0 (negated_by_signs 33 false ts).1 r (signs_stop 33 false ts) q (rw q at e)))

  -- a sum, where what may stand inside brackets passes
  form_passes : (fuel : ℕ) → Passes (sum_of value fuel inside)
  unfolding sum_of product_of
  form_passes fuel = chain_passes 43 after_plus ◌||◌ (product_of value fuel inside) (chain_passes 42 after-times ◌&&◌ (factor_of value inside) factor_passes fuel true) fuel false

within_passes : (value : List ℕ → Bool) (fuel k : ℕ) → Passes (within value fuel k)
unfolding within
within_passes value fuel zero ts r e d = none-some e
within_passes value fuel (suc k) ts r e d = form_passes value (within value fuel k) (within_passes value fuel k) fuel ts r e d

pub sum_passes : (value : List ℕ → Bool) (fuel k : ℕ) → Passes (sum_of value fuel (within value fuel k))
sum_passes value fuel k = form_passes value (within value fuel k) (within_passes value fuel k) fuel

-- what the grammar takes, with `;` alone behind it, is in form
pub taken_formed : (value : List ℕ → Bool) (fuel k : ℕ) (ts : List (List ℕ)) (v : Bool) (t : List ℕ) → is_sign 59 t ≡ true
    → sum_of value fuel (within value fuel k) ts ≡ Some (v, t ∷ []) → formed ts ≡ true
unfolding formed scan is_done scan_after is_sign lead
taken_formed value fuel k ts v t s e = ap is_done (sum_passes value fuel k ts (v, t ∷ []) e 0 ∙ after_on 0 t [] Done (after_byte 0 59 t s))

-- ---- what the scan accepts, the grammar takes

-- the brackets open behind a token
opened-same : (d b : ℕ) (t : List ℕ) → is_sign b t ≡ true → eqb b 40 ≡ false → eqb b 41 ≡ false → opened d t ≡ d
unfolding opened is_sign
opened-same d b t e p q = cc (sign-lead b t e)

-- no name begins with a sign
pub word-sign : (n : ℕ) → is_name_byte n ≡ false → (t : List ℕ) → is_word t ≡ true → is_sign n t ≡ false
unfolding is_word is_empty all is_sign lead
word-sign n h [] e = absurd (false≢true e)
word-sign n h (b ∷ bs) e = by_bool (eqb b n) (λ q. rw q (absurd (false≢true (cc (eqb-true b n q))))) (λ p. rw p)

-- at every token at most so many brackets are open, where d are open before the first
abbrev Low : ℕ → ℕ → List (List ℕ) → Type 0
Low top d [] = d ≤ top
Low top d (t ∷ ts) = (d ≤ top) × Low top (opened d t) ts

low-few : (top d : ℕ) (ts : List (List ℕ)) → Low top d ts → d ≤ top
low-few top d [] h = h
low-few top d (t ∷ ts) h = h.0

low-on : (top d e : ℕ) (t : List ℕ) (ts : List (List ℕ)) → opened d t ≡ e → Low top d (t ∷ ts) → Low top e ts
low-on top d e t ts q h = subst (λ (n : ℕ). Low top n ts) q h.1

signs_low : (top b d : ℕ) (v : Bool) (ts : List (List ℕ)) → eqb b 40 ≡ false → eqb b 41 ≡ false → Low top d ts → Low top d (negated_by_signs b v ts).1
unfolding negated_by_signs
signs_low top b d v [] p q h = h
signs_low top b d v (t ∷ ts) p q h = by_bool (is_sign b t)
    (λ e. rw e (signs_low top b d (not v) ts p q (low-on top d d t ts (opened-same d b t e p q) h))) (λ r. rw r h)

-- not "brackets over 16 deep"
shallow-low : (d : ℕ) (ts : List (List ℕ)) → shallow d ts ≡ true → Low 16 d ts
unfolding shallow
shallow-low d [] h = leb→le d 16 (subst T (sym h) tt)
shallow-low d (t ∷ ts) h = by_bool (leb d 16) (λ e. ((rw e at (leb→le d 16)) tt, (shallow-low (opened d t) ts) (rw e at h)))
    (λ q. absurd (false≢true (rw q at h)))

-- no token opens more than one
opened-most : (d : ℕ) (t : List ℕ) → opened d t ≤ suc d
unfolding opened
opened-most d t = by_bool (is_sign 40 t) (λ e. rw e (omega arith))
    (λ q. rw q (by_bool (is_sign 41 t) (λ p. rw p (omega arith)) (λ r. rw r (omega arith))))

any-low : (top d : ℕ) (ts : List (List ℕ)) → d + length ts ≤ top → Low top d ts
any-low top d [] h = omega arith
any-low top d (t ∷ ts) h = (omega arith, any-low top (opened d t) ts (omega (arith, opened-most d t)))

signs_in : (b : ℕ) (v : Bool) (ts : List (List ℕ)) (t : List ℕ) → Memᴰ t (negated_by_signs b v ts).1 → Memᴰ t ts
unfolding negated_by_signs
signs_in b v [] t m = m
signs_in b v (u ∷ us) t m = by_bool (is_sign b u) (λ e. Memᴰ-tail (signs_in b (not v) us t (rw e at m))) (λ q. rw q at m)

rest_in : (ts : List (List ℕ)) (u t : List ℕ) → ts ≡ u ∷ drop 1 ts → Memᴰ t (drop 1 ts) → Memᴰ t ts
rest_in ts u t e m = subst (λ (us : List (List ℕ)). Memᴰ t us) (sym e) (Memᴰ-tail m)

-- what a form takes of tokens that the scan accepts with d brackets open: some of them, and behind them the form goes on no further
pub record Took (top : ℕ) (part : List (List ℕ) → Taken) (Stops : List (List ℕ) → Type 0) (d : ℕ) (ts : List (List ℕ)) : Type 0 where
  pub got : Bool × List (List ℕ)
  pub is : part ts ≡ Some got
  pub shorter : length got.1 < length ts
  pub accepted : is_done (scan (After d) got.1) ≡ true
  pub low : Low top d got.1
  pub stops : Stops got.1
  pub among : (t : List ℕ) → Memᴰ t got.1 → Memᴰ t ts

-- a form takes what the scan accepts of at most n tokens
abbrev pub Takes : ℕ → (List (List ℕ) → Taken) → (List (List ℕ) → Type 0) → ℕ → ℕ → Type 0
Takes top part Stops d n = (ts : List (List ℕ)) → length ts ≤ n → is_done (scan (Expected d) ts) ≡ true → Low top d ts → Took top part Stops d ts

-- where a factor, a product, a sum stops
abbrev StopsFactor : List (List ℕ) → Type 0
StopsFactor ts = begins 39 ts ≡ false

abbrev StopsProduct : List (List ℕ) → Type 0
StopsProduct ts = StopsFactor ts × (begins 42 ts ≡ false)

abbrev StopsSum : List (List ℕ) → Type 0
StopsSum ts = StopsProduct ts × (begins 43 ts ≡ false)

drop-short : (ts : List (List ℕ)) (t : List ℕ) → ts ≡ t ∷ drop 1 ts → suc (length (drop 1 ts)) ≡ length ts
drop-short ts t e = sym (ap length e)

module _ (top b : ℕ) (op : (d : ℕ) (t : List ℕ) → is_sign b t ≡ true → scan_after d t ≡ Expected d) (not_open : eqb b 40 ≡ false) (not_close : eqb b 41 ≡ false) (join : Bool → Bool → Bool)
    (part : List (List ℕ) → Taken) (Stops : List (List ℕ) → Type 0) (d n : ℕ) (takes : Takes top part Stops d n) where
  chain_takes : (fuel : ℕ) (v : Bool) (ts : List (List ℕ)) → length ts < fuel → length ts ≤ n → is_done (scan (Expected d) ts) ≡ true → Low top d ts
      → Took top (chain b join part fuel v) (λ us. Stops us × (begins b us ≡ false)) d ts
  unfolding chain and_then
  chain_takes zero v ts f h a s = absurd (omega arith)
  chain_takes (suc fuel) v ts f h a s = go (begins b p.got.1) refl (λ w us. chain_takes fuel w us)
    where
      p : Took top part Stops d ts
      p = takes ts h a s

      first : (x : Taken) → cond (begins b p.got.1) (chain b join part fuel (join v p.got.0) (drop 1 p.got.1)) (Some (join v p.got.0, p.got.1)) ≡ x
          → chain b join part (suc fuel) v ts ≡ x
      first x e = unfold chain and_then in
          ap (λ (o : Taken). and_then o (λ q. cond (begins b q.1) (chain b join part fuel (join v q.0) (drop 1 q.1)) (Some (join v q.0, q.1)))) p.is ∙ e

      go : (c : Bool) → begins b p.got.1 ≡ c
          → ((w : Bool) (us : List (List ℕ)) → length us < fuel → length us ≤ n → is_done (scan (Expected d) us) ≡ true → Low top d us
          → Took top (chain b join part fuel w) (λ vs. Stops vs × (begins b vs ≡ false)) d us)
          → Took top (chain b join part (suc fuel) v) (λ us. Stops us × (begins b us ≡ false)) d ts
      go true g later =
          let w = begins-is b p.got.1 g in
          let l : suc (length (drop 1 p.got.1)) ≡ length p.got.1 = drop-short p.got.1 w.0 w.2 in
          let k : length p.got.1 < length ts = p.shorter in
          let r = later (join v p.got.0) (drop 1 p.got.1) (omega arith) (omega arith)
          (ap is_done (sym (after_on d w.0 (drop 1 p.got.1) (Expected d) (op d w.0 w.1)) ∙ ap (scan (After d)) (sym w.2)) ∙ p.accepted)
          (low-on top d d w.0 (drop 1 p.got.1) (opened-same d b w.0 w.1 not_open not_close) (subst (λ (us : List (List ℕ)). Low top d us) w.2 p.low)) in
          let m : length r.got.1 < length (drop 1 p.got.1) = r.shorter in
          record {
            got = r.got;
            is = first (Some r.got) (ap (λ (c : Bool). cond c (chain b join part fuel (join v p.got.0) (drop 1 p.got.1)) (Some (join v p.got.0, p.got.1))) g ∙ r.is);
            shorter = omega arith;
            accepted = r.accepted;
            low = r.low;
            stops = r.stops;
            among = λ u i. p.among u (rest_in p.got.1 w.0 u w.2 (r.among u i));
          }
      go false g later = record {
        got = (join v p.got.0, p.got.1);
        is = first (Some (join v p.got.0, p.got.1)) (cc);
        shorter = p.shorter;
        accepted = p.accepted;
        low = p.low;
        stops = (p.stops, g);
        among = p.among;
      }

-- where a sum stops inside brackets, one closes
stops_close : (d : ℕ) (ts : List (List ℕ)) → is_done (scan (After (suc d)) ts) ≡ true → StopsSum ts → begins 41 ts ≡ true
unfolding scan scan_token scan_after is_done begins
stops_close d [] a s = absurd (false≢true a)
stops_close d (t ∷ ts) a s = go (is_sign 39 t) (is_sign 41 t) (is_sign 42 t) (is_sign 43 t) (is_sign 59 t) (eqb (suc d) 0) s.0.0 s.0.1 s.1 (is_false (eqb (suc d) 0) (no_eqb (let z : ¬ (suc d ≡ 0) = λ e. omega arith in z))) a
  where
    go : (p q r u w z : Bool) → p ≡ false → r ≡ false → u ≡ false → z ≡ false
        → is_done (scan (cond p (After (suc d)) (cond q (cond (ltb 0 (suc d)) (After (suc d - 1)) Broken) (cond (r || u) (Expected (suc d)) (cond (w && z) Done Broken)))) ts) ≡ true → q ≡ true
    go true q r u w z e f g h x = absurd (true≢false e)
    go false true r u w z e f g h x = refl
    go false false true u w z e f g h x = absurd (true≢false f)
    go false false false true w z e f g h x = absurd (true≢false g)
    go false false false false w true e f g h x = absurd (true≢false h)
    go false false false false true false e f g h x = absurd (false≢true (sym (ap is_done (broken_stays ts)) ∙ x))
    go false false false false false false e f g h x = absurd (false≢true (sym (ap is_done (broken_stays ts)) ∙ x))

-- where a sum stops outside of them, the `;` stands, and nothing behind it
stops_end : (ts : List (List ℕ)) → is_done (scan (After 0) ts) ≡ true → StopsSum ts → (t : List ℕ) × (is_sign 59 t ≡ true) × (ts ≡ t ∷ [])
unfolding scan scan_token scan_after is_done begins
stops_end [] a s = absurd (false≢true a)
stops_end (t ∷ ts) a s = let r = go (is_sign 39 t) (is_sign 41 t) (is_sign 42 t) (is_sign 43 t) (is_sign 59 t) s.0.0 s.0.1 s.1 a in (t, r.0, ap (λ (us : List (List ℕ)). t ∷ us) r.1)
  where
    go : (p q r u w : Bool) → p ≡ false → r ≡ false → u ≡ false
        → is_done (scan (cond p (After 0) (cond q (cond (ltb 0 0) (After (0 - 1)) Broken) (cond (r || u) (Expected 0) (cond (w && eqb 0 0) Done Broken)))) ts) ≡ true → (w ≡ true) × (ts ≡ [])
    go true q r u w e f g x = absurd (true≢false e)
    go false true r u w e f g x = absurd (false≢true (sym (ap is_done (broken_stays ts)) ∙ x))
    go false false true u w e f g x = absurd (true≢false f)
    go false false false true w e f g x = absurd (true≢false g)
    go false false false false true e f g x = (refl, done-ends ts x)
    go false false false false false e f g x = absurd (false≢true (sym (ap is_done (broken_stays ts)) ∙ x))

module _ (top : ℕ) (value : List ℕ → Bool) (fuel : ℕ) where
  -- the sum where so many brackets may open
  abbrev sum_at : ℕ → List (List ℕ) → Taken
  sum_at k = sum_of value fuel (within value fuel k)

  -- what stands behind a name or a bracket that closes, without its `'`
  quoted_took : (part : List (List ℕ) → Taken) (d : ℕ) (ts : List (List ℕ)) (v : Bool) (us : List (List ℕ)) → part ts ≡ Some (negated_by_signs 39 v us) → length us < length ts
      → is_done (scan (After d) us) ≡ true → Low top d us → ((t : List ℕ) → Memᴰ t us → Memᴰ t ts) → Took top part StopsFactor d ts
  quoted_took part d ts v us e h a s i = record {
    got = negated_by_signs 39 v us;
    is = e;
    shorter = omega (arith, signs_short 39 v us);
    accepted = ap is_done (sym (signs_after d v us)) ∙ a;
    low = signs_low top 39 d v us refl refl s;
    stops = signs_stop 39 v us;
    among = λ t m. i t (signs_in 39 v us t m);
  }

  module _ (m : ℕ) (ih : (d k : ℕ) → k + d ≡ top → Takes top (sum_at k) StopsSum d m) where
    bracket_takes : (d k : ℕ) → k + d ≡ top → (odd : Bool) (t : List ℕ) (ts : List (List ℕ)) → length ts ≤ m → is_sign 40 t ≡ true → is_done (scan (Expected (suc d)) ts) ≡ true → Low top (suc d) ts
        → Took top (atom value (within value fuel k) odd) StopsFactor d (t ∷ ts)
    bracket_takes d zero e odd t ts h g a s = let q : suc d ≤ top = low-few top (suc d) ts s in absurd (omega arith)
    bracket_takes d (suc k) e odd t ts h g a s = quoted_took (atom value (within value fuel (suc k)) odd) d (t ∷ ts) v us is short accepted low (λ u m. Memᴰ-tail (r.among u (rest_in r.got.1 here.0 u here.2 m)))
      where
        r : Took top (sum_at k) StopsSum (suc d) ts
        r = ih (suc d) k (omega arith) ts h a s

        v : Bool
        v = flip odd r.got.0

        us : List (List ℕ)
        us = drop 1 r.got.1

        close : begins 41 r.got.1 ≡ true
        close = stops_close d r.got.1 r.accepted r.stops

        here : (u : List ℕ) × (is_sign 41 u ≡ true) × (r.got.1 ≡ u ∷ us)
        here = begins-is 41 r.got.1 close

        is : atom value (within value fuel (suc k)) odd (t ∷ ts) ≡ Some (negated_by_signs 39 v us)
        is = unfold atom begins within and_then close_bracket quoted in
            ap (λ (c : Bool). cond c (and_then (sum_at k ts) (λ q. close_bracket (flip odd q.0) q.1)) (named value odd (t ∷ ts))) g
            ∙ ap (λ (o : Taken). and_then o (λ q. close_bracket (flip odd q.0) q.1)) r.is
            ∙ ap (λ (c : Bool). cond c (Some (negated_by_signs 39 v us)) None) close

        accepted : is_done (scan (After d) us) ≡ true
        accepted = ap is_done (sym (after_on (suc d) here.0 us (After d) (after_close d here.0 here.1)) ∙ ap (scan (After (suc d))) (sym here.2)) ∙ r.accepted

        low : Low top d us
        low = low-on top (suc d) d here.0 us (unfold opened is_sign in cc
            (sign-lead 41 here.0 here.1, let q : suc d - 1 ≡ d = omega arith in q)) (subst
            (λ (vs : List (List ℕ)). Low top (suc d) vs) here.2 r.low)

        short : length us < length (t ∷ ts)
        short = let x : suc (length us) ≡ length r.got.1 = drop-short r.got.1 here.0 here.2 in let y : length r.got.1 < length ts = r.shorter in omega arith

    name_takes : (inside : List (List ℕ) → Taken) (d : ℕ) (odd : Bool) (t : List ℕ) (ts : List (List ℕ)) → is_sign 33 t ≡ false → is_sign 40 t ≡ false
        → is_done (scan (Expected d) (t ∷ ts)) ≡ true → Low top d (t ∷ ts) → Took top (atom value inside odd) StopsFactor d (t ∷ ts)
    unfolding is_done
    name_takes inside d odd t ts p q a s = by_bool (is_word t) (λ w. quoted_took (atom value inside odd) d (t ∷ ts) (flip odd (value t)) ts
        (unfold atom begins named quoted in ap (λ (c : Bool). cond c (and_then (inside ts) (λ x. close_bracket (flip odd x.0) x.1))
        (cond (is_word t) (Some (negated_by_signs 39 (flip odd (value t)) ts)) None)) q ∙ ap
        (λ (c : Bool). cond c (Some (negated_by_signs 39 (flip odd (value t)) ts)) None) w) (omega arith)
        (ap is_done (sym (expected-on d t ts (After d) (expected_else d t p q ∙ ap (λ (c : Bool). cond c (After d) Broken) w))) ∙ a)
        (low-on top d d t ts (unfold opened in cc
        (word-sign 41 (unfold is_name_byte is_letter between in refl) t w)) s) (λ u m. Memᴰ-tail m)) (λ e. absurd (false≢true
        (sym (ap is_done (expected-on d t ts Broken (expected_else d t p q ∙ ap (λ (c : Bool). cond c (After d) Broken) e) ∙ broken_stays ts)) ∙ a)))

    atom_takes : (d k : ℕ) → k + d ≡ top → (odd : Bool) (ts : List (List ℕ)) → length ts ≤ suc m → begins 33 ts ≡ false → is_done (scan (Expected d) ts) ≡ true → Low top d ts
        → Took top (atom value (within value fuel k) odd) StopsFactor d ts
    unfolding begins scan is_done
    atom_takes d k e odd [] h p a s = absurd (false≢true a)
    atom_takes d k e odd (t ∷ ts) h p a s = by_bool (is_sign 40 t) (λ g. bracket_takes d k e odd t ts (omega arith) g
        (ap is_done (sym (expected-on d t ts (Expected (suc d)) (expected_open d t g))) ∙ a) (low-on top d (suc d) t ts (unfold opened in cc
        (g, let q : d + 1 ≡ suc d = omega arith in q)) s))
        (λ q. name_takes (within value fuel k) d odd t ts p q a s)

    factor_takes : (d k : ℕ) → k + d ≡ top → Takes top (factor_of value (within value fuel k)) StopsFactor d (suc m)
    unfolding factor_of
    factor_takes d k e ts h a s =
        let x : length (negated_by_signs 33 false ts).1 ≤ length ts = signs_short 33 false ts in
        let r = atom_takes d k e (negated_by_signs 33 false ts).0 (negated_by_signs 33 false ts).1 (omega arith) (signs_stop 33 false ts) (ap is_done (sym (signs_expected d false ts)) ∙ a) (signs_low top 33 d false ts refl refl s) in
        let y : length r.got.1 < length (negated_by_signs 33 false ts).1 = r.shorter in
        record { got = r.got; is = r.is; shorter = omega arith; accepted = r.accepted; low = r.low; stops = r.stops; among = λ u i. signs_in 33 false ts u (r.among u i) }

    form_takes : suc m < fuel → (d k : ℕ) → k + d ≡ top → Takes top (sum_at k) StopsSum d (suc m)
    unfolding sum_of product_of
    form_takes l d k e ts h a s = chain_takes top 43 after_plus refl refl ◌||◌ (product_of value fuel (within value fuel k)) StopsProduct d
        (suc m) (λ us i b c. chain_takes top 42 after-times refl refl ◌&&◌ (factor_of value (within value fuel k)) StopsFactor d (suc m)
        (factor_takes d k e) fuel true us (omega arith) i b c) fuel false ts (omega arith) h a s

  pub sum_takes : (n : ℕ) → n < fuel → (d k : ℕ) → k + d ≡ top → Takes top (sum_at k) StopsSum d n
  unfolding scan is_done
  sum_takes zero l d k e [] h a s = absurd (false≢true a)
  sum_takes zero l d k e (t ∷ ts) h a s = absurd (omega arith)
  sum_takes (suc m) l d k e ts h a s = form_takes m (sum_takes m (omega arith)) l d k e ts h a s

-- an expression in form, with fewer tokens than the fuel, is taken whole, with `;` alone left
whole_taken : (top : ℕ) (value : List ℕ → Bool) (fuel : ℕ) (ts : List (List ℕ)) → length ts < fuel → formed ts ≡ true → Low top 0 ts
    → (v : Bool) × (t : List ℕ) × (is_sign 59 t ≡ true) × Memᴰ t ts × (sum_of value fuel (within value fuel top) ts ≡ Some (v, t ∷ []))
unfolding formed
whole_taken top value fuel ts l f s =
    let r = sum_takes top value fuel (length ts) l 0 top (let e : top + 0 ≡ top = omega arith in e) ts (le_refl (length ts)) f s in
    let q = stops_end r.got.1 r.accepted r.stops in
    (r.got.0, q.0, q.1, r.among q.0 (subst (λ (us : List (List ℕ)). Memᴰ q.0 us) (sym q.2) (Memᴰ-head refl)), r.is ∙ ap (λ (us : List (List ℕ)). Some (r.got.0, us)) q.2)

-- at any depth of brackets, if as many may open as there are tokens
pub deep_taken : (value : List ℕ → Bool) (ts : List (List ℕ)) → formed ts ≡ true
    → (v : Bool) × (t : List ℕ) × (is_sign 59 t ≡ true) × Memᴰ t ts × (sum_of value (suc (length ts)) (within value (suc (length ts)) (length ts)) ts ≡ Some (v, t ∷ []))
deep_taken value ts f = whole_taken (length ts) value (suc (length ts)) ts (omega arith) f (any-low (length ts) 0 ts (omega arith))

-- where brackets are at most 16 deep, if 16 may open
pub formed_taken : (value : List ℕ → Bool) (fuel : ℕ) (ts : List (List ℕ)) → length ts < fuel → formed ts ≡ true → shallow 0 ts ≡ true
    → (v : Bool) × (t : List ℕ) × (is_sign 59 t ≡ true) × Memᴰ t ts × (sum_of value fuel (within value fuel 16) ts ≡ Some (v, t ∷ []))
formed_taken value fuel ts l f s = whole_taken 16 value fuel ts l f (shallow-low 0 ts s)
