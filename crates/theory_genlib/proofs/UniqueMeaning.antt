-- The grammar of the request is unambiguous: an expression has one value.
--     means-read          the tokens of a part are taken with its value, given brackets and fuel enough
--     value-once          an expression and its `;` have one value
--     value-formed        and are in form
use Rattle.base.specs.{ℕ, zero, suc, ◌+◌, ◌-◌, ◌≤◌, arith, ◌≡◌, refl, sym, ◌∙◌, ap, Bool, true, false, not, cond, ◌&&◌, ◌||◌, None, Some}
use Rattle.base.specs.{List, [], ◌∷◌, ◌++◌, append_assoc, eqb, drop}
use Rattle.model.specs.{and_then, flip, is_name_byte, is_letter, between, lead, is_sign, is_word, formed, Taken, negated_by_signs, begins, chain, quoted}
use Rattle.model.specs.{close_bracket, atom, factor_of, product_of, sum_of, Part, product, factor, Means, HasValue}
use Rattle.model.specs.GenlibFormula.{named, within}
use Rattle.model.specs.GenlibDemands.{sum}
use Rattle.model.specs.GenlibDemands.Means.{bracketed, sign_negated, primed, times, plus, alone, named as name, one}
use Rattle.theory_graph.proofs.{by_bool}
use Rattle.theory_genlib.proofs.FormulaShapes.{sign-lead, word-sign, some-once, taken_formed}

-- a token is one sign only
sign_other : (b c : ℕ) (t : List ℕ) → is_sign b t ≡ true → eqb b c ≡ false → is_sign c t ≡ false
unfolding is_sign
sign_other b c t e n = ap (λ (x : ℕ). eqb x c) (sign-lead b t e) ∙ n

-- ---- a value that is turned

signs_none : (b : ℕ) (v : Bool) (ts : List (List ℕ)) → begins b ts ≡ false → negated_by_signs b v ts ≡ (v, ts)
unfolding negated_by_signs begins
signs_none b v [] e = refl
signs_none b v (t ∷ ts) e = ap (λ (c : Bool). cond c (negated_by_signs b (not v) ts) (v, t ∷ ts)) e

signs_more : (b : ℕ) (v : Bool) (t : List ℕ) (ts : List (List ℕ)) → is_sign b t ≡ true → negated_by_signs b v (t ∷ ts) ≡ negated_by_signs b (not v) ts
unfolding negated_by_signs
signs_more b v t ts e = ap (λ (c : Bool). cond c (negated_by_signs b (not v) ts) (v, t ∷ ts)) e

-- the other value, and the same tokens
abbrev other : Bool × List (List ℕ) → Bool × List (List ℕ)
other q = (not q.0, q.1)

signs_not : (b : ℕ) (v : Bool) (ts : List (List ℕ)) → negated_by_signs b (not v) ts ≡ other (negated_by_signs b v ts)
unfolding negated_by_signs
signs_not b v [] = refl
signs_not b v (t ∷ ts) = by_bool (is_sign b t) (λ e. cc (signs_not b (not v) ts)) (λ q. cc)

abbrev others : Taken → Taken
others o = and_then o (λ q. Some (other q))

flip_other : (v x : Bool) → flip (not v) x ≡ not (flip v x)
unfolding flip
flip_other true true = refl
flip_other true false = refl
flip_other false x = refl

module _ (value : List ℕ → Bool) (inside : List (List ℕ) → Taken) where
  named-not : (odd : Bool) (ts : List (List ℕ)) → named value (not odd) ts ≡ others (named value odd ts)
  unfolding named quoted and_then
  named-not odd [] = refl
  named-not odd (t ∷ ts) = by_bool (is_word t) (λ e. rw e (unfold and_then in ap (λ (x : Bool). Some (negated_by_signs 39 x ts))
      (flip_other odd (value t)) ∙ ap Some (signs_not 39 (flip odd (value t)) ts))) (λ q. rw q (unfold and_then in refl))

  atom-not : (odd : Bool) (ts : List (List ℕ)) → atom value inside (not odd) ts ≡ others (atom value inside odd ts)
  unfolding atom
  atom-not odd ts = by_bool (begins 40 ts) (λ e. cc (inner (inside (drop 1 ts)))) (λ q. cc (named-not odd ts))
    where
      inner : (o : Taken) → and_then o (λ q. close_bracket (flip (not odd) q.0) q.1) ≡ others (and_then o (λ q. close_bracket (flip odd q.0) q.1))
      inner None = unfold and_then in refl
      inner (Some q) = unfold and_then in ap (λ (x : Bool). close_bracket x q.1) (flip_other odd q.0) ∙ by_bool (begins 41 q.1)
          (λ e. rw e (unfold and_then in ap Some (signs_not 39 (flip odd q.0) (drop 1 q.1)))) (λ q. rw q (unfold and_then in refl))

  -- a `!` more before a factor
  factor-not : (t : List ℕ) (ts : List (List ℕ)) → is_sign 33 t ≡ true → factor_of value inside (t ∷ ts) ≡ others (factor_of value inside ts)
  unfolding factor_of
  factor-not t ts e = cc (signs_more 33 false t ts e, signs_not 33 false ts, atom-not (negated_by_signs 33 false ts).0 (negated_by_signs 33 false ts).1)

  -- a factor that no `!` stands before
  factor-plain : (ts : List (List ℕ)) → begins 33 ts ≡ false → factor_of value inside ts ≡ atom value inside false ts
  unfolding factor_of
  factor-plain ts e = ap (λ (q : Bool × List (List ℕ)). atom value inside q.0 q.1) (signs_none 33 false ts e)

-- ---- parts with a sign between them

module _ (b : ℕ) (join : Bool → Bool → Bool) (assoc : (x y z : Bool) → join (join x y) z ≡ join x (join y z)) (part : List (List ℕ) → Taken) (Ends : List (List ℕ) → Type 0)
    (sign : (t : List ℕ) (ts : List (List ℕ)) → is_sign b t ≡ true → Ends (t ∷ ts)) where
  -- a part is taken before what ends it
  abbrev PartAt : List (List ℕ) → Bool → Type 0
  PartAt ts v = (rest : List (List ℕ)) → Ends rest → part (ts ++ rest) ≡ Some (v, rest)

  -- behind a part the chain goes on, or ends
  abbrev onward : ℕ → Bool → List (List ℕ) → Taken
  onward f v rest = cond (begins b rest) (chain b join part f v (drop 1 rest)) (Some (v, rest))

  -- n parts are passed
  abbrev ChainAt : ℕ → List (List ℕ) → Bool → Type 0
  ChainAt n ts v = (f : ℕ) (v0 : Bool) (rest : List (List ℕ)) → Ends rest → chain b join part (n + f) v0 (ts ++ rest) ≡ onward f (join v0 v) rest

  part_step : (ts : List (List ℕ)) (v : Bool) → PartAt ts v → (f : ℕ) (v0 : Bool) (rest : List (List ℕ)) → Ends rest → chain b join part (suc f) v0 (ts ++ rest) ≡ onward f (join v0 v) rest
  unfolding chain and_then
  part_step ts v p f v0 rest e = cc (p rest e)

  chain-one : (ts : List (List ℕ)) (v : Bool) → PartAt ts v → ChainAt 1 ts v
  chain-one ts v p f v0 rest e = ap (λ (n : ℕ). chain b join part n v0 (ts ++ rest)) (let q : 1 + f ≡ suc f = omega arith in q) ∙ part_step ts v p f v0 rest e

  chain_more : (n : ℕ) (ts : List (List ℕ)) (v : Bool) (t : List ℕ) (us : List (List ℕ)) (w : Bool) → ChainAt n ts v → is_sign b t ≡ true → PartAt us w → ChainAt (n + 1) (ts ++ (t ∷ us)) (join v w)
  unfolding begins
  chain_more n ts v t us w c s p f v0 rest e =
      ap (λ (k : ℕ). chain b join part k v0 ((ts ++ (t ∷ us)) ++ rest)) (let q : n + 1 + f ≡ n + suc f = omega arith in q)
      ∙ ap (chain b join part (n + suc f) v0) (append_assoc ts (t ∷ us) rest) ∙ c (suc f) v0 (t ∷ us ++ rest) (sign t (us ++ rest) s)
      ∙ ap (λ (x : Bool). cond x (chain b join part (suc f) (join v0 v) (us ++ rest)) (Some (join v0 v, t ∷ us ++ rest))) s
      ∙ part_step us w p f (join v0 v) rest e ∙ ap (λ (x : Bool). onward f x rest) (assoc v0 v w)

  chain-whole : (n : ℕ) (ts : List (List ℕ)) (v : Bool) → ChainAt n ts v → (fuel : ℕ) → n ≤ fuel → (v0 : Bool) (rest : List (List ℕ)) → Ends rest → begins b rest ≡ false
      → chain b join part fuel v0 (ts ++ rest) ≡ Some (join v0 v, rest)
  chain-whole n ts v c fuel h v0 rest e g = cc (let q : fuel ≡ n + (fuel - n) = omega arith in q, c (fuel - n) v0 rest e)

and_assoc : (x y z : Bool) → ((x && y) && z) ≡ (x && (y && z))
and_assoc true y z = refl
and_assoc false y z = refl

or_assoc : (x y z : Bool) → ((x || y) || z) ≡ (x || (y || z))
or_assoc true y z = refl
or_assoc false y z = refl

-- what ends a factor, and a product
abbrev EndsFactor : List (List ℕ) → Type 0
EndsFactor ts = begins 39 ts ≡ false

abbrev EndsProduct : List (List ℕ) → Type 0
EndsProduct ts = (begins 39 ts ≡ false) × (begins 42 ts ≡ false)

begins_other : (b c : ℕ) (t : List ℕ) (ts : List (List ℕ)) → eqb b c ≡ false → is_sign b t ≡ true → begins c (t ∷ ts) ≡ false
unfolding begins
begins_other b c t ts n e = sign_other b c t e n

times-ends : (t : List ℕ) (ts : List (List ℕ)) → is_sign 42 t ≡ true → EndsFactor (t ∷ ts)
times-ends t ts e = begins_other 42 39 t ts refl e

plus-ends : (t : List ℕ) (ts : List (List ℕ)) → is_sign 43 t ≡ true → EndsProduct (t ∷ ts)
plus-ends t ts e = (begins_other 43 39 t ts refl e, begins_other 43 42 t ts refl e)

module _ (value : List ℕ → Bool) where
  abbrev factor_at : ℕ → ℕ → List (List ℕ) → Taken
  factor_at k fuel = factor_of value (within value fuel k)

  abbrev product_at : ℕ → ℕ → List (List ℕ) → Taken
  product_at k fuel = product_of value fuel (within value fuel k)

  -- a part of n members is taken, where k brackets may open
  abbrev Read : Part → ℕ → ℕ → ℕ → List (List ℕ) → Bool → Type 0
  Read factor k fuel n ts v = (rest : List (List ℕ)) → factor_at k fuel (ts ++ rest) ≡ Some (negated_by_signs 39 v rest)
  Read product k fuel n ts v = ChainAt 42 ◌&&◌ and_assoc (factor_at k fuel) EndsFactor times-ends n ts v
  Read sum k fuel n ts v = ChainAt 43 ◌||◌ or_assoc (product_at k fuel) EndsProduct plus-ends n ts v

  record Enough (p : Part) (ts : List (List ℕ)) (v : Bool) : Type 0 where
    depth : ℕ
    least : ℕ
    members : ℕ
    few : members ≤ least
    read : (k fuel : ℕ) → depth ≤ k → least ≤ fuel → Read p k fuel members ts v

  factor-part : (k fuel n : ℕ) (ts : List (List ℕ)) (v : Bool) → Read factor k fuel n ts v → PartAt 42 ◌&&◌ and_assoc (factor_at k fuel) EndsFactor times-ends ts v
  factor-part k fuel n ts v r rest e = r rest ∙ ap Some (signs_none 39 v rest e)

  product-part : (k fuel n : ℕ) (ts : List (List ℕ)) (v : Bool) → n ≤ fuel → Read product k fuel n ts v → PartAt 43 ◌||◌ or_assoc (product_at k fuel) EndsProduct plus-ends ts v
  unfolding product_of
  product-part k fuel n ts v h r rest e = chain-whole 42 ◌&&◌ and_assoc (factor_at k fuel) EndsFactor times-ends n ts v r fuel h true rest e.0 e.1

  sum-whole : (k fuel n : ℕ) (ts : List (List ℕ)) (v : Bool) → n ≤ fuel → Read sum k fuel n ts v → (rest : List (List ℕ)) → EndsProduct rest → begins 43 rest ≡ false
      → sum_of value fuel (within value fuel k) (ts ++ rest) ≡ Some (v, rest)
  unfolding sum_of
  sum-whole k fuel n ts v h r rest e g = chain-whole 43 ◌||◌ or_assoc (product_at k fuel) EndsProduct plus-ends n ts v r fuel h false rest e g

  name-read : (t : List ℕ) → is_word t ≡ true → (k fuel : ℕ) → Read factor k fuel 0 (t ∷ []) (value t)
  unfolding atom begins named quoted flip
  name-read t w k fuel rest =
      factor-plain value (within value fuel k) (t ∷ rest) (word-sign 33 (unfold is_name_byte is_letter between in refl) t w)
      ∙ ap (λ (c : Bool). cond c (and_then (within value fuel k rest) (λ q. close_bracket (flip false q.0) q.1)) (named value false (t ∷ rest))) (word-sign 40 (unfold is_name_byte is_letter between in refl) t w)
      ∙ ap (λ (c : Bool). cond c (Some (negated_by_signs 39 (value t) rest)) None) w

  permuted-read : (ts : List (List ℕ)) (v : Bool) (t : List ℕ) → is_sign 33 t ≡ true → (k fuel n : ℕ) → Read factor k fuel n ts v → Read factor k fuel n (t ∷ ts) (not v)
  unfolding and_then
  permuted-read ts v t e k fuel n r rest = factor-not value (within value fuel k) t (ts ++ rest) e ∙ ap others (r rest) ∙ ap Some (sym (signs_not 39 v rest))

  primed-read : (ts : List (List ℕ)) (v : Bool) (t : List ℕ) → is_sign 39 t ≡ true → (k fuel n : ℕ) → Read factor k fuel n ts v → Read factor k fuel n (ts ++ (t ∷ [])) (not v)
  primed-read ts v t e k fuel n r rest = ap (factor_at k fuel) (append_assoc ts (t ∷ []) rest) ∙ r (t ∷ rest) ∙ ap Some (signs_more 39 v t rest e)

  bracket_enough : (ts : List (List ℕ)) (v : Bool) (t u : List ℕ) → is_sign 40 t ≡ true → is_sign 41 u ≡ true → Enough sum ts v → Enough factor (t ∷ ts ++ (u ∷ [])) v
  bracket_enough ts v t u e g r = record { depth = suc r.depth; least = r.least; members = 0; few = omega arith; read = inner }
    where
      inner : (k fuel : ℕ) → suc r.depth ≤ k → r.least ≤ fuel → Read factor k fuel 0 (t ∷ ts ++ (u ∷ [])) v
      inner zero fuel a b = absurd (omega arith)
      inner (suc k) fuel a b = unfold atom begins within and_then close_bracket quoted flip in λ rest. factor-plain value
          (within value fuel (suc k)) (t ∷ (ts ++ (u ∷ [])) ++ rest) (sign_other 40 33 t e refl) ∙ ap (λ (c : Bool). cond c
          (and_then (sum_of value fuel (within value fuel k) ((ts ++ (u ∷ [])) ++ rest)) (λ q. close_bracket (flip false q.0) q.1))
          (named value false (t ∷ (ts ++ (u ∷ [])) ++ rest))) e
          ∙ ap (λ (o : Taken). and_then o (λ q. close_bracket (flip false q.0) q.1))
          (ap (sum_of value fuel (within value fuel k)) (append_assoc ts (u ∷ []) rest) ∙ sum-whole k fuel r.members ts v
          (omega (arith, r.few)) (r.read k fuel (omega arith) b) (u ∷ rest)
          (begins_other 41 39 u rest refl g, begins_other 41 42 u rest refl g) (begins_other 41 43 u rest refl g))
          ∙ ap (λ (c : Bool). cond c (Some (negated_by_signs 39 v rest)) None) g

  times-enough : (ts us : List (List ℕ)) (v w : Bool) (t : List ℕ) → is_sign 42 t ≡ true → Enough product ts v → Enough factor us w → Enough product (ts ++ (t ∷ us)) (v && w)
  times-enough ts us v w t e r s = record {
    depth = r.depth + s.depth;
    least = r.least + s.least + 1;
    members = r.members + 1;
    few = omega (arith, r.few);
    read = λ k fuel a b.
        chain_more 42 ◌&&◌ and_assoc (factor_at k fuel) EndsFactor times-ends r.members ts v t us w (r.read k fuel (omega arith) (omega arith)) e
        (factor-part k fuel s.members us w (s.read k fuel (omega arith) (omega arith)));
  }

  alone-enough : (ts : List (List ℕ)) (v : Bool) → Enough product ts v → Enough sum ts v
  alone-enough ts v r = record {
    depth = r.depth;
    least = r.least + 1;
    members = 1;
    few = omega arith;
    read = λ k fuel a b. chain-one 43 ◌||◌ or_assoc (product_at k fuel) EndsProduct plus-ends ts v (product-part k fuel r.members ts v (omega (arith, r.few)) (r.read k fuel a (omega arith)));
  }

  plus-enough : (ts us : List (List ℕ)) (v w : Bool) (t : List ℕ) → is_sign 43 t ≡ true → Enough sum ts v → Enough product us w → Enough sum (ts ++ (t ∷ us)) (v || w)
  plus-enough ts us v w t e r s = record {
    depth = r.depth + s.depth;
    least = r.least + s.least + 1;
    members = r.members + 1;
    few = omega (arith, r.few);
    read = λ k fuel a b.
        chain_more 43 ◌||◌ or_assoc (product_at k fuel) EndsProduct plus-ends r.members ts v t us w (r.read k fuel (omega arith) (omega arith)) e
        (product-part k fuel s.members us w (omega (arith, s.few)) (s.read k fuel (omega arith) (omega arith)));
  }

  means-read : (p : Part) (ts : List (List ℕ)) (v : Bool) → Means value p ts v → Enough p ts v
  means-read p ts v (name t w) = record { depth = 0; least = 0; members = 0; few = omega arith; read = λ k fuel a b. name-read t w k fuel }
  means-read p ts v (bracketed {ts = us} {v = w} t u e m g) = bracket_enough us w t u e g (means-read sum us w m)
  means-read p ts v (sign_negated {ts = us} {v = w} t e m) =
      let r = means-read factor us w m in
      record { depth = r.depth; least = r.least; members = r.members; few = r.few; read = λ k fuel a b. permuted-read us w t e k fuel r.members (r.read k fuel a b) }
  means-read p ts v (primed {ts = us} {v = w} t m e) =
      let r = means-read factor us w m in
      record { depth = r.depth; least = r.least; members = r.members; few = r.few; read = λ k fuel a b. primed-read us w t e k fuel r.members (r.read k fuel a b) }
  means-read p ts v (one {ts = us} {v = w} m) = (record {
    depth = (means-read factor us w m).depth;
    least = (means-read factor us w m).least + 1;
    members = 1;
    few = omega arith;
    read = λ k fuel a b. chain-one 42 ◌&&◌ and_assoc (factor_at k fuel) EndsFactor times-ends us w
        (factor-part k fuel (means-read factor us w m).members us w ((means-read factor us w m).read k fuel a (omega arith)));
  })
  means-read p ts v (times {ts = us} {us = xs} {v = w} {w = x} t m e n) = times-enough us xs w x t e (means-read product us w m) (means-read factor xs x n)
  means-read p ts v (alone {ts = us} {v = w} m) = alone-enough us w (means-read product us w m)
  means-read p ts v (plus {ts = us} {us = xs} {v = w} {w = x} t m e n) = plus-enough us xs w x t e (means-read sum us w m) (means-read product xs x n)

  -- an expression and its `;` are taken whole, given brackets and fuel enough
  whole : (ts : List (List ℕ)) (v : Bool) (a : HasValue value ts v) (k fuel : ℕ) → (means-read sum a.expression v a.means).depth ≤ k → (means-read sum a.expression v a.means).least ≤ fuel
      → sum_of value fuel (within value fuel k) ts ≡ Some (v, (59 ∷ []) ∷ [])
  unfolding begins is_sign lead
  whole ts v a k fuel deep long =
      let r = means-read sum a.expression v a.means in
      ap (sum_of value fuel (within value fuel k)) a.is_all
      ∙ sum-whole k fuel r.members a.expression v (omega (arith, r.few)) (r.read k fuel deep long) ((59 ∷ []) ∷ []) (refl, refl) refl

  -- they have one value
  pub value-once : (ts : List (List ℕ)) (v w : Bool) → HasValue value ts v → HasValue value ts w → v ≡ w
  value-once ts v w a b =
      let r = means-read sum a.expression v a.means in
      let s = means-read sum b.expression w b.means in
      let k = r.depth + s.depth in
      let fuel = r.least + s.least in
      ap (λ (q : Bool × List (List ℕ)). q.0) (some-once (sym (whole ts v a k fuel (omega arith) (omega arith)) ∙ whole ts w b k fuel (omega arith) (omega arith)))

  -- and the scan accepts them
  pub value-formed : (ts : List (List ℕ)) (v : Bool) → HasValue value ts v → formed ts ≡ true
  unfolding is_sign lead
  value-formed ts v a =
      let r = means-read sum a.expression v a.means in
      taken_formed value r.least r.depth ts v (59 ∷ []) refl (whole ts v a r.depth r.least (omega arith) (omega arith))
