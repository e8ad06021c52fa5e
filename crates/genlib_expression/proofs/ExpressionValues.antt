-- The steps of the expression's readers: signs that step a value, names, brackets, and parts with a sign between them.
use Rattle.base.specs.{ℕ, zero, suc, ◌+◌, ◌-◌, ◌≤◌, ◌<◌, add-one, sub-one, arith, ◌≡◌, refl, sym, ap, ◌∙◌, Bool, true, false, not}
use Rattle.base.specs.{◌&&◌, ◌||◌, bit_and, bit_or}
use Rattle.base.specs.{cond, Option, None, Some, List, [], ◌∷◌, map, ltb, length, drop, ltb-true, ltb-false}
use Rattle.model.specs.{bit, from, same, flip, and_then, is_blank, is_sign, is_word, is_empty, Taken, begins, negated_by_signs, chain, quoted, close_bracket}
use Rattle.model.specs.{atom, name_value, factor_of, product_of, sum_of, index_of, value, phase_table}
use Rattle.model.specs.GenlibFormula.{named, within}
use Rattle.base_truth.proofs.{value_complement, value-and, value_or}
use Rattle.genlib_expression.specs.declared.Pins.{Pins}
use Rattle.genlib_expression.specs.{end_at, from_at, rest_at, names_at, taken_at, Within, part}
use Rattle.base_text.proofs.{class_from, class_le}
use Rattle.genlib_expression.proofs.TokenSpans.{token_none, token_first, end_after, end_out}

-- ---- signs that step a value

pub signs_stop : (b : ℕ) (v : Bool) (ts : List (List ℕ)) → begins b ts ≡ false → negated_by_signs b v ts ≡ (v, ts)
unfolding negated_by_signs begins
signs_stop b v [] e = refl
signs_stop b v (t ∷ ts) e = rw e

pub signs_step : (b : ℕ) (v : Bool) (ts : List (List ℕ)) → begins b ts ≡ true → negated_by_signs b v ts ≡ negated_by_signs b (not v) (drop 1 ts)
unfolding negated_by_signs begins
signs_step b v [] e = let z : ◌≡◌ {A = ℕ} 0 1 = cc in absurd (omega arith)
signs_step b v (t ∷ ts) e = rw e

-- signs turn a value that is turned already
not-flip : (o v : Bool) → not (flip o v) ≡ flip (not o) v
unfolding flip
not-flip true true = refl
not-flip true false = refl
not-flip false v = refl

signs_flip : (b : ℕ) (o v : Bool) (ts : List (List ℕ)) → negated_by_signs b (flip o v) ts ≡ (flip (negated_by_signs b o ts).0 v, (negated_by_signs b o ts).1)
unfolding negated_by_signs
signs_flip b o v [] = refl
signs_flip b o v (t ∷ ts) = rw (not-flip o v) (go (is_sign b t) (signs_flip b (not o) v ts))
  where
    go : (s : Bool) → negated_by_signs b (flip (not o) v) ts ≡ (flip (negated_by_signs b (not o) ts).0 v, (negated_by_signs b (not o) ts).1)
        → cond s (negated_by_signs b (flip (not o) v) ts) (flip o v, t ∷ ts) ≡ (flip (cond s (negated_by_signs b (not o) ts) (o, t ∷ ts)).0 v, (cond s (negated_by_signs b (not o) ts) (o, t ∷ ts)).1)
    go true e = e
    go false e = refl

-- ---- the place of a name

module _ (f : ℕ → List ℕ) (t : List ℕ) (i n : ℕ) (h : i < n) where
  split : n - i ≡ suc (n - (i + 1))
  split = omega arith

  pub index_hit : same t (f i) ≡ true → index_of t (map f (from i (n - i))) ≡ 0
  unfolding index_of from
  index_hit e = rw (split, e)

  pub index_miss : same t (f i) ≡ false → index_of t (map f (from i (n - i))) ≡ suc (index_of t (map f (from (i + 1) (n - (i + 1)))))
  unfolding index_of from
  index_miss e = rw (split, e, add-one i)

pub index-none : (f : ℕ → List ℕ) (t : List ℕ) (i n : ℕ) → n ≤ i → index_of t (map f (from i (n - i))) ≡ 0
unfolding index_of from
index-none f t i n h = let e : n - i ≡ 0 = omega arith in rw e

-- ---- tokens

word_none : is_word [] ≡ false
unfolding is_word is_empty
word_none = refl

never : false ≡ true → ⊥
never e = let z : ◌≡◌ {A = ℕ} 0 1 = cc in omega arith

module _ (w : List ℕ) (at : ℕ) (h : at ≤ length w) where
  pub token_from : at ≤ from_at w at
  token_from = class_from is_blank w at

  pub token_to : (from_at w at ≤ end_at w (from_at w at)) × (end_at w (from_at w at) ≤ length w)
  token_to = go (ltb (from_at w at) (length w)) refl
    where
      go : (s : Bool) → ltb (from_at w at) (length w) ≡ s → (from_at w at ≤ end_at w (from_at w at)) × (end_at w (from_at w at) ≤ length w)
      go true p = let k = end_after w (from_at w at) (ltb-true (from_at w at) (length w) p) in (omega arith, omega arith)
      go false p = let k = ltb-false (from_at w at) (length w) p in rw (end_out w (from_at w at) k) (omega arith, class_le is_blank w at h)

  -- the next token's bytes
  abbrev pub here : List ℕ
  here = part w (from_at w at) (end_at w (from_at w at))

  nothing : length w ≤ from_at w at → here ≡ []
  nothing k =
      let z : end_at w (from_at w at) - from_at w at ≡ 0 = omega (arith, end_out w (from_at w at) k) in
      rw z

  module _ (value : List ℕ → Bool) (odd : Bool) where
    pub name-yes : is_word here ≡ true
        → (named value odd (rest_at w at) ≡ quoted (flip odd (value here)) (rest_at w (end_at w (from_at w at)))) × (at < end_at w (from_at w at))
    unfolding named
    name-yes e = go (ltb (from_at w at) (length w)) refl
      where
        go : (s : Bool) → ltb (from_at w at) (length w) ≡ s
            → (named value odd (rest_at w at) ≡ quoted (flip odd (value here)) (rest_at w (end_at w (from_at w at)))) × (at < end_at w (from_at w at))
        go true p = let k = ltb-true (from_at w at) (length w) p in (rw (token_first w at k, e), omega (arith, (end_after w (from_at w at) k).0, token_from))
        go false p =
            let z : false ≡ true = sym word_none ∙ ap is_word (sym (nothing (ltb-false (from_at w at) (length w) p))) ∙ e in
            absurd (never z)

    pub name_no : is_word here ≡ false → named value odd (rest_at w at) ≡ None
    unfolding named
    name_no e = go (ltb (from_at w at) (length w)) refl
      where
        go : (s : Bool) → ltb (from_at w at) (length w) ≡ s → named value odd (rest_at w at) ≡ None
        go true p = rw (token_first w at (ltb-true (from_at w at) (length w) p), e)
        go false p = rw (token_none w at (ltb-false (from_at w at) (length w) p))

-- ---- brackets

pub close_yes : (v : Bool) (ts us : List (List ℕ)) → begins 41 ts ≡ true → drop 1 ts ≡ us → close_bracket v ts ≡ quoted v us
unfolding close_bracket
close_yes v ts us e f = rw (e, f)

pub close_no : (v : Bool) (ts : List (List ℕ)) → begins 41 ts ≡ false → close_bracket v ts ≡ None
unfolding close_bracket
close_no v ts e = rw e

-- a value that was turned, and the `'` behind it
pub quoted-is : (w : List ℕ) (row u n : ℕ) (o q v : Bool) (ts : List (List ℕ)) → bit u row ≡ flip q v
    → ◌≡◌ {A = Bool × List (List ℕ)} (q, rest_at w n) (negated_by_signs 39 o ts) → taken_at w row (Some (u, n)) ≡ quoted (flip o v) ts
unfolding quoted
quoted-is w row u n o q v ts f e = rw (signs_flip 39 o v ts, sym e, f)

-- ---- parts with a sign between them

module _ (b : ℕ) (join : Bool → Bool → Bool) (part : List (List ℕ) → Taken) where
  -- one part more, once the part's answer is known
  unroll : (k : ℕ) (v : Bool) (ts : List (List ℕ)) → 0 < k
      → chain b join part k v ts ≡ and_then (part ts) (λ q. cond (begins b q.1) (chain b join part (k - 1) (join v q.0) (drop 1 q.1)) (Some (join v q.0, q.1)))
  unfolding chain
  unroll zero v ts h = absurd (omega arith)
  unroll (suc k) v ts h = rw (sub-one (suc k))

  module _ (w : List ℕ) (k : ℕ) (v0 : Bool) (start : ℕ) where
    -- what is left of the chain from `at` on, with the value so far
    abbrev pub Chained : Bool → ℕ → Type 0
    Chained v at = (j : ℕ) × (length w < j + at) × (chain b join part k v0 (rest_at w start) ≡ chain b join part j v (rest_at w at))

    module _ (v : Bool) (at : ℕ) (h : at ≤ length w) (so : Chained v at) where
      some_left : 0 < so.0
      some_left = omega (arith, so.1)

      pub chain_bad : part (rest_at w at) ≡ None → chain b join part k v0 (rest_at w start) ≡ None
      unfolding and_then
      chain_bad e = so.2 ∙ unroll so.0 v (rest_at w at) some_left ∙ rw e

      module _ (u : Bool) (n : ℕ) (e : part (rest_at w at) ≡ Some (u, rest_at w n)) where
        pub chain-end : begins b (rest_at w n) ≡ false → chain b join part k v0 (rest_at w start) ≡ Some (join v u, rest_at w n)
        unfolding and_then
        chain-end f = so.2 ∙ unroll so.0 v (rest_at w at) some_left ∙ rw (e, f)

        pub chain-on : (m : ℕ) → begins b (rest_at w n) ≡ true → drop 1 (rest_at w n) ≡ rest_at w m → at < m → Chained (join v u) m
        unfolding and_then
        chain-on m f g l = (so.0 - 1, omega (arith, so.1), so.2 ∙ unroll so.0 v (rest_at w at) some_left ∙ rw (e, f, g))

-- ---- a factor

-- behind its `!`
pub factor-is : (value : List ℕ → Bool) (inside : List (List ℕ) → Taken) (ts us : List (List ℕ)) (odd : Bool)
    → ◌≡◌ {A = Bool × List (List ℕ)} (odd, us) (negated_by_signs 33 false ts) → factor_of value inside ts ≡ atom value inside odd us
unfolding factor_of
factor-is value inside ts us odd e = ap (λ (q : Bool × List (List ℕ)). atom value inside q.0 q.1) (sym e)

module _ (value : List ℕ → Bool) (inside : List (List ℕ) → Taken) (odd : Bool) (ts : List (List ℕ)) where
  pub atom-name : begins 40 ts ≡ false → atom value inside odd ts ≡ named value odd ts
  unfolding atom
  atom-name e = rw e

  module _ (us : List (List ℕ)) (e : begins 40 ts ≡ true) (d : drop 1 ts ≡ us) where
    pub atom_bad : inside us ≡ None → atom value inside odd ts ≡ None
    unfolding atom and_then
    atom_bad f = rw (e, d, f)

    pub atom-closed : (v : Bool) (rest : List (List ℕ)) → inside us ≡ Some (v, rest) → atom value inside odd ts ≡ close_bracket (flip odd v) rest
    unfolding atom and_then
    atom-closed v rest f = rw (e, d, f)

module _ (value : List ℕ → Bool) (k depth : ℕ) (ts : List (List ℕ)) where
  pub within_none : depth ≡ 0 → within value k depth ts ≡ None
  unfolding within
  within_none e = rw e

  pub within-sum : (depth ≡ 0 → ⊥) → within value k depth ts ≡ sum_of value k (within value k (depth - 1)) ts
  unfolding within
  within-sum ne = let e : depth ≡ suc (depth - 1) = omega arith in ap (λ (d : ℕ). within value k d ts) e

-- rows of which none has 1, and rows that all have it
pub no_row : (row : ℕ) → bit 0 row ≡ false
unfolding bit
no_row zero = refl
no_row (suc row) = no_row row

pub every-row : (row : ℕ) → row < 16 → bit 65535 row ≡ true
unfolding value
every-row row h = value_complement 0 row (omega arith) h ∙ ap not (no_row row)

-- a table, turned in every row where signs say so
signed_row : (odd : Bool) (t row : ℕ) → t < 65536 → row < 16 → bit (phase_table odd t) row ≡ flip odd (bit t row)
unfolding phase_table flip value
signed_row true t row h k = value_complement t row h k
signed_row false t row h k = refl

pub in_phase-row : (r : ℕ) (odd : Bool) (t row : ℕ) → r ≡ phase_table odd t → t < 65536 → row < 16 → bit r row ≡ flip odd (bit t row)
in_phase-row r odd t row e h k = ap (λ (x : ℕ). bit x row) e ∙ signed_row odd t row h k

-- what a callee answered
pub known : (w : List ℕ) (row : ℕ) (r s : Option (ℕ × ℕ)) (t : Taken) → r ≡ s → taken_at w row r ≡ t → t ≡ taken_at w row s
known w row r s t e f = sym f ∙ ap (taken_at w row) e

-- what starts later starts here
pub later : (a b m : ℕ) (r : Option (ℕ × ℕ)) → a ≤ b → Within b m r → Within a m r
later a b m (Some r) h w = (omega arith, omega arith)
later a b m None h w = tt

-- ---- the chains of a product and of a sum

-- what a part of a product or of a sum is in a row
abbrev pub factor_part : List ℕ → Pins → ℕ → ℕ → ℕ → List (List ℕ) → Taken
factor_part w p row depth k = factor_of (name_value (names_at w p) row) (within (name_value (names_at w p) row) k depth)

abbrev pub product_part : List ℕ → Pins → ℕ → ℕ → ℕ → List (List ℕ) → Taken
product_part w p row depth k = product_of (name_value (names_at w p) row) k (within (name_value (names_at w p) row) k depth)

-- what is left of them from `at` on, with the value so far
abbrev pub ProductChained : List ℕ → Pins → ℕ → ℕ → ℕ → ℕ → Bool → ℕ → Type 0
ProductChained w p row depth k from v at = Chained 42 ◌&&◌ (factor_part w p row depth k) w k true from v at

abbrev pub SumChained : List ℕ → Pins → ℕ → ℕ → ℕ → ℕ → Bool → ℕ → Type 0
SumChained w p row depth k from v at = Chained 43 ◌||◌ (product_part w p row depth k) w k false from v at

-- two tables joined, row by row
pub and_row : (a b row : ℕ) → bit (bit_and a b) row ≡ (bit a row && bit b row)
unfolding value
and_row a b row = value-and a b row

pub or_row : (a b row : ℕ) → bit (bit_or a b) row ≡ (bit a row || bit b row)
unfolding value
or_row a b row = value_or a b row
