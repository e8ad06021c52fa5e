-- The expression of a GATE line: its form, its pins, and its value by the grammar. Its tokens are those behind `=`, the `;` among them.
use Rattle.std.specs.Prelude.{◌+◌, ◌-◌, ◌*◌, ◌&&◌, ◌||◌, ◌∷◌, ◌++◌}
use Rattle.base.specs.{ℕ, zero, suc, Bool, true, false, not, cond, Option, None, Some, List, [], eqb}
use Rattle.base.specs.{leb, ltb, drop}
use Rattle.model.specs.Base.{bit, one, flip, any, same, and_then}
use Rattle.model.specs.Text.{text}
use Rattle.model.specs.GenlibWords.{is_sign, is_word}
use Rattle.model.specs.declared.Scan.{Scan}
use Rattle.model.specs.declared.Scan.TheVariants.{Expected, After, Done, Broken}

-- ---- the form, at any depth of brackets

-- The scan of a form: a factor is expected, or one has ended, where so many brackets are open; the `;` has ended it, and nothing more may stand there.

-- where a factor is expected: `!`, a bracket that opens, or a name
unfoldable pub scan_expected : ℕ → List ℕ → Scan
unfolding is_sign is_word
scan_expected depth t = cond (is_sign 33 t) (Expected depth) (cond (is_sign 40 t) (Expected (depth + 1)) (cond (is_word t) (After depth) Broken))

-- behind a factor: `'`, a bracket that closes, an operator, or the `;` where no bracket is open
unfoldable pub scan_after : ℕ → List ℕ → Scan
unfolding is_sign
scan_after depth t =
    cond (is_sign 39 t) (After depth)
    (cond (is_sign 41 t) (cond (ltb 0 depth) (After (depth - 1)) Broken)
    (cond (is_sign 42 t || is_sign 43 t) (Expected depth)
    (cond (is_sign 59 t && eqb depth 0) Done Broken)))

unfoldable pub scan_token : Scan → List ℕ → Scan
unfolding scan_expected scan_after
scan_token (Expected depth) t = scan_expected depth t
scan_token (After depth) t = scan_after depth t
scan_token Done t = Broken
scan_token Broken t = Broken

unfoldable pub scan : Scan → List (List ℕ) → Scan
unfolding scan_token
scan s [] = s
scan s (t ∷ ts) = scan (scan_token s t) ts

unfoldable pub is_done : Scan → Bool
is_done (Expected depth) = false
is_done (After depth) = false
is_done Done = true
is_done Broken = false

-- the tokens are an expression and its `;`
unfoldable pub formed : List (List ℕ) → Bool
unfolding scan is_done
formed ts = is_done (scan (Expected 0) ts)

-- the brackets that are open behind a token
unfoldable pub opened : ℕ → List ℕ → ℕ
unfolding is_sign
opened depth t = cond (is_sign 40 t) (depth + 1) (cond (is_sign 41 t) (depth - 1) depth)

-- no "brackets over 16 deep"
unfoldable pub shallow : ℕ → List (List ℕ) → Bool
unfolding opened
shallow depth [] = leb depth 16
shallow depth (t ∷ ts) = let r = shallow (opened depth t) ts in leb depth 16 && r

-- ---- pins

unfoldable pub const0 : List ℕ
unfolding text
const0 = text "CONST0"

unfoldable pub const1 : List ℕ
unfolding text
const1 = text "CONST1"

-- a pin's name
unfoldable pub is_pin : List ℕ → Bool
unfolding is_word same const0 const1
is_pin t = is_word t && (not (same t const0) && not (same t const1))

-- the list with a name that is not in it at its end
unfoldable pub with_name : List (List ℕ) → List ℕ → List (List ℕ)
unfolding any same
with_name seen t = cond (any (same t) seen) seen (seen ++ (t ∷ []))

unfoldable pub add_pins : List (List ℕ) → List (List ℕ) → List (List ℕ)
unfolding with_name is_pin
add_pins seen [] = seen
add_pins seen (t ∷ ts) = add_pins (cond (is_pin t) (with_name seen t) seen) ts

-- "Pins take their order of first appearance."
unfoldable pub pins_of : List (List ℕ) → List (List ℕ)
unfolding add_pins
pins_of ts = add_pins [] ts

-- the place of a name in a list, or the list's length
unfoldable pub index_of : List ℕ → List (List ℕ) → ℕ
unfolding same
index_of t [] = 0
index_of t (u ∷ us) = let r = index_of t us in cond (same t u) 0 (suc r)

-- ---- the value, by the grammar

-- a name's value in a row: "bit j of r is pin j"
unfoldable pub name_value : List (List ℕ) → ℕ → List ℕ → Bool
unfolding same const0 const1 bit index_of
name_value pins r t = cond (same t const0) false (cond (same t const1) true (bit r (index_of t pins)))

-- a form's value and the tokens behind it, or none where the form does not stand there
abbrev pub Taken : Type 0
Taken = Option (Bool × List (List ℕ))

-- a value, turned once for each sign b that stands there, and the tokens behind them
unfoldable pub negated_by_signs : ℕ → Bool → List (List ℕ) → Bool × List (List ℕ)
unfolding is_sign
negated_by_signs b v [] = (v, [])
negated_by_signs b v (t ∷ ts) = let r = negated_by_signs b (not v) ts in cond (is_sign b t) r (v, t ∷ ts)

-- the first token is the sign b
unfoldable pub begins : ℕ → List (List ℕ) → Bool
unfolding is_sign
begins b [] = false
begins b (t ∷ ts) = is_sign b t

-- Parts with the sign b between them, joined to a value one after the other. The fuel is one for each part.
unfoldable pub chain : ℕ → (Bool → Bool → Bool) → (List (List ℕ) → Taken) → ℕ → Bool → List (List ℕ) → Taken
unfolding and_then begins
chain b join part zero v ts = None
chain b join part (suc fuel) v ts =
    and_then (part ts) (λ q.
    let on = chain b join part fuel (join v q.0) (drop 1 q.1) in
    let end : Taken = Some (join v q.0, q.1) in
    cond (begins b q.1) on end)

-- a value, with the `'` behind it
unfoldable pub quoted : Bool → List (List ℕ) → Taken
unfolding negated_by_signs
quoted v ts = Some (negated_by_signs 39 v ts)

-- the bracket that must close behind a value
unfoldable pub close_bracket : Bool → List (List ℕ) → Taken
unfolding begins quoted
close_bracket v ts = cond (begins 41 ts) (quoted v (drop 1 ts)) None

-- a name
unfoldable pub named : (List ℕ → Bool) → Bool → List (List ℕ) → Taken
unfolding is_word flip quoted
named value odd [] = None
named value odd (t ∷ ts) = cond (is_word t) (quoted (flip odd (value t)) ts) None

-- a name, or what may stand `inside` brackets
unfoldable pub atom : (List ℕ → Bool) → (List (List ℕ) → Taken) → Bool → List (List ℕ) → Taken
unfolding begins and_then close_bracket named flip
atom value inside odd ts =
    let bracketed = and_then (inside (drop 1 ts)) (λ q. close_bracket (flip odd q.0) q.1) in
    cond (begins 40 ts) bracketed (named value odd ts)

-- "any number of `!` before a factor and of `'` after it"
unfoldable pub factor_of : (List ℕ → Bool) → (List (List ℕ) → Taken) → List (List ℕ) → Taken
unfolding negated_by_signs atom
factor_of value inside ts = atom value inside (negated_by_signs 33 false ts).0 (negated_by_signs 33 false ts).1

-- "a product of factors"
unfoldable pub product_of : (List ℕ → Bool) → ℕ → (List (List ℕ) → Taken) → List (List ℕ) → Taken
unfolding chain factor_of
product_of value fuel inside ts = chain 42 ◌&&◌ (factor_of value inside) fuel true ts

-- "a sum is made of products"
unfoldable pub sum_of : (List ℕ → Bool) → ℕ → (List (List ℕ) → Taken) → List (List ℕ) → Taken
unfolding chain product_of
sum_of value fuel inside ts = chain 43 ◌||◌ (product_of value fuel inside) fuel false ts

-- "a bracketed factor of a sum again": what may stand inside brackets, where so many may open, the first of them counted
unfoldable pub within : (List ℕ → Bool) → ℕ → ℕ → List (List ℕ) → Taken
unfolding sum_of
within value fuel zero ts = None
within value fuel (suc depth) ts = sum_of value fuel (within value fuel depth) ts

unfoldable pub value_taken : Taken → Bool
value_taken None = false
value_taken (Some q) = q.0

-- the value of an expression with brackets at most 16 deep; no text has more parts than its 65,536 bytes
unfoldable pub value_of : (List ℕ → Bool) → List (List ℕ) → Bool
unfolding value_taken sum_of within
value_of value ts = value_taken (sum_of value 65537 (within value 65537 16) ts)

-- ---- the table

-- the bits of rows r, r + 1 .. of which there are n, the first lowest
unfoldable pub row_bits : (ℕ → Bool) → ℕ → ℕ → ℕ
unfolding one
row_bits f r zero = 0
row_bits f r (suc n) = one (f r) + 2 * row_bits f (suc r) n
