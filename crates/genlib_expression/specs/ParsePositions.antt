-- What the readers of a line find at its places.
use Rattle.std.specs.Prelude.{◌+◌, ◌-◌, ◌≤◌, ◌<◌, ◌≡◌, ◌&&◌, ◌||◌, ◌∷◌}
use Rattle.base.specs.{ℕ, zero, suc, Bool, true, false, cond, Option, None, Some, List, [], map, eqb, ltb}
use Rattle.base.specs.{length, take, drop, get_or, set}
use Rattle.model.specs.declared.Scan.{Scan}
use Rattle.model.specs.declared.Scan.TheVariants.{Expected, After, Done, Broken as NoForm}
use Rattle.model.specs.{bit, below, is_blank, is_word_byte, is_word, tokens, span, Taken, is_pin, index_of}
use Rattle.base_text.specs.{pick_n}
use Rattle.base_text.specs.{span_end}
use Rattle.genlib_expression.specs.declared.Token.{Token}
use Rattle.genlib_expression.specs.declared.Pins.{Pins}

abbrev pub pick_l : Bool → List (List ℕ) → List (List ℕ) → List (List ℕ)
pick_l true a b = a
pick_l false a b = b

-- the end of the token that begins at a place
unfoldable pub end_at : List ℕ → ℕ → ℕ
unfolding span_end
end_at w from = pick_n (ltb from (length w)) (pick_n (is_word_byte (get_or w from 0)) (span_end is_word_byte w from) (from + 1)) from

-- the next token from a place on
abbrev pub from_at : List ℕ → ℕ → ℕ
from_at w at = span_end is_blank w at

abbrev pub token_at : List ℕ → ℕ → Token
token_at w at = record { from = from_at w at; to = end_at w (from_at w at) }

-- the place behind the sign b, if that is the next token
abbrev pub behind_at : List ℕ → ℕ → ℕ → Option ℕ
behind_at w at b = cond (ltb (from_at w at) (length w) && eqb (get_or w (from_at w at) 0) b) (Some (end_at w (from_at w at))) None

-- the tokens from a place on
abbrev pub rest_at : List ℕ → ℕ → List (List ℕ)
rest_at w at = tokens (drop at w)

-- the name of pin i, and those of all pins
abbrev pub name_at : List ℕ → Pins → ℕ → List ℕ
name_at w p i = span is_word_byte (drop (get_or p.at i 0) w)

unfoldable pub names_at : List ℕ → Pins → List (List ℕ)
unfolding span below
names_at w p = map (name_at w p) (below p.n)

-- what an answer by places says of the tokens in a row
abbrev pub taken_at : List ℕ → ℕ → Option (ℕ × ℕ) → Taken
taken_at w row (Some r) = Some (bit r.0 row, rest_at w r.1)
taken_at w row None = None

abbrev pub signed_at : List ℕ → Bool × ℕ → Bool × List (List ℕ)
signed_at w t = (t.0, rest_at w t.1)

-- a form that starts at a ends after a and within n
abbrev pub Within : ℕ → ℕ → Option (ℕ × ℕ) → Type 0
Within a n (Some r) = (a < r.1) × (r.1 ≤ n)
Within a n None = Unit {0}

-- ---- tokens by number

-- the bytes from one place to another
abbrev pub part : List ℕ → ℕ → ℕ → List ℕ
part w from to = take (to - from) (drop from w)

-- token k of a line, by its place: each begins behind the one before
unfoldable pub nth_at : List ℕ → ℕ → Token
nth_at w zero = token_at w 0
nth_at w (suc k) = token_at w (nth_at w k).to

-- what is known of token k of a line
pub record Nth (w : List ℕ) (k : ℕ) (t : Token) : Type 0 where
  pub is : t ≡ nth_at w k
  pub ordered : t.from ≤ t.to
  pub within : t.to ≤ length w
  pub bytes : part w t.from t.to ≡ get_or (tokens w) k []
  pub rest : rest_at w t.to ≡ drop (k + 1) (tokens w)

-- a token's place holds it, or nothing
unfoldable pub parts_at : List ℕ → Token → List (List ℕ)
parts_at w t = pick_l (ltb t.from t.to) (part w t.from t.to ∷ []) []

-- ---- the scan, by a token's first byte and whether it is a name

unfoldable pub expected_step : ℕ → ℕ → Bool → Scan
expected_step depth b name = cond (eqb b 33) (Expected depth) (cond (eqb b 40) (Expected (depth + 1)) (cond name (After depth) NoForm))

unfoldable pub close_step : ℕ → Scan
close_step depth = cond (ltb 0 depth) (After (depth - 1)) NoForm

unfoldable pub end_step : ℕ → ℕ → Scan
end_step depth b = cond (eqb b 59 && eqb depth 0) Done NoForm

unfoldable pub after_step : ℕ → ℕ → Scan
unfolding close_step end_step
after_step depth b = cond (eqb b 39) (After depth) (cond (eqb b 41) (close_step depth) (cond (eqb b 42 || eqb b 43) (Expected depth) (end_step depth b)))

unfoldable pub scan_step : Scan → ℕ → Bool → Scan
unfolding expected_step after_step
scan_step (Expected depth) b name = expected_step depth b name
scan_step (After depth) b name = after_step depth b
scan_step Done b name = NoForm
scan_step NoForm b name = NoForm

-- the brackets open in a state
abbrev pub depth_of : Scan → ℕ
depth_of (Expected depth) = depth
depth_of (After depth) = depth
depth_of Done = 0
depth_of NoForm = 0

-- the brackets open behind a token with this first byte
unfoldable pub opened_by : ℕ → ℕ → ℕ
opened_by depth b = cond (eqb b 40) (depth + 1) (cond (eqb b 41) (depth - 1) depth)

-- ---- pins

-- a pin more
abbrev pub pushed : Pins → ℕ → Pins
pushed p from = record { n = p.n + 1; at = set p.at p.n from }

-- the list with a name that is added if it is not in it; a fifth makes the number 5
unfoldable pub with_pin : List ℕ → Pins → ℕ → List ℕ → Pins
unfolding names_at
with_pin w p from t = cond (ltb (index_of t (names_at w p)) p.n) p (cond (ltb p.n 4) (pushed p from) (record { n = 5; at = p.at }))

-- the list with a token, if it is a pin
unfoldable pub add_pin : List ℕ → Pins → Token → Pins
unfolding with_pin
add_pin w p t = cond (ltb t.from t.to) (cond (is_pin (part w t.from t.to)) (with_pin w p t.from (part w t.from t.to)) p) p

-- the list with the tokens from a place on, up to a fifth pin; no line has more tokens than bytes
unfoldable pub pins_from : ℕ → List ℕ → Pins → ℕ → Pins
unfolding add_pin
pins_from zero w p at = p
pins_from (suc left) w p at =
    let q = add_pin w p (token_at w at) in
    cond (ltb at (length w)) (cond (ltb 4 q.n) q (pins_from left w q (token_at w at).to)) p

abbrev pub no_pins : Pins
no_pins = record { n = 0; at = 0 ∷ 0 ∷ 0 ∷ 0 ∷ [] }

-- the names that r holds; from the fifth on only their number counts
pub record Listed (w : List ℕ) (names : List (List ℕ)) (r : Pins) : Type 0 where
  pub few : r.n ≤ 4 → names_at w r ≡ names
  pub many : 4 < r.n → 4 < length names

-- a token that is a name is the word that begins at its place
pub record WordPart (w : List ℕ) (t : Token) : Type 0 where
  pub word : is_word (part w t.from t.to) ≡ true → part w t.from t.to ≡ span is_word_byte (drop t.from w)
