-- The words and signs of a genlib line, names and figures.
use Rattle.std.specs.Prelude.{◌&&◌, ◌||◌, ◌∷◌, ◌++◌}
use Rattle.base.specs.{ℕ, suc, Bool, true, false, not, cond, Option, List, [], eqb, leb, length, take, drop}
use Rattle.base.specs.{replicate}
use Rattle.model.specs.Base.{all, only}
use Rattle.model.specs.Text.{between, is_name_byte, onto, as_digits}

-- ---- words and signs

-- "Spaces or tabs part words"
unfoldable pub is_blank : ℕ → Bool
is_blank b = eqb b 32 || eqb b 9

-- a byte of a name or of a figure
unfoldable pub is_word_byte : ℕ → Bool
unfolding is_name_byte
is_word_byte b = is_name_byte b || eqb b 46

-- the bytes begin with one
unfoldable pub starts_word : List ℕ → Bool
unfolding is_word_byte
starts_word [] = false
starts_word (b ∷ bs) = is_word_byte b

-- a byte in front of tokens: a blank is none, a word's byte joins the word behind it, any other stands alone
abbrev pub token_prepended : Bool → Bool → ℕ → List (List ℕ) → List (List ℕ)
token_prepended true joins b ts = ts
token_prepended false true b ts = onto b ts
token_prepended false false b ts = (b ∷ []) ∷ ts

-- the tokens of a line: its words, each the longest that it can be, and its signs, each a byte that is neither a word's nor a blank
unfoldable pub tokens : List ℕ → List (List ℕ)
unfolding is_blank is_word_byte starts_word onto
tokens [] = []
tokens (b ∷ bs) = let ts = tokens bs in token_prepended (is_blank b) (is_word_byte b && starts_word bs) b ts

-- a token's first byte; a sign is known by it, since no word begins with a sign
unfoldable pub lead : List ℕ → ℕ
lead [] = 0
lead (b ∷ bs) = b

unfoldable pub is_sign : ℕ → List ℕ → Bool
unfolding lead
is_sign b t = eqb (lead t) b

unfoldable pub is_empty : List ℕ → Bool
is_empty [] = true
is_empty (b ∷ bs) = false

-- "Names are of letters, digits and underscores"
unfoldable pub is_word : List ℕ → Bool
unfolding is_empty all is_name_byte
is_word t = not (is_empty t) && all is_name_byte t

-- ---- figures

unfoldable pub is_digit : ℕ → Bool
unfolding between
is_digit b = between 48 57 b

-- the longest beginning of which every byte passes a test
unfoldable pub span : (ℕ → Bool) → List ℕ → List ℕ
span p [] = []
span p (b ∷ bs) = let r = span p bs in cond (p b) (b ∷ r) []

unfoldable pub is_digits : List ℕ → Bool
unfolding is_empty all is_digit
is_digits w = not (is_empty w) && all is_digit w

-- nothing, or a point and digits
unfoldable pub is_fraction : List ℕ → Bool
unfolding is_digits
is_fraction [] = true
is_fraction (b ∷ bs) = eqb b 46 && is_digits bs

-- the digits that a word begins with, and those behind its point
unfoldable pub wholes : List ℕ → List ℕ
unfolding span is_digit
wholes w = span is_digit w

unfoldable pub decimals : List ℕ → List ℕ
unfolding wholes
decimals w = drop (suc (length (wholes w))) w

-- "figures of digits with or without a point and more digits"
unfoldable pub is_figure : List ℕ → Bool
unfolding wholes is_empty is_fraction
is_figure w = not (is_empty (wholes w)) && is_fraction (drop (length (wholes w)) w)

-- a figure "in thousandths": its digits and three decimals behind them, read as one number
unfoldable pub in_thousandths : List ℕ → ℕ
unfolding wholes decimals as_digits
in_thousandths w = as_digits 0 (wholes w ++ take 3 (decimals w ++ replicate 3 48))

-- the same, or none where it "has over three decimals or exceeds 65.535"
unfoldable pub thousandths : List ℕ → Option ℕ
unfolding only is_figure decimals in_thousandths
thousandths w = let n = in_thousandths w in only (is_figure w && (leb (length (decimals w)) 3 && leb n 65535)) n
