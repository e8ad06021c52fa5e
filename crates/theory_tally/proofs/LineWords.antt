-- A text by its lines, and a line by its words, as `lines_from` and `fields` see them.
use Rattle.base.specs.{ℕ, suc, ◌+◌, ◌≡◌, refl, ◌∙◌, ap, List, [], ◌∷◌, ◌++◌, append_assoc, append-nil, lit<, length}
use Rattle.model.specs.{each, Line, text, lines_from, fields, names_line}
use Rattle.theory_text.proofs.{Free, free_append, Clears, spaced-free, line_of_bytes, line_first, fields-word, fields-last, names_of}

-- ---- words

-- no line end stands in the line
abbrev pub Whole : List ℕ → Type 0
Whole w = Free 10 w × Free 13 w

abbrev pub Wholes : List (List ℕ) → Type 0
Wholes [] = Unit {0}
Wholes (w ∷ ws) = Whole w × Wholes ws

pub wholes_append : (ws vs : List (List ℕ)) → Wholes ws → Wholes vs → Wholes (ws ++ vs)
wholes_append [] vs a b = b
wholes_append (w ∷ ws) vs a b = (a.0, wholes_append ws vs a.1 b)

pub names-whole : (key : List ℕ) (ws : List (List ℕ)) → Whole key → Clears ws → Whole (names_of key ws)
unfolding names_of
names-whole key ws k c = (
  free_append 10 key (each (λ (n : List ℕ). 32 ∷ n) ws) k.0 (spaced-free 10 (lit< tt) refl ws c),
  free_append 13 key (each (λ (n : List ℕ). 32 ∷ n) ws) k.1 (spaced-free 13 (lit< tt) refl ws c),
)

-- its words as `fields` sees them
pub names-fields : (key : List ℕ) (ws : List (List ℕ)) → Free 32 key → Clears ws → fields (names_of key ws) ≡ key ∷ ws
unfolding names_of each
names-fields key [] f c = ap fields (append-nil key) ∙ fields-last key f
names-fields key (w ∷ ws) f c = cc (fields-word key (w ++ each (λ (n : List ℕ). 32 ∷ n) ws) f, names-fields w ws (c.0 32 (lit< tt)) c.1)

-- a line of names with its end, before what follows
pub names-ended : (key : List ℕ) (names : List (List ℕ)) (rest : List ℕ) → names_line key names ++ rest ≡ names_of key names ++ (10 ∷ rest)
unfolding names_line names_of text
names-ended key names rest = cc (
  append_assoc key (each (λ (n : List ℕ). 32 ∷ n) names ++ text "\n") rest,
  append_assoc
      (each (λ (n : List ℕ). 32 ∷ n) names) (text "\n") rest,
  append_assoc key (each (λ (n : List ℕ). 32 ∷ n) names) (10 ∷ rest),
)

-- ---- lines

-- a text of lines that byte 10 ends
unfoldable pub lined : List (List ℕ) → List ℕ
lined [] = []
lined (w ∷ ws) = w ++ (10 ∷ lined ws)

-- these lines from a place on, and the place behind them
unfoldable pub lines_of_words : ℕ → List (List ℕ) → List Line
lines_of_words at [] = []
lines_of_words at (w ∷ ws) = line_of_bytes at w ∷ lines_of_words (at + suc (length w)) ws

unfoldable pub behind : ℕ → List (List ℕ) → ℕ
behind at [] = at
behind at (w ∷ ws) = behind (at + suc (length w)) ws

pub lines_laid : (at : ℕ) (ws : List (List ℕ)) → Wholes ws → lines_from at [] (lined ws) ≡ lines_of_words at ws
unfolding lined lines_of_words
lines_laid at [] h = unfold lines_from in refl
lines_laid at (w ∷ ws) h = cc (line_first at w (lined ws) h.0.0 h.0.1, lines_laid (at + suc (length w)) ws h.1)

pub laid_append : (at : ℕ) (ws vs : List (List ℕ)) → lines_of_words at (ws ++ vs) ≡ lines_of_words at ws ++ lines_of_words (behind at ws) vs
unfolding lines_of_words behind
laid_append at [] vs = refl
laid_append at (w ∷ ws) vs = ap (λ (ls : List Line). line_of_bytes at w ∷ ls) (laid_append (at + suc (length w)) ws vs)
