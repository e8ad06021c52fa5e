-- Lines as `lines_from` sees them, byte by byte, and one that byte 10 ends; its words as `fields` sees them.
use Rattle.base.specs.{ℕ, suc, ◌+◌, arith, ◌≡◌, refl, sym, ◌∙◌, ap, ap₂, Bool, cond, List, [], ◌∷◌, ◌++◌, reverse, reverse-cons}
use Rattle.base.specs.{append_assoc, append-nil, eqb, length, length-reverse}
use Rattle.model.specs.{Line, next_of, closing, lines_from, onto, split, fields}
use Rattle.theory_graph.proofs.{by_bool}
use Rattle.theory_text.proofs.PlainLines.{Free}

-- one byte more: byte 10 closes the line
pub lines_step : (at : ℕ) (held : List ℕ) (b : ℕ) (l : List ℕ)
    → lines_from at held (b ∷ l) ≡ cond (eqb b 10) (closing at held ∷ lines_from (at + suc (length held)) [] l) (lines_from at (b ∷ held) l)
unfolding lines_from closing
lines_step at [] b l = by_bool (eqb b 10) (λ e. cc) (λ q. cc)
lines_step at (h ∷ hs) b l = by_bool (eqb b 10) (λ e. cc) (λ q. cc)

-- the next line begins behind byte 10, whichever the end
pub closing-next : (at : ℕ) (held : List ℕ) → next_of (closing at held) ≡ at + suc (length held)
unfolding closing
closing-next at [] = refl
closing-next at (h ∷ hs) = by_bool (eqb h 13) (λ e. rw e (omega (arith, length-reverse hs)))
    (λ q. rw q (omega (arith, length-reverse (h ∷ hs))))

-- the bytes of a word put before those held, the last first
unfoldable pub held_with : List ℕ → List ℕ → List ℕ
held_with [] held = held
held_with (b ∷ w) held = held_with w (b ∷ held)

pub held_back : (w held : List ℕ) → reverse (held_with w held) ≡ reverse held ++ w
unfolding held_with
held_back [] held = sym (append-nil (reverse held))
held_back (b ∷ w) held = held_back w (b ∷ held) ∙ ap (λ (x : List ℕ). x ++ w) (reverse-cons b held) ∙ append_assoc (reverse held) (b ∷ []) w

pub held-length : (w held : List ℕ) → length (held_with w held) ≡ length w + length held
unfolding held_with
held-length [] held = let e : length held ≡ 0 + length held = omega arith in e
held-length (b ∷ w) held = held-length w (b ∷ held) ∙ (let e : length w + suc (length held) ≡ suc (length w) + length held = omega arith in e)

-- a line that byte 10 ends
abbrev pub line_of_bytes : ℕ → List ℕ → Line
line_of_bytes at w = record { offset = at; bytes = w; ending = 1 }

-- byte 13 is part of an end, so none stands in such a line
short-end : (at : ℕ) (held : List ℕ) → Free 13 held → closing at held ≡ line_of_bytes at (reverse held)
unfolding closing
short-end at [] f = refl
short-end at (h ∷ hs) f = cc

line-held : (at : ℕ) (held w rest : List ℕ) → Free 13 held → Free 10 w → Free 13 w
    → lines_from at held (w ++ (10 ∷ rest)) ≡ line_of_bytes at (reverse (held_with w held)) ∷ lines_from (at + suc (length (held_with w held))) [] rest
unfolding held_with
line-held at held [] rest s f g = lines_step at held 10 rest ∙ ap (λ (l : Line). l ∷ lines_from (at + suc (length held)) [] rest) (short-end at held s)
line-held at held (b ∷ w) rest s f g =
    cc (lines_step at held b (w ++ (10 ∷ rest)), f.0, line-held at (b ∷ held) w rest (g.0, s) f.1 g.1)

-- the line, and those behind it
pub line_first : (at : ℕ) (w rest : List ℕ) → Free 10 w → Free 13 w → lines_from at [] (w ++ (10 ∷ rest)) ≡ line_of_bytes at w ∷ lines_from (at + suc (length w)) [] rest
line_first at w rest f g =
    cc (line-held at [] w rest tt f g, held_back w [], held-length w [], let e : length w + 0 ≡ length w = omega arith in e)

-- a field that a space ends
pub fields-word : (w rest : List ℕ) → Free 32 w → fields (w ++ (32 ∷ rest)) ≡ w ∷ fields rest
unfolding fields split onto
fields-word [] rest f = refl
fields-word (b ∷ w) rest f = ap₂ (λ (t : Bool) (ps : List (List ℕ)). split t b ps) f.0 (fields-word w rest f.1)

-- a last field
pub fields-last : (w : List ℕ) → Free 32 w → fields w ≡ w ∷ []
unfolding fields split onto
fields-last [] f = refl
fields-last (b ∷ w) f = ap₂ (λ (t : Bool) (ps : List (List ℕ)). split t b ps) f.0 (fields-last w f.1)
