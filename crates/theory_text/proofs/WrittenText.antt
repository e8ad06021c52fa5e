-- What `Alike` is: the relation of texts that differ in no more than which of the two ends a line has.
--     lines-text     a text is its lines' contents, each with its end behind it: reading the lines loses nothing but which end it was
--     either_end     texts that are the same by bytes but for ends are alike
--     same_by_bytes  and texts that are alike are so
--     ..-apart       texts that are not alike
use Rattle.base.specs.{ℕ, zero, suc, ◌+◌, ◌≡◌, refl, sym, ◌∙◌, ap, subst, Bool, true, false, cond, false≢true, List, [], ◌∷◌, ◌++◌, map}
use Rattle.base.specs.{reverse, reverse-cons, append-nil, append_assoc, cons≢nil, nil≢cons, head-eq_of_cons-eq, tail-eq_of_cons-eq, eqb}
use Rattle.base.specs.{length, get_or, append_snoc, eqb-true}
use Rattle.model.specs.{each, Line, closing, lines_from, shown, fields, Alike, first_word}
use Rattle.theory_graph.proofs.{by_bool}
use Rattle.theory_text.proofs.PlainLines.{Free, free_append}
use Rattle.theory_text.proofs.LineLaws.{lines_step}

-- ---- a text is its lines with their ends

-- the bytes of an end
pub end_bytes : ℕ → List ℕ
end_bytes zero = []
end_bytes (suc zero) = 10 ∷ []
end_bytes (suc (suc n)) = 13 ∷ 10 ∷ []

-- a line as it stands in the text
pub line_text : Line → List ℕ
unfolding end_bytes
line_text l = l.bytes ++ end_bytes l.ending

closing-text : (at : ℕ) (held : List ℕ) → line_text (closing at held) ≡ reverse held ++ (10 ∷ [])
unfolding closing line_text end_bytes
closing-text at [] = refl
closing-text at (h ∷ hs) = by_bool (eqb h 13) (λ e. cc (reverse-cons h hs, append_snoc (reverse hs) h (10 ∷ []), eqb-true h 13 e)) (λ q. cc)

held-text : (at : ℕ) (held : List ℕ) → each line_text (lines_from at held []) ≡ reverse held ++ []
unfolding lines_from each line_text end_bytes
held-text at [] = refl
held-text at (h ∷ hs) = append-nil (reverse (h ∷ hs) ++ [])

pub lines-text : (at : ℕ) (held s : List ℕ) → each line_text (lines_from at held s) ≡ reverse held ++ s
lines-text at held [] = held-text at held
lines-text at held (b ∷ s) =
    let first : (x : Line) (xs : List Line) → each line_text (x ∷ xs) ≡ line_text x ++ each line_text xs = λ x xs. unfold each in refl in
    ap (each line_text) (lines_step at held b s) ∙ by_bool (eqb b 10) (λ e. cc (
      first (closing at held)
          (lines_from (at + suc (length held)) [] s),
      lines-text (at + suc (length held)) [] s,
      closing-text at held,
      append_snoc
          (reverse held) 10 s,
      eqb-true b 10 e,
    )) (λ q. cc ((lines-text at (b ∷ held) s), reverse-cons b held, append_snoc (reverse held) b s))

-- ---- either end behind each line

-- what is shown of the lines does not hang on where the text begins
shown-closing : (at b : ℕ) (held : List ℕ) → shown (closing at held) ≡ shown (closing b held)
unfolding shown closing
shown-closing at b [] = refl
shown-closing at b (h ∷ hs) = by_bool (eqb h 13) (λ e. cc) (λ q. cc)

shown-none : (at b : ℕ) (held : List ℕ) → map shown (lines_from at held []) ≡ map shown (lines_from b held [])
unfolding lines_from shown
shown-none at b [] = refl
shown-none at b (h ∷ hs) = refl

shown_anywhere : (at b : ℕ) (held s : List ℕ) → map shown (lines_from at held s) ≡ map shown (lines_from b held s)
shown_anywhere at b held [] = shown-none at b held
shown_anywhere at b held (x ∷ s) = ap (map shown) (lines_step at held x s) ∙ by_bool (eqb x 10)
    (λ e. rw e (cc (shown_anywhere (at + suc (length held)) (b + suc (length held)) [] s, shown-closing at b held)))
    (λ q. rw q (shown_anywhere at b (x ∷ held) s)) ∙ sym (ap (map shown) (lines_step b held x s))

-- ---- by bytes alone

-- byte 10, or bytes 13 and 10
pub one_end : Bool → List ℕ
one_end true = 13 ∷ 10 ∷ []
one_end false = 10 ∷ []

pub last_byte : List ℕ → ℕ
last_byte [] = 0
last_byte (b ∷ []) = b
last_byte (b ∷ c ∷ cs) = last_byte (c ∷ cs)

-- byte 10 alone does not follow contents whose last byte is 13: that byte would be part of the end
abbrev pub Apart : Bool → List ℕ → Type 0
Apart is_long c = is_long ≡ false → eqb (last_byte c) 13 ≡ false

-- two texts that are the same byte by byte but for line ends: contents without byte 10, either end behind them in the one and in the other, and so
-- on; behind the last end the same bytes, without byte 10
pub data ButEnds : List ℕ → List ℕ → Type 0 where
  rest : (w : List ℕ) → Free 10 w → ButEnds w w
  line : (c : List ℕ) (x y : Bool) → Free 10 c → Apart x c → Apart y c → {s t : List ℕ} → ButEnds s t → ButEnds (c ++ (one_end x ++ s)) (c ++ (one_end y ++ t))

last_snoc : (xs : List ℕ) (h : ℕ) → last_byte (xs ++ (h ∷ [])) ≡ h
unfolding last_byte
last_snoc [] h = refl
last_snoc (x ∷ []) h = refl
last_snoc (x ∷ y ∷ ys) h = last_snoc (y ∷ ys) h

last-held : (h : ℕ) (hs : List ℕ) → last_byte (reverse (h ∷ hs)) ≡ h
last-held h hs = ap last_byte (reverse-cons h hs) ∙ last_snoc (reverse hs) h

shown-short : (at : ℕ) (held : List ℕ) → eqb (last_byte (reverse held)) 13 ≡ false → shown (closing at held) ≡ (reverse held, true)
unfolding shown closing
shown-short at [] p = refl
shown-short at (h ∷ hs) p = let n : eqb h 13 ≡ false = ap (λ (b : ℕ). eqb b 13) (sym (last-held h hs)) ∙ p in rw n

shown-long : (at : ℕ) (held : List ℕ) → shown (closing at (13 ∷ held)) ≡ (reverse held, true)
unfolding shown closing
shown-long at held = refl

ten-next : (at : ℕ) (held r : List ℕ) → map shown (lines_from at held (10 ∷ r)) ≡ shown (closing at held) ∷ map shown (lines_from 0 [] r)
ten-next at held r = cc (lines_step at held 10 r, shown_anywhere (at + suc (length held)) 0 [] r)

other_next : (at b : ℕ) (held r : List ℕ) → eqb b 10 ≡ false → lines_from at held (b ∷ r) ≡ lines_from at (b ∷ held) r
other_next at b held r e = lines_step at held b r ∙ rw e

one_line_lem : (k : Bool) (at : ℕ) (held c r : List ℕ) → Free 10 c → Apart k (reverse held ++ c)
    → map shown (lines_from at held (c ++ (one_end k ++ r))) ≡ (reverse held ++ c, true) ∷ map shown (lines_from 0 [] r)
unfolding one_end
one_line_lem false at held [] r p q =
    cc (ten-next at held r, shown-short at held (cc (append-nil (reverse held), q refl)), append-nil (reverse held))
one_line_lem true at held [] r p q =
    cc (other_next at 13 held (10 ∷ r) refl, ten-next at (13 ∷ held) r, shown-long at held, append-nil (reverse held))
one_line_lem k at held (b ∷ c) r p q =
    let e : reverse (b ∷ held) ++ c ≡ reverse held ++ (b ∷ c) = ap (λ (x : List ℕ). x ++ c) (reverse-cons b held) ∙ append_snoc (reverse held) b c in
    ap (map shown) (other_next at b held (c ++ (one_end k ++ r)) p.0)
    ∙ one_line_lem k at (b ∷ held) c r p.1 (λ i. ap (λ (x : List ℕ). eqb (last_byte x) 13) e ∙ q i)
    ∙ ap (λ (x : List ℕ). (x, true) ∷ map shown (lines_from 0 [] r)) e

pub either_end : {s t : List ℕ} → ButEnds s t → Alike s t
either_end (rest w f) = refl
either_end (line c x y f a b {s} {t} more) = cc (one_line_lem x 0 [] c s f a, either_end more, one_line_lem y 0 [] c t f b)

-- ---- and back

-- what the lines of a text are like: each but the last has its end
data Lined : List Line → Type 0 where
  none : Lined []
  unended : (at : ℕ) (c : List ℕ) → Free 10 c → Lined (record { offset = at; bytes = c; ending = 0 } ∷ [])
  with_end : (at : ℕ) (c : List ℕ) (x : Bool) → Free 10 c → Apart x c → {ls : List Line} → Lined ls → Lined (record { offset = at; bytes = c; ending = cond x 2 1 } ∷ ls)

free_back : (held : List ℕ) → Free 10 held → Free 10 (reverse held)
free_back [] f = tt
free_back (h ∷ hs) f = subst (Free 10) (sym (reverse-cons h hs)) (free_append 10 (reverse hs) (h ∷ []) (free_back hs f.1) (f.0, tt))

lined_closing : (at : ℕ) (held : List ℕ) → Free 10 held → {ls : List Line} → Lined ls → Lined (closing at held ∷ ls)
unfolding closing last_byte
lined_closing at [] f r = with_end at [] false tt (λ e. refl) r
lined_closing at (h ∷ hs) f {ls} r = by_bool (eqb h 13)
    (λ e. rw e (with_end at (reverse hs) true (free_back hs f.1) (λ i. absurd (false≢true (sym i))) r))
    (λ q. rw q (with_end at (reverse (h ∷ hs)) false (free_back (h ∷ hs) f) (λ i. ap (λ (b : ℕ). eqb b 13) (last-held h hs) ∙ q) r))

lined_none : (at : ℕ) (held : List ℕ) → Free 10 held → Lined (lines_from at held [])
unfolding lines_from
lined_none at [] f = none
lined_none at (h ∷ hs) f = unended at (reverse (h ∷ hs)) (free_back (h ∷ hs) f)

lined : (at : ℕ) (held s : List ℕ) → Free 10 held → Lined (lines_from at held s)
lined at held [] f = lined_none at held f
lined at held (b ∷ s) f = subst Lined (sym (lines_step at held b s)) (by_bool (eqb b 10)
    (λ q. rw q (lined_closing at held f (lined (at + suc (length held)) [] s tt))) (λ p. rw p (lined at (b ∷ held) s (p, f))))

end-text : (at : ℕ) (c : List ℕ) (x : Bool) (ls : List Line) → each line_text (record { offset = at; bytes = c; ending = cond x 2 1 } ∷ ls) ≡ c ++ (one_end x ++ each line_text ls)
unfolding each line_text end_bytes one_end
end-text at c true ls = append_assoc c (13 ∷ 10 ∷ []) (each line_text ls)
end-text at c false ls = append_assoc c (10 ∷ []) (each line_text ls)

unended_text : (at : ℕ) (c : List ℕ) → each line_text (record { offset = at; bytes = c; ending = 0 } ∷ []) ≡ c
unfolding each line_text end_bytes
unended_text at c = append-nil (c ++ []) ∙ append-nil c

by_lines : {ls ms : List Line} → Lined ls → Lined ms → map shown ls ≡ map shown ms → ButEnds (each line_text ls) (each line_text ms)
unfolding shown
by_lines none none e = unfold each in rest [] tt
by_lines none (unended at c f) e = absurd (nil≢cons e)
by_lines none (with_end at c x f a m) e = absurd (nil≢cons e)
by_lines (unended at c f) none e = absurd (cons≢nil e)
by_lines (unended at c f) (unended at₁ c₁ g) e =
    let q : c ≡ c₁ = ap (λ (p : List ℕ × Bool). p.0) (head-eq_of_cons-eq e) in
    rw (unended_text at c) (rw (unended_text at₁ c₁) (rw (← q) (rest c f)))
by_lines (unended at c f) (with_end at₁ c₁ true g b m) e = absurd (false≢true (ap (λ (p : List ℕ × Bool). p.1) (head-eq_of_cons-eq e)))
by_lines (unended at c f) (with_end at₁ c₁ false g b m) e = absurd (false≢true (ap (λ (p : List ℕ × Bool). p.1) (head-eq_of_cons-eq e)))
by_lines (with_end at c x f a l) none e = absurd (cons≢nil e)
by_lines (with_end at c true f a l) (unended at₁ c₁ g) e = absurd (false≢true (sym (ap (λ (p : List ℕ × Bool). p.1) (head-eq_of_cons-eq e))))
by_lines (with_end at c false f a l) (unended at₁ c₁ g) e = absurd (false≢true (sym (ap (λ (p : List ℕ × Bool). p.1) (head-eq_of_cons-eq e))))
by_lines (with_end at c x f a {ls} l) (with_end at₁ c₁ y g b {ls = ms} m) e =
    let q : c₁ ≡ c = sym (ap (λ (p : List ℕ × Bool). p.0) (head-eq_of_cons-eq e)) in
    rw (end-text at c x ls) (rw (end-text at₁ c₁ y ms) (rw q (line c x y f a (rw q at b) (by_lines l m (tail-eq_of_cons-eq e)))))

pub same_by_bytes : (s t : List ℕ) → Alike s t → ButEnds s t
same_by_bytes s t e = rw (← lines-text 0 [] s) (rw (← lines-text 0 [] t) (by_lines (lined 0 [] s tt) (lined 0 [] t tt) e))

-- ---- the other way round

same-words : (ls ms : List Line) → map shown ls ≡ map shown ms → first_word ls ≡ first_word ms
unfolding first_word shown
same-words [] [] e = refl
same-words [] (m ∷ ms) e = absurd (nil≢cons e)
same-words (l ∷ ls) [] e = absurd (cons≢nil e)
same-words (l ∷ ls) (m ∷ ms) e = ap (λ (p : List ℕ × Bool). get_or (fields p.0) 0 []) (head-eq_of_cons-eq e)

-- ---- what is not alike

-- `13 13 10` and `13 10`: a line of the one byte 13, and an empty line
pub thirteen-apart : Alike (13 ∷ 13 ∷ 10 ∷ []) (13 ∷ 10 ∷ []) → ⊥
unfolding lines_from closing shown
thirteen-apart e = cons≢nil (ap (λ (x : List ℕ × Bool). x.0) (head-eq_of_cons-eq e))

-- a line with its end, and the same without
pub end-apart : Alike (49 ∷ 10 ∷ []) (49 ∷ []) → ⊥
unfolding lines_from closing shown
end-apart e = false≢true (sym (ap (λ (x : List ℕ × Bool). x.1) (head-eq_of_cons-eq e)))
