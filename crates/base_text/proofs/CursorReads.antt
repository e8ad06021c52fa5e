-- Reading from field to field is reading the line:
--     lines_at_lem      the lines of a text from a place on are the line there and those behind it
--     fields_at     the line there has k + 1 fields just where a space stands behind each of the first k and a line's end behind the last
--     past-at       and then the place past them is the place past the line
--     field_ten     a line of one field that byte 10 alone ends
use Rattle.base.specs.{ℕ, zero, suc, ◌+◌, ◌≤◌, ◌<◌, zero-add, arith, ◌≡◌, refl, sym, ap, ◌∙◌, subst, Bool, true, false, cond, ◌&&◌, Option}
use Rattle.base.specs.{None, Some, List, [], ◌∷◌, ◌++◌, reverse, append-nil, reverse-cons, eqb, ltb, eqb-suc-suc, length, drop, get_or}
use Rattle.base.specs.{length-append, length-drop, drop_of_length-le, append_snoc, get_or-append_seam, drop-append-add, drop-drop, drop_at}
use Rattle.base.specs.{get_or-drop, drop-cons, ne_eqb, eqb-true, lt-ltb, le-ltb}
use Rattle.model.specs.{and_then, only, onto, split, Line, ended, closing, lines_from, fields}
use Rattle.base_text.specs.{pick_n, head_is, end_of, stops, word_of, word_at, end_at, is_byte, line_of, ending_of, ended_of, line_at, past_line}
use Rattle.base_text.specs.{words_at, seps_at, after_at}
use Rattle.base_text.proofs.Bytes.{and_left, and_right, and-false}
use Rattle.base_text.proofs.TextWords.{word_stop}

-- ---- lines

-- the lines behind the one that l begins, of which k bytes came before
rest : ℕ → ℕ → List ℕ → List Line
rest at k l = cond (ended_of l) (lines_from (at + (k + length (line_of l) + ending_of l)) [] (drop (length (line_of l) + ending_of l) l)) []

abbrev pick_lines : Bool → List Line → List Line → List Line
pick_lines true a b = a
pick_lines false a b = b

-- one byte of a text
lines_step : (at : ℕ) (held : List ℕ) (b : ℕ) (l : List ℕ)
    → lines_from at held (b ∷ l) ≡ pick_lines (eqb b 10) (closing at held ∷ lines_from (at + suc (length held)) [] l) (lines_from at (b ∷ held) l)
unfolding lines_from closing
lines_step at [] b l = go (eqb b 10) (closing at [] ∷ lines_from (at + 1) [] l) (lines_from at (b ∷ []) l)
  where
    go : (t : Bool) (x y : List Line) → elim t [ true ↦ x | false ↦ y ] ≡ pick_lines t x y
    go true x y = refl
    go false x y = refl
lines_step at (h ∷ hs) b l = go (eqb b 10) (closing at (h ∷ hs) ∷ lines_from (at + suc (length (h ∷ hs))) [] l) (lines_from at (b ∷ h ∷ hs) l)
  where
    go : (t : Bool) (x y : List Line) → elim t [ true ↦ x | false ↦ y ] ≡ pick_lines t x y
    go true x y = refl
    go false x y = refl

-- a line and those behind it, of which k bytes came before
abbrev whole : ℕ → ℕ → List ℕ → List ℕ → List Line
whole at k held l = record { offset = at; bytes = held ++ line_of l; ending = ending_of l } ∷ rest at k l

pub line_stop : (l : List ℕ) → stops l ≡ true → line_of l ≡ []
unfolding line_of
line_stop [] e = refl
line_stop (b ∷ l) e = rw e

nothing_stops : stops [] ≡ true → ⊥
unfolding end_of
nothing_stops e = let z : ◌≡◌ {A = ℕ} 0 1 = cc in omega arith

pub ending_stop : (l : List ℕ) → stops l ≡ true → ending_of l ≡ end_of l
unfolding ending_of
ending_stop [] e = absurd (nothing_stops e)
ending_stop (b ∷ l) e = rw e

whole_stop : (at k : ℕ) (held l : List ℕ) → stops l ≡ true
    → whole at k held l ≡ record { offset = at; bytes = held; ending = end_of l } ∷ lines_from (at + (k + end_of l)) [] (drop (end_of l) l)
unfolding rest
whole_stop at k held l e =
    let q : k + 0 + end_of l ≡ k + end_of l = omega arith in
    rw (line_stop l e, ending_stop l e, e, append-nil held, q, zero-add (end_of l))

whole-more : (at k b : ℕ) (held l : List ℕ) → stops (b ∷ l) ≡ false → whole at k held (b ∷ l) ≡ whole at (suc k) (held ++ (b ∷ [])) l
unfolding line_of ending_of rest
whole-more at k b held l e =
    let q : k + suc (length (line_of l)) + ending_of l ≡ suc k + length (line_of l) + ending_of l = omega arith in
    let r : suc (length (line_of l)) + ending_of l ≡ suc (length (line_of l) + ending_of l) = omega arith in
    rw (e, append_snoc held b (line_of l), q, r)

whole-none : (at k : ℕ) (held : List ℕ) → whole at k held [] ≡ record { offset = at; bytes = held; ending = 0 } ∷ []
unfolding line_of ending_of rest
whole-none at k held = rw (append-nil held)

-- where a line's end stands, by its first bytes
end_short : (l : List ℕ) → end_of (10 ∷ l) ≡ 1
unfolding end_of
end_short l = refl

end-long : (l : List ℕ) → end_of (13 ∷ 10 ∷ l) ≡ 2
unfolding end_of
end-long l = refl

end-last : (b : ℕ) → eqb b 10 ≡ false → end_of (b ∷ []) ≡ 0
unfolding end_of
end-last b e = rw (e, and-false)

end_other : (b x : ℕ) (l : List ℕ) → eqb b 10 ≡ false → eqb x 10 ≡ false → end_of (b ∷ x ∷ l) ≡ 0
unfolding end_of
end_other b x l e f = rw (e, f, and-false)

end-alone : (b : ℕ) (l : List ℕ) → eqb b 10 ≡ false → eqb b 13 ≡ false → end_of (b ∷ l) ≡ 0
unfolding end_of
end-alone b l e f = rw (e, f)

no_end : (l : List ℕ) → end_of l ≡ 0 → stops l ≡ false
no_end l e = ap (ltb 0) e

held-last : (at h : ℕ) (hs : List ℕ) → lines_from at (h ∷ hs) [] ≡ record { offset = at; bytes = reverse (h ∷ hs); ending = 0 } ∷ []
unfolding lines_from
held-last at h hs = refl

-- byte 10 behind the byte h: the end is of one byte, or of two where h is 13
held-ten : (at h : ℕ) (hs l : List ℕ) → eqb h 10 ≡ false
    → closing at (h ∷ hs) ∷ lines_from (at + suc (length (h ∷ hs))) [] l ≡ whole at (length hs) (reverse hs) (h ∷ 10 ∷ l)
unfolding closing
held-ten at h hs l e = go (eqb h 13) refl
  where
    two : at + (length hs + 2) ≡ at + suc (suc (length hs))
    two = omega arith

    one : at + (suc (length hs) + 1) ≡ at + suc (suc (length hs))
    one = omega arith

    go : (t : Bool) → eqb h 13 ≡ t
        → cond t (record { offset = at; bytes = reverse hs; ending = 2 }) (record { offset = at; bytes = reverse (h ∷ hs); ending = 1 }) ∷ lines_from (at + suc (suc (length hs))) [] l
        ≡ whole at (length hs) (reverse hs) (h ∷ 10 ∷ l)
    go true f =
        subst (λ (x : ℕ). record { offset = at; bytes = reverse hs; ending = 2 } ∷ lines_from (at + suc (suc (length hs))) [] l ≡ whole at (length hs) (reverse hs) (x ∷ 10 ∷ l)) (sym (eqb-true h 13 f))
        (sym (whole_stop at (length hs) (reverse hs) (13 ∷ 10 ∷ l) (ap (ltb 0) (end-long l)) ∙ rw (end-long l, two)))
    go false f =
        rw (reverse-cons h hs)
        (sym (whole-more at (length hs) h (reverse hs) (10 ∷ l) (no_end (h ∷ 10 ∷ l) (end-alone h (10 ∷ l) e f))
        ∙ whole_stop at (suc (length hs)) (reverse hs ++ (h ∷ [])) (10 ∷ l) (ap (ltb 0) (end_short l))
        ∙ rw (end_short l, one)))

-- the last byte so far is still to be validated: it may belong to the line's end
held_on : (at h : ℕ) (hs l : List ℕ) → eqb h 10 ≡ false → lines_from at (h ∷ hs) l ≡ whole at (length hs) (reverse hs) (h ∷ l)
held_on at h hs [] e =
    held-last at h hs
    ∙ sym (whole-more at (length hs) h (reverse hs) [] (no_end (h ∷ []) (end-last h e))
    ∙ whole-none at (suc (length hs)) (reverse hs ++ (h ∷ []))
    ∙ ap (λ (x : List ℕ). record { offset = at; bytes = x; ending = 0 } ∷ []) (sym (reverse-cons h hs)))
held_on at h hs (b ∷ l) e = lines_step at (h ∷ hs) b l ∙ go (eqb b 10) refl (held_on at b (h ∷ hs) l)
  where
    go : (t : Bool) → eqb b 10 ≡ t → (eqb b 10 ≡ false → lines_from at (b ∷ h ∷ hs) l ≡ whole at (length (h ∷ hs)) (reverse (h ∷ hs)) (b ∷ l))
        → pick_lines t (closing at (h ∷ hs) ∷ lines_from (at + suc (length (h ∷ hs))) [] l) (lines_from at (b ∷ h ∷ hs) l)
        ≡ whole at (length hs) (reverse hs) (h ∷ b ∷ l)
    go true f more =
        held-ten at h hs l e ∙ ap (λ (x : ℕ). whole at (length hs) (reverse hs) (h ∷ x ∷ l)) (sym (eqb-true b 10 f))
    go false f more =
        more f
        ∙ ap (λ (x : List ℕ). whole at (suc (length hs)) x (b ∷ l)) (reverse-cons h hs)
        ∙ sym (whole-more at (length hs) h (reverse hs) (b ∷ l) (no_end (h ∷ b ∷ l) (end_other h b l e f)))

-- an empty line
ten-first : (at : ℕ) (l : List ℕ) → closing at [] ∷ lines_from (at + 1) [] l ≡ whole at 0 [] (10 ∷ l)
unfolding closing
ten-first at l = sym (whole_stop at 0 [] (10 ∷ l) (ap (ltb 0) (end_short l)) ∙ rw (end_short l))

lines-on : (at b : ℕ) (l : List ℕ) → lines_from at [] (b ∷ l) ≡ whole at 0 [] (b ∷ l)
lines-on at b l = lines_step at [] b l ∙ go (eqb b 10) refl
  where
    go : (t : Bool) → eqb b 10 ≡ t → pick_lines t (closing at [] ∷ lines_from (at + 1) [] l) (lines_from at (b ∷ []) l) ≡ whole at 0 [] (b ∷ l)
    go true e = ten-first at l ∙ ap (λ (x : ℕ). whole at 0 [] (x ∷ l)) (sym (eqb-true b 10 e))
    go false e = held_on at b [] l e

behind-is : (s : List ℕ) (at : ℕ) → whole at 0 [] (drop at s) ≡ record { offset = at; bytes = line_of (drop at s); ending = ending_of (drop at s) }
    ∷ cond (ended_of (drop at s)) (lines_from (at + (length (line_of (drop at s)) + ending_of (drop at s))) [] (drop (at + (length (line_of (drop at s)) + ending_of (drop at s))) s)) []
unfolding rest
behind-is s at = rw (drop-drop (length (line_of (drop at s)) + ending_of (drop at s)) at s, zero-add (length (line_of (drop at s))))

-- no line begins at the end
pub lines_none : (s : List ℕ) (at : ℕ) → length s ≤ at → lines_from at [] (drop at s) ≡ []
unfolding lines_from
lines_none s at h = rw (drop_of_length-le s h)

-- the line at a place, and those behind it
pub lines_at_lem : (s : List ℕ) (at : ℕ) → at < length s
    → lines_from at [] (drop at s) ≡ line_at s at ∷ cond (ended (line_at s at)) (lines_from (past_line s at) [] (drop (past_line s at) s)) []
unfolding line_at past_line
lines_at_lem s at h = ap (lines_from at []) d ∙ lines-on at (get_or s at 0) (drop (suc at) s) ∙ ap (whole at 0 []) (sym d) ∙ behind-is s at
  where
    d : drop at s ≡ get_or s at 0 ∷ drop (suc at) s
    d = drop-cons s at 0 h

-- ---- fields

-- what stands behind the field that l begins with: nothing, a space, or a line's end
data View (l : List ℕ) : Type 0 where
  at_end : length l ≡ length (word_of l) → ending_of l ≡ 0 → View l
  at_space : (r : List ℕ) → l ≡ word_of l ++ 32 ∷ r → fields (line_of l) ≡ word_of l ∷ fields (line_of r) → ending_of l ≡ ending_of r
      → length (line_of l) ≡ length (word_of l) + suc (length (line_of r)) → View l
  at_line : (x : ℕ) (r : List ℕ) → stops (x ∷ r) ≡ true → l ≡ word_of l ++ x ∷ r → fields (line_of l) ≡ word_of l ∷ [] → ending_of l ≡ end_of (x ∷ r)
      → length (line_of l) ≡ length (word_of l) → View l

view_space : (l : List ℕ) → View (32 ∷ l)
unfolding end_of word_of line_of ending_of fields split
view_space l = at_space l refl refl refl (sym (zero-add (suc (length (line_of l)))))

view_line : (b : ℕ) (l : List ℕ) → stops (b ∷ l) ≡ true → View (b ∷ l)
unfolding fields
view_line b l e =
    let w = word_stop (b ∷ l) e in
    let z = line_stop (b ∷ l) e in
    at_line b l e (ap (λ (x : List ℕ). x ++ b ∷ l) (sym w)) (ap fields z ∙ ap (λ (x : List ℕ). x ∷ []) (sym w)) (ending_stop (b ∷ l) e) (ap length z ∙ ap length (sym w))

-- any other byte goes onto the field
module _ (b : ℕ) (l : List ℕ) (not_space : eqb b 32 ≡ false) (not_line : stops (b ∷ l) ≡ false) where
  word_on : word_of (b ∷ l) ≡ b ∷ word_of l
  unfolding word_of
  word_on = rw (not_space, not_line)

  line_on : line_of (b ∷ l) ≡ b ∷ line_of l
  unfolding line_of
  line_on = rw not_line

  ending-on : ending_of (b ∷ l) ≡ ending_of l
  unfolding ending_of
  ending-on = rw not_line

  fields-on : (w : List ℕ) (ws : List (List ℕ)) → fields (line_of l) ≡ w ∷ ws → fields (line_of (b ∷ l)) ≡ (b ∷ w) ∷ ws
  unfolding fields split onto
  fields-on w ws e = rw (line_on, not_space, e)

  view_on : View l → View (b ∷ l)
  view_on (at_end e f) = at_end (ap suc e ∙ ap length (sym word_on)) (ending-on ∙ f)
  view_on (at_space r own parts ends long) =
      at_space r (ap (λ (x : List ℕ). b ∷ x) own ∙ ap (λ (x : List ℕ). x ++ 32 ∷ r) (sym word_on))
      (fields-on (word_of l) (fields (line_of r)) parts ∙ ap (λ (x : List ℕ). x ∷ fields (line_of r)) (sym word_on))
      (ending-on ∙ ends)
      (omega (arith, ap length line_on, ap length word_on))
  view_on (at_line x r stop own parts ends long) =
      at_line x r stop (ap (λ (y : List ℕ). b ∷ y) own ∙ ap (λ (y : List ℕ). y ++ x ∷ r) (sym word_on))
      (fields-on (word_of l) [] parts ∙ ap (λ (x : List ℕ). x ∷ []) (sym word_on))
      (ending-on ∙ ends)
      (ap length line_on ∙ ap suc long ∙ ap length (sym word_on))

view_none : View []
unfolding word_of ending_of
view_none = at_end refl refl

view : (l : List ℕ) → View l
view [] = view_none
view (b ∷ l) = go (eqb b 32) (stops (b ∷ l)) refl refl (view l)
  where
    go : (t u : Bool) → eqb b 32 ≡ t → stops (b ∷ l) ≡ u → View l → View (b ∷ l)
    go true u e f v = subst (λ (x : ℕ). View (x ∷ l)) (sym (eqb-true b 32 e)) (view_space l)
    go false true e f v = view_line b l f
    go false false e f v = view_on b l e f v

-- ---- the same by places

-- the byte x behind the field at a place, and what stands behind it
module _ (s : List ℕ) (at x : ℕ) (r : List ℕ) (own : drop at s ≡ word_at s at ++ x ∷ r) where
  in_text_lem : end_at s at < length s
  unfolding end_at
  in_text_lem = omega (arith, length-drop at s, ap length own ∙ length-append (word_at s at) (x ∷ r))

  byte_is : get_or s (end_at s at) 0 ≡ x
  unfolding end_at
  byte_is = sym (get_or-drop at s (length (word_at s at)) 0) ∙ ap (λ (l : List ℕ). get_or l (length (word_at s at)) 0) own ∙ get_or-append_seam (word_at s at) x r 0

  behind_byte : drop (end_at s at + 1) s ≡ r
  unfolding end_at
  behind_byte =
      let e : at + length (word_at s at) + 1 ≡ at + (length (word_at s at) + 1) = omega arith in
      ap (λ (k : ℕ). drop k s) e ∙ sym (drop-drop (length (word_at s at) + 1) at s) ∙ ap (drop (length (word_at s at) + 1)) own ∙ drop-append-add (word_at s at) (x ∷ r) 1

  from_byte : drop (end_at s at) s ≡ x ∷ r
  unfolding end_at
  from_byte = sym (drop-drop (length (word_at s at)) at s) ∙ ap (drop (length (word_at s at))) own ∙ drop_at (word_at s at) (x ∷ r) (length (word_at s at)) refl

  byte_test : (y : ℕ) → is_byte s (end_at s at) y ≡ eqb x y
  byte_test y = rw (lt-ltb (end_at s at) (length s) in_text_lem, byte_is)

end_is : (s : List ℕ) (at : ℕ) → end_at s at ≡ at + length (word_of (drop at s))
unfolding end_at word_at
end_is s at = refl

no_byte_lem : (s : List ℕ) (at : ℕ) → length (drop at s) ≡ length (word_at s at) → (y : ℕ) → is_byte s (end_at s at) y ≡ false
unfolding end_at
no_byte_lem s at e y = let h : length s ≤ at + length (word_at s at) = omega (arith, length-drop at s) in rw (le-ltb (at + length (word_at s at)) (length s) h)

-- no line's end behind the field, at the text's end and before a space
end_out : (s : List ℕ) (at : ℕ) → length (drop at s) ≡ length (word_at s at) → end_of (drop (end_at s at) s) ≡ 0
unfolding end_at end_of
end_out s at e = let h : length s ≤ at + length (word_at s at) = omega (arith, length-drop at s) in rw (drop_of_length-le s h)

end-space : (s : List ℕ) (at : ℕ) (r : List ℕ) → drop at s ≡ word_at s at ++ 32 ∷ r → end_of (drop (end_at s at) s) ≡ 0
unfolding end_of
end-space s at r own = rw (from_byte s at 32 r own)

-- a line's end is no space
not-space : (x : ℕ) (r : List ℕ) → stops (x ∷ r) ≡ true → eqb x 32 ≡ false
not-space x r e = go (eqb x 32) refl
  where
    space_goes : stops (32 ∷ r) ≡ false
    space_goes = no_end (32 ∷ r) (end-alone 32 r refl refl)

    go : (t : Bool) → eqb x 32 ≡ t → t ≡ false
    go true f = let z : ◌≡◌ {A = Bool} true false = sym e ∙ ap (λ (y : ℕ). stops (y ∷ r)) (eqb-true x 32 f) ∙ space_goes in z
    go false f = refl

-- the fields of the line at a place, where the line has its end
unfoldable pub line_fields : List ℕ → ℕ → Option (List (List ℕ))
line_fields s at = only (ended (line_at s at)) (fields (line_at s at).bytes)

-- those of a list that has n
unfoldable pub of_length : ℕ → List (List ℕ) → Option (List (List ℕ))
of_length n ws = only (eqb (length ws) n) ws

split-some : (t : Bool) (b : ℕ) (ws : List (List ℕ)) → 0 < length (split t b ws)
unfolding split onto
split-some true b ws = omega arith
split-some false b [] = omega arith
split-some false b (w ∷ ws) = omega arith

some_field : (l : List ℕ) → 0 < length (fields l)
unfolding fields
some_field [] = omega arith
some_field (b ∷ l) = split-some (eqb b 32) b (fields l)

-- nothing is found where what is there does not pass
none_then : (e : Bool) (ws : List (List ℕ)) (n : ℕ) → eqb (length ws) n ≡ false → and_then (only e ws) (of_length n) ≡ None
unfolding and_then only of_length
none_then true ws n h = rw h
none_then false ws n h = refl

-- one field more
cons_then : (e t : Bool) (w : List ℕ) (ws vs : List (List ℕ)) (n : ℕ) → and_then (only e ws) (of_length n) ≡ only t vs
    → and_then (only e (w ∷ ws)) (of_length (suc n)) ≡ only t (w ∷ vs)
unfolding and_then only of_length
cons_then false false w ws vs n h = refl
cons_then false true w ws vs n h = let z : ◌≡◌ {A = ℕ} 0 1 = cc in absurd (omega arith)
cons_then true t w ws vs n h = rw (eqb-suc-suc (length ws) n) (go (eqb (length ws) n) t h)
  where
    go : (u v : Bool) → only u ws ≡ only v vs → only u (w ∷ ws) ≡ only v (w ∷ vs)
    go true true k = let q : ws ≡ vs = cc in ap (λ (x : List (List ℕ)). Some (w ∷ x)) q
    go false false k = refl
    go true false k = let z : ◌≡◌ {A = ℕ} 0 1 = cc in absurd (omega arith)
    go false true k = let z : ◌≡◌ {A = ℕ} 0 1 = cc in absurd (omega arith)

last_field : (s : List ℕ) (at : ℕ) → View (drop at s) → and_then (line_fields s at) (of_length 1) ≡ only (seps_at 0 s at) (words_at 0 s at)
unfolding line_fields of_length line_at seps_at words_at and_then only word_at
last_field s at (at_end e f) = rw (f, end_out s at e)
last_field s at (at_space r own parts ends long) =
    let many : eqb (length (fields (line_of (drop at s)))) 1 ≡ false =
    ne_eqb (length (fields (line_of (drop at s)))) 1 (λ q. omega (arith, ap length parts, some_field (line_of r))) in
    none_then (ended_of (drop at s)) (fields (line_of (drop at s))) 1 many ∙ rw (end-space s at r own)
last_field s at (at_line x r stop own parts ends long) = rw (ends, parts, from_byte s at x r own, stop)

inner_field : (k : ℕ) (s : List ℕ) (at : ℕ) → View (drop at s)
    → and_then (line_fields s (end_at s at + 1)) (of_length (suc k)) ≡ only (seps_at k s (end_at s at + 1)) (words_at k s (end_at s at + 1))
    → and_then (line_fields s at) (of_length (suc (suc k))) ≡ only (seps_at (suc k) s at) (words_at (suc k) s at)
unfolding line_fields line_at seps_at words_at word_at and_then only
inner_field k s at (at_end e f) h = rw (f, no_byte_lem s at e 32)
inner_field k s at (at_space r own parts ends long) h =
    let d : drop (end_at s at + 1) s ≡ r = behind_byte s at 32 r own in
    rw (ends, parts, byte_test s at 32 r own 32)
    (cons_then (ended_of r) (seps_at k s (end_at s at + 1)) (word_of (drop at s)) (fields (line_of r)) (words_at k s (end_at s at + 1)) (suc k) (rw d at h))
inner_field k s at (at_line x r stop own parts ends long) h =
    let one : eqb (length (fields (line_of (drop at s)))) (suc (suc k)) ≡ false =
    ne_eqb (length (fields (line_of (drop at s)))) (suc (suc k)) (λ q. omega (arith, ap length parts)) in
    none_then (ended_of (drop at s)) (fields (line_of (drop at s))) (suc (suc k)) one ∙ rw (byte_test s at x r own 32, not-space x r stop)

pub fields_at : (k : ℕ) (s : List ℕ) (at : ℕ) → and_then (line_fields s at) (of_length (suc k)) ≡ only (seps_at k s at) (words_at k s at)
fields_at zero s at = last_field s at (view (drop at s))
fields_at (suc k) s at = inner_field k s at (view (drop at s)) (fields_at k s (end_at s at + 1))

-- a line of one field that byte 10 alone ends, for a reader that takes no other end
ten-alone : (x : ℕ) (r : List ℕ) → eqb (end_of (x ∷ r)) 1 ≡ eqb x 10
unfolding end_of
ten-alone x r = go (eqb x 10) (eqb x 13 && head_is r 10)
  where
    go : (t u : Bool) → eqb (pick_n t 1 (pick_n u 2 0)) 1 ≡ t
    go true u = refl
    go false true = refl
    go false false = refl

ten_field : (s : List ℕ) (at : ℕ) → View (drop at s)
    → and_then (only (eqb (line_at s at).ending 1) (fields (line_at s at).bytes)) (of_length 1) ≡ only (is_byte s (end_at s at) 10) (words_at 0 s at)
unfolding of_length line_at words_at and_then only word_at
ten_field s at (at_end e f) = rw (f, no_byte_lem s at e 10)
ten_field s at (at_space r own parts ends long) =
    let many : eqb (length (fields (line_of (drop at s)))) 1 ≡ false =
    ne_eqb (length (fields (line_of (drop at s)))) 1 (λ q. omega (arith, ap length parts, some_field (line_of r))) in
    none_then (eqb (ending_of (drop at s)) 1) (fields (line_of (drop at s))) 1 many ∙ rw (byte_test s at 32 r own 10)
ten_field s at (at_line x r stop own parts ends long) =
    rw (ends, parts, ten-alone x r, byte_test s at x r own 10) (go (eqb x 10))
  where
    go : (t : Bool) → and_then (only t (word_of (drop at s) ∷ [])) (of_length 1) ≡ only t (word_of (drop at s) ∷ [])
    go true = refl
    go false = refl

pub field_ten : (s : List ℕ) (at : ℕ)
    → and_then (only (eqb (line_at s at).ending 1) (fields (line_at s at).bytes)) (of_length 1) ≡ only (is_byte s (end_at s at) 10) (words_at 0 s at)
field_ten s at = ten_field s at (view (drop at s))

never : {X : Type 0} {b : Bool} → b ≡ false → b ≡ true → X
never {b = b} e f = let z : ◌≡◌ {A = ℕ} 0 1 = cc in absurd (omega arith)

last-past : (s : List ℕ) (at : ℕ) → View (drop at s) → stops (drop (end_at s at) s) ≡ true
    → (ended_of (drop at s) ≡ true) × (end_at s at + end_of (drop (end_at s at) s) ≡ at + (length (line_of (drop at s)) + ending_of (drop at s)))
unfolding word_at
last-past s at (at_end e f) h = never (no_end (drop (end_at s at) s) (end_out s at e)) h
last-past s at (at_space r own parts ends long) h = never (no_end (drop (end_at s at) s) (end-space s at r own)) h
last-past s at (at_line x r stop own parts ends long) h =
    let q : end_of (drop (end_at s at) s) ≡ end_of (x ∷ r) = ap end_of (from_byte s at x r own) in
    (ap (ltb 0) ends ∙ stop, omega (arith, end_is s at))

inner-past : (k : ℕ) (s : List ℕ) (at : ℕ) → View (drop at s) → (is_byte s (end_at s at) 32 && seps_at k s (end_at s at + 1)) ≡ true
    → (seps_at k s (end_at s at + 1) ≡ true
    → (ended_of (drop (end_at s at + 1) s) ≡ true) × (after_at k s (end_at s at + 1) ≡ end_at s at + 1 + (length (line_of (drop (end_at s at + 1) s)) + ending_of (drop (end_at s at + 1) s))))
    → (ended_of (drop at s) ≡ true) × (after_at k s (end_at s at + 1) ≡ at + (length (line_of (drop at s)) + ending_of (drop at s)))
unfolding word_at
inner-past k s at (at_end e f) h more = never (no_byte_lem s at e 32) (and_left (is_byte s (end_at s at) 32) (seps_at k s (end_at s at + 1)) h)
inner-past k s at (at_space r own parts ends long) h more =
    let d : drop (end_at s at + 1) s ≡ r = behind_byte s at 32 r own in
    let m = more (and_right (is_byte s (end_at s at) 32) (seps_at k s (end_at s at + 1)) h) in
    let q : length (line_of (drop (end_at s at + 1) s)) ≡ length (line_of r) = ap (λ (l : List ℕ). length (line_of l)) d in
    let u : ending_of (drop at s) ≡ ending_of (drop (end_at s at + 1) s) = ends ∙ ap ending_of (sym d) in
    (ap (ltb 0) u ∙ m.0, m.1 ∙ omega (arith, end_is s at))
inner-past k s at (at_line x r stop own parts ends long) h more = never (byte_test s at x r own 32 ∙ not-space x r stop) (and_left (is_byte s (end_at s at) 32) (seps_at k s (end_at s at + 1)) h)

pub past-at : (k : ℕ) (s : List ℕ) (at : ℕ) → seps_at k s at ≡ true → (ended (line_at s at) ≡ true) × (after_at k s at ≡ past_line s at)
unfolding seps_at after_at line_at past_line
past-at zero s at e = last-past s at (view (drop at s)) e
past-at (suc k) s at e = inner-past k s at (view (drop at s)) e (past-at k s (end_at s at + 1))
