-- The lines of a genlib text over its bytes: a text that is not empty begins with one, `lines_from` finds it, and GATE is the first word of its contents exactly
-- where it is that of its bytes, and of the text from there on.
use Rattle.base.specs.{ℕ, suc, ◌+◌, arith, ◌≡◌, refl, sym, ◌∙◌, ap, ap₂, subst, ◌⊎◌, inl, inr, ◌↔◌, ⊎_elim, Bool, true, false, cond, List}
use Rattle.base.specs.{[], ◌∷◌, ◌++◌, reverse, reverse-cons, append_assoc, append-nil, cons≢nil, nil≢cons, head-eq_of_cons-eq}
use Rattle.base.specs.{tail-eq_of_cons-eq, Memᴰ, Memᴰ-head, Memᴰ-tail, Memᴰ-not-nil, Memᴰ-append_cases, T, eqb}
use Rattle.base.specs.{T_not, not_T, length, length-append, eqb_yes, yes_eqb}
use Rattle.model.specs.{Line, text, ended, closing, lines_from, is_name_byte}
use Rattle.promises.specs.{NameByte, End, ten, both, LineOf}
use Rattle.theory_graph.proofs.{is_false}
use Rattle.theory_text.proofs.{Free, lines_step, held_back, held-length, held_with}
use Rattle.theory_refusals.proofs.{byte_back, on, held-lines, first-split, ended-lines}
use Rattle.promises.specs.GateForms.{Blank, space, tab, Stops}
use Rattle.promises.specs.GateRefusals.{Plain, Opens, ALine, full, last}

-- ---- the first line of bytes

-- a byte in front of a line
longer : (b : ℕ) {w s : List ℕ} → (¬ (b ≡ 10)) → ALine w s → ALine (b ∷ w) s
longer b n (full {w} p) = full {w = b ∷ w} plain
  where
    plain : Plain (b ∷ w)
    plain x (Memᴰ-head e) q = n (sym e ∙ q)
    plain x (Memᴰ-tail m) q = p x m q
longer b n (last {w} e p) = last (λ q. cons≢nil q) plain
  where
    plain : Plain (b ∷ w)
    plain x (Memᴰ-head q) r = n (sym q ∙ r)
    plain x (Memᴰ-tail m) r = p x m r

-- a byte of its own line, or with the line behind it
beside : (b : ℕ) (t w s : List ℕ) → t ≡ w ++ s → ALine (b ∷ w) s ⊎ (b ≡ 10) → (w : List ℕ) × (s : List ℕ) × (b ∷ t ≡ w ++ s) × ALine w s
beside b t w s e (inl k) = (b ∷ w, s, ap (λ (x : List ℕ). b ∷ x) e, k)
beside b t w s e (inr k) = (b ∷ [], t, refl, subst (λ (x : ℕ). ALine (x ∷ []) t) (sym k) (full {w = []} (λ x m. absurd (Memᴰ-not-nil m))))

pub first-line : (b : ℕ) (t : List ℕ) → (w : List ℕ) × (s : List ℕ) × (b ∷ t ≡ w ++ s) × ALine w s
first-line b [] = beside b [] [] [] refl (on (eqb b 10) (λ h. inr (eqb_yes h)) (λ h. inl (last (λ q. cons≢nil q) (alone (λ e. T_not (eqb b 10) h (yes_eqb e))))))
  where
    alone : (¬ (b ≡ 10)) → Plain (b ∷ [])
    alone n x (Memᴰ-head e) q = n (sym e ∙ q)
    alone n x (Memᴰ-tail m) q = absurd (Memᴰ-not-nil m)
first-line b (c ∷ t) = beside b (c ∷ t) (first-line c t).0 (first-line c t).1 (first-line c t).2
    (on (eqb b 10) (λ h. inr (eqb_yes h)) (λ h. inl (longer b (λ e. T_not (eqb b 10) h (yes_eqb e)) (first-line c t).3)))

plain-free : (w : List ℕ) → Plain w → Free 10 w
plain-free [] p = tt
plain-free (b ∷ w) p = (is_false (eqb b 10) (not_T (eqb b 10) (λ t. p b (Memᴰ-head refl) (eqb_yes t))), plain-free w (λ x m. p x (Memᴰ-tail m)))

-- ---- where a line's contents end: at byte 10 or 13, or with the text

pub data Ender : List ℕ → Type 0 where
  nothing : Ender []
  stop : {b : ℕ} {s : List ℕ} → (b ≡ 10) ⊎ (b ≡ 13) → Ender (b ∷ s)

end_ender : (e s : List ℕ) → End false e → Ender (e ++ s)
end_ender e s ten = stop (inl refl)
end_ender e s both = stop (inr refl)

no_name : (b : ℕ) → (b ≡ 10) ⊎ (b ≡ 13) → ¬ NameByte b
unfolding is_name_byte
no_name b (inl e) n = subst (λ (x : ℕ). T (is_name_byte x)) e (byte_back b n)
no_name b (inr e) n = subst (λ (x : ℕ). T (is_name_byte x)) e (byte_back b n)

stops-on : (q e : List ℕ) → Ender e → Stops NameByte q → Stops NameByte (q ++ e)
stops-on [] e nothing h = tt
stops-on [] e (stop {b} f) h = no_name b f
stops-on (b ∷ q) e f h = h

stops_off : (q e : List ℕ) → Stops NameByte (q ++ e) → Stops NameByte q
stops_off [] e h = tt
stops_off (b ∷ q) e h = h

opens_on : (s e : List ℕ) → Ender e → Opens s → Opens (s ++ e)
opens_on s e f o = record {
  blanks = o.blanks;
  behind = o.behind ++ e;
  is_all = ap (λ (x : List ℕ). x ++ e) o.is_all ∙ append_assoc o.blanks (text "GATE" ++ o.behind) e ∙ ap (λ (x : List ℕ). o.blanks ++ x) (append_assoc (text "GATE") o.behind e);
  are_blanks = o.are_blanks;
  ends = stops-on o.behind e f o.ends;
}

-- bytes of which none ends a line stand before the end
front : (p s e behind : List ℕ) → Ender e → ((b : ℕ) → Memᴰ b p → ¬ ((b ≡ 10) ⊎ (b ≡ 13))) → s ++ e ≡ p ++ behind → (q : List ℕ) × (s ≡ p ++ q) × (q ++ e ≡ behind)
front [] s e behind f n h = (s, refl, h)
front (b ∷ p) [] e behind nothing n h = absurd (nil≢cons h)
front (b ∷ p) [] e behind (stop {b = c} k) n h = absurd (n b (Memᴰ-head refl) (subst (λ (x : ℕ). (x ≡ 10) ⊎ (x ≡ 13)) (head-eq_of_cons-eq h) k))
front (b ∷ p) (c ∷ s) e behind f n h =
    let r = front p s e behind f (λ x m. n x (Memᴰ-tail m)) (tail-eq_of_cons-eq h) in
    (r.0, ap₂ (λ (x : ℕ) (y : List ℕ). x ∷ y) (head-eq_of_cons-eq h) r.1, r.2)

blank-within : (b : ℕ) → Blank b → ¬ ((b ≡ 10) ⊎ (b ≡ 13))
blank-within b space (inl e) = omega arith
blank-within b space (inr e) = omega arith
blank-within b tab (inl e) = omega arith
blank-within b tab (inr e) = omega arith

gate-within : (b : ℕ) → Memᴰ b (text "GATE") → ¬ ((b ≡ 10) ⊎ (b ≡ 13))
unfolding text
gate-within b (Memᴰ-head e) (inl q) = omega arith
gate-within b (Memᴰ-head e) (inr q) = omega arith
gate-within b (Memᴰ-tail (Memᴰ-head e)) (inl q) = omega arith
gate-within b (Memᴰ-tail (Memᴰ-head e)) (inr q) = omega arith
gate-within b (Memᴰ-tail (Memᴰ-tail (Memᴰ-head e))) (inl q) = omega arith
gate-within b (Memᴰ-tail (Memᴰ-tail (Memᴰ-head e))) (inr q) = omega arith
gate-within b (Memᴰ-tail (Memᴰ-tail (Memᴰ-tail (Memᴰ-head e)))) (inl q) = omega arith
gate-within b (Memᴰ-tail (Memᴰ-tail (Memᴰ-tail (Memᴰ-head e)))) (inr q) = omega arith
gate-within b (Memᴰ-tail (Memᴰ-tail (Memᴰ-tail (Memᴰ-tail m)))) k = Memᴰ-not-nil m

opens_off : (s e : List ℕ) → Ender e → Opens (s ++ e) → Opens s
opens_off s e f o =
    let within : (b : ℕ) → Memᴰ b (o.blanks ++ text "GATE") → ¬ ((b ≡ 10) ⊎ (b ≡ 13)) = λ b m. ⊎_elim
    (λ k. blank-within b (o.are_blanks b k)) (gate-within b) (Memᴰ-append_cases o.blanks m) in
    let r = front (o.blanks ++ text "GATE") s e o.behind f within (o.is_all ∙ sym (append_assoc o.blanks (text "GATE") o.behind)) in
    record {
      blanks = o.blanks;
      behind = r.0;
      is_all = r.1 ∙ append_assoc o.blanks (text "GATE") r.0;
      are_blanks = o.are_blanks;
      ends = stops_off r.0 e (subst (Stops NameByte) (sym r.2) o.ends);
    }

-- ---- the line that `lines_from` finds

pub record Row (at : ℕ) (w rest : List ℕ) (l : Line) : Type 0 where
  pub lines : lines_from at [] (w ++ rest) ≡ l ∷ lines_from (at + length w) [] rest
  pub offset : l.offset ≡ at
  pub ending : List ℕ
  pub whole : w ≡ l.bytes ++ ending
  pub ends : T (ended l) → End false ending
  pub ender : Ender ending
  pub enders : Ender (ending ++ rest)

-- byte 10, and a byte 13 right before it, close the line
record Closed (at : ℕ) (w : List ℕ) (l : Line) : Type 0 where
  offset : l.offset ≡ at
  ending : List ℕ
  whole : w ≡ l.bytes ++ ending
  ends : End false ending

closed-row : (at : ℕ) (held : List ℕ) → Closed at (reverse held ++ (10 ∷ [])) (closing at held)
unfolding closing
closed-row at [] = record { offset = refl; ending = 10 ∷ []; whole = refl; ends = ten }
closed-row at (h ∷ hs) = go (eqb h 13) (λ t. eqb_yes t)
  where
    go : (x : Bool) → (T x → h ≡ 13) → Closed at (reverse (h ∷ hs) ++ (10 ∷ [])) (cond x (record { offset = at; bytes = reverse hs; ending = 2 }) (record { offset = at; bytes = reverse (h ∷ hs); ending = 1 }))
    go true u = record {
      offset = refl;
      ending = 13 ∷ 10 ∷ [];
      whole = ap (λ (y : List ℕ). y ++ (10 ∷ [])) (reverse-cons h hs ∙ ap (λ (x : ℕ). reverse hs ++ (x ∷ [])) (u tt)) ∙ append_assoc (reverse hs) (13 ∷ []) (10 ∷ []);
      ends = both;
    }
    go false u = record { offset = refl; ending = 10 ∷ []; whole = refl; ends = ten }

open_lines : (at : ℕ) (held : List ℕ) → (¬ (held ≡ [])) → lines_from at held [] ≡ record { offset = at; bytes = reverse held; ending = 0 } ∷ []
unfolding lines_from
open_lines at [] n = absurd (n refl)
open_lines at (h ∷ hs) n = refl

no_lines_lem : (at : ℕ) → lines_from at [] [] ≡ []
unfolding lines_from
no_lines_lem at = refl

pub line_row : {w rest : List ℕ} (at : ℕ) → ALine w rest → (l : Line) × Row at w rest l
line_row {rest = rest} at (full {w} p) =
    let held = held_with w [] in
    let c : Closed at (reverse held ++ (10 ∷ [])) (closing at held) = closed-row at held in (
      closing at held,
      record {
        lines = ap (lines_from at []) (append_assoc w (10 ∷ []) rest) ∙ held-lines at [] w (10 ∷ rest) (plain-free w p) ∙ lines_step at held 10 rest
            ∙ ap (λ (n : ℕ). closing at held ∷ lines_from n [] rest) (let e : at + suc (length held) ≡ at + length (w ++ (10 ∷ [])) = omega (arith, held-length w [], length-append w (10 ∷ [])) in e);
        offset = c.offset;
        ending = c.ending;
        whole = ap (λ (x : List ℕ). x ++ (10 ∷ [])) (sym (held_back w [])) ∙ c.whole;
        ends = λ t. c.ends;
        ender = subst Ender (append-nil c.ending) (end_ender c.ending [] c.ends);
        enders = end_ender c.ending rest c.ends;
      },
    )
line_row at (last {w} n p) = (
  record { offset = at; bytes = reverse (held_with w []); ending = 0 },
  record {
    lines = held-lines at [] w [] (plain-free w p) ∙ open_lines at (held_with w []) (λ e. n (sym (held_back w []) ∙ ap reverse e))
        ∙ ap (λ (x : List Line). record { offset = at; bytes = reverse (held_with w []); ending = 0 } ∷ x) (sym (no_lines_lem (at + length w)));
    offset = refl;
    ending = [];
    whole = sym (held_back w []) ∙ sym (append-nil (reverse (held_with w [])));
    ends = λ t. absurd t;
    ender = nothing;
    enders = nothing;
  },
)

module _ {at : ℕ} {w rest : List ℕ} {l : Line} (r : Row at w rest l) where
  pub opens_line : Opens l.bytes ↔ Opens w
  opens_line = (
    (λ o. rw r.whole (opens_on l.bytes r.ending r.ender o)),
    λ o. opens_off l.bytes r.ending r.ender
        (rw (← r.whole) o),
  )

  all-bytes : w ++ rest ≡ l.bytes ++ (r.ending ++ rest)
  all-bytes = ap (λ (x : List ℕ). x ++ rest) r.whole ∙ append_assoc l.bytes r.ending rest

  pub opens_text : Opens l.bytes ↔ Opens (w ++ rest)
  opens_text = (
    (λ o. rw all-bytes (opens_on l.bytes (r.ending ++ rest) r.enders o)),
    λ o. opens_off l.bytes (r.ending ++ rest)
        r.enders (rw all-bytes at o),
  )

  -- a line whose contents are so, by its bytes
  pub row_line : {A : Type 0} {P : List ℕ → A → Type 0} {a : A} → T (ended l) → P l.bytes a → LineOf false P w a
  row_line t p = record { contents = l.bytes; ending = r.ending; whole = r.whole; ends = r.ends t; is = p }

-- ---- bytes that are a line in form

pub record Kept {A : Type 0} (P : List ℕ → A → Type 0) (at : ℕ) (w rest : List ℕ) (a : A) (l : Line) : Type 0 where
  pub lines : lines_from at [] (w ++ rest) ≡ l ∷ lines_from (at + length w) [] rest
  pub offset : l.offset ≡ at
  pub ends : T (ended l)
  pub is : P l.bytes a
  pub opens : Opens l.bytes → Opens (w ++ rest)

pub line_kept : {A : Type 0} {P : List ℕ → A → Type 0} (at : ℕ) (w rest : List ℕ) (a : A) → ((v : List ℕ) (b : A) → P v b → Free 10 v) → ((v : List ℕ) (b : A) → P v b → Free 13 v)
    → LineOf false P w a → (l : Line) × Kept P at w rest a l
line_kept {A} {P} at w rest a f g h =
    let k = ended-lines false at h.contents h.ending rest h.ends (f h.contents a h.is) (g h.contents a h.is) in
    let e : lines_from at [] (w ++ rest) ≡ k.0 ∷ lines_from (at + length w) [] rest =
    ap (λ (x : List ℕ). lines_from at [] (x ++ rest)) h.whole ∙ k.1 ∙ ap (λ (x : List ℕ). k.0 ∷ lines_from (at + length x) [] rest) (sym h.whole) in (
      k.0,
      record {
        lines = e;
        offset = (first-split at (w ++ rest) k.0 (lines_from (at + length w) [] rest) e).offset;
        ends = k.3;
        is = subst (λ (x : List ℕ). P x a) (sym k.2) h.is;
        opens = λ o. subst Opens (sym (ap (λ (x : List ℕ). x ++ rest) h.whole ∙ append_assoc h.contents h.ending rest))
            (opens_on h.contents (h.ending ++ rest) (end_ender h.ending rest h.ends) (subst Opens k.2 o));
      },
    )
