-- Lines: a text's first line as `lines_from` finds it is the line with which the text begins by the form, and the lines behind it are those of what stands behind.
use Rattle.base.specs.{ℕ, suc, ◌+◌, ◌≤◌, ◌<◌, arith, ◌≡◌, refl, sym, ◌∙◌, ap, Bool, true, false, cond, Option, Some, List, [], ◌∷◌, ◌++◌}
use Rattle.base.specs.{reverse, reverse-cons, append_assoc, cons≢nil, nil≢cons, head-eq_of_cons-eq, tail-eq_of_cons-eq, T, eqb, leb, lit<}
use Rattle.base.specs.{length, length-append, length-reverse, and_yes, eqb_yes, leb_yes}
use Rattle.model.specs.{all, and_then, only, Line, next_of, closing, lines_from, closed}
use Rattle.promises.specs.{End, ten, both, LineOf, Begins}
use Rattle.theory_graph.proofs.{by_bool}
use Rattle.theory_text.proofs.{then_out, only_out, Free, above, line_of_bytes, lines_step, line_first, held_back, held-length, held_with}
use Rattle.theory_text.proofs.{no_lines_lem}

-- ---- a line that bytes 13 and 10 end

pub held-lines : (at : ℕ) (held w rest : List ℕ) → Free 10 w → lines_from at held (w ++ rest) ≡ lines_from at (held_with w held) rest
unfolding held_with
held-lines at held [] rest f = refl
held-lines at held (b ∷ w) rest f = cc (lines_step at held b (w ++ rest), f.0, held-lines at (b ∷ held) w rest f.1)

line-both : (at : ℕ) (w rest : List ℕ) → Free 10 w
    → lines_from at [] (w ++ (13 ∷ 10 ∷ rest)) ≡ record { offset = at; bytes = w; ending = 2 } ∷ lines_from (at + suc (suc (length w))) [] rest
unfolding closing
line-both at w rest f = cc (
  held-lines at [] w (13 ∷ 10 ∷ rest) f,
  lines_step at (held_with w []) 13 (10 ∷ rest),
  lines_step at
      (13 ∷ held_with w []) 10 rest,
  held_back w [],
  held-length w [],
  let e : length w + 0 ≡ length w = omega arith in e,
)

-- ---- the first line of a text

pub record Split (at : ℕ) (t : List ℕ) (l : Line) (ls : List Line) : Type 0 where
  pub offset : l.offset ≡ at
  pub ending : List ℕ
  pub rest : List ℕ
  pub whole : t ≡ l.bytes ++ (ending ++ rest)
  pub ends : (is_binary : Bool) → T (closed is_binary l) → End is_binary ending
  pub later : lines_from (at + length (l.bytes ++ ending)) [] rest ≡ ls
  pub next : next_of l ≡ at + length (l.bytes ++ ending)

closing-split : (at : ℕ) (held s : List ℕ) → Split at (reverse held ++ (10 ∷ s)) (closing at held) (lines_from (at + suc (length held)) [] s)
unfolding closing
closing-split at [] s = record { offset = refl; ending = 10 ∷ []; rest = s; whole = refl; ends = λ b t. ten; later = refl; next = refl }
closing-split at (h ∷ hs) s = go (eqb h 13) (λ t. eqb_yes t)
  where
    long : length (reverse hs) ≡ length hs
    long = length-reverse hs

    go : (x : Bool) → (T x → h ≡ 13)
        → Split at (reverse (h ∷ hs) ++ (10 ∷ s)) (cond x (record { offset = at; bytes = reverse hs; ending = 2 }) (record { offset = at; bytes = reverse (h ∷ hs); ending = 1 })) (lines_from (at + suc (suc (length hs))) [] s)
    go true u = record {
      offset = refl;
      ending = 13 ∷ 10 ∷ [];
      rest = s;
      whole = ap (λ (y : List ℕ). y ++ (10 ∷ s)) (reverse-cons h hs ∙ ap (λ (x : ℕ). reverse hs ++ (x ∷ [])) (u tt)) ∙ append_assoc (reverse hs) (13 ∷ []) (10 ∷ s);
      ends = (λ z v. by_bool z (λ q. rw q (absurd (rw q at v))) (λ p. rw p both));
      later = ap (λ (n : ℕ). lines_from n [] s) (let e : at + length (reverse hs ++ (13 ∷ 10 ∷ [])) ≡ at + suc (suc (length hs)) = omega (arith, length-append (reverse hs) (13 ∷ 10 ∷ []), long) in e);
      next = omega (arith, length-append (reverse hs) (13 ∷ 10 ∷ []), long);
    }
    go false u = record {
      offset = refl;
      ending = 10 ∷ [];
      rest = s;
      whole = refl;
      ends = λ b t. ten;
      later = ap (λ (n : ℕ). lines_from n [] s) (let e : at + length (reverse (h ∷ hs) ++ (10 ∷ [])) ≡ at + suc (suc (length hs)) = omega (arith, length-append (reverse (h ∷ hs)) (10 ∷ []), length-reverse (h ∷ hs)) in e);
      next = omega (arith, length-append (reverse (h ∷ hs)) (10 ∷ []));
    }

open_split : (at h : ℕ) (hs : List ℕ) → Split at (reverse (h ∷ hs) ++ []) (record { offset = at; bytes = reverse (h ∷ hs); ending = 0 }) []
unfolding lines_from
open_split at h hs = record {
  offset = refl;
  ending = [];
  rest = [];
  whole = refl;
  ends = (λ b x. by_bool b (λ e. rw e (absurd (rw e at x))) (λ q. rw q (absurd (rw q at x))));
  later = refl;
  next = omega (arith, length-append (reverse (h ∷ hs)) []);
}

last_line : (at h : ℕ) (hs : List ℕ) (l : Line) (ls : List Line) → lines_from at (h ∷ hs) [] ≡ l ∷ ls → Split at (reverse (h ∷ hs) ++ []) l ls
unfolding lines_from
last_line at h hs l ls e = rw (← head-eq_of_cons-eq e) (rw (← tail-eq_of_cons-eq e) (open_split at h hs))

split-held : (at : ℕ) (held s : List ℕ) (l : Line) (ls : List Line) → lines_from at held s ≡ l ∷ ls → Split at (reverse held ++ s) l ls
split-held at [] [] l ls e = absurd (no_lines_lem at l ls e)
split-held at (h ∷ hs) [] l ls e = last_line at h hs l ls e
split-held at held (b ∷ s) l ls e = go (eqb b 10) (λ t. eqb_yes t) (sym (lines_step at held b s) ∙ e) (λ f. split-held at (b ∷ held) s l ls f)
  where
    go : (t : Bool) → (T t → b ≡ 10) → cond t (closing at held ∷ lines_from (at + suc (length held)) [] s) (lines_from at (b ∷ held) s) ≡ l ∷ ls
        → (lines_from at (b ∷ held) s ≡ l ∷ ls → Split at (reverse (b ∷ held) ++ s) l ls) → Split at (reverse held ++ (b ∷ s)) l ls
    go true u f more = rw (u tt) (rw (← head-eq_of_cons-eq f) (rw (← tail-eq_of_cons-eq f) (closing-split at held s)))
    go false u f more = rw (← ap (λ (y : List ℕ). y ++ s) (reverse-cons b held) ∙ append_assoc (reverse held) (b ∷ []) s) (more f)

pub first-split : (at : ℕ) (t : List ℕ) (l : Line) (ls : List Line) → lines_from at [] t ≡ l ∷ ls → Split at t l ls
first-split at t l ls e = split-held at [] t l ls e

-- a text without a line has no byte
some-line : (at h : ℕ) (hs s : List ℕ) → lines_from at (h ∷ hs) s ≡ [] → ⊥
unfolding lines_from
some-line at h hs [] e = cons≢nil e
some-line at h hs (b ∷ s) e = by_bool (eqb b 10) (λ q. cons≢nil (rw q at (sym (lines_step at (h ∷ hs) b s) ∙ e)))
    (λ p. (some-line at b (h ∷ hs) s) (rw p at (sym (lines_step at (h ∷ hs) b s) ∙ e)))

pub lines_none : (at : ℕ) (t : List ℕ) → lines_from at [] t ≡ [] → t ≡ []
lines_none at [] e = refl
lines_none at (b ∷ t) e = absurd (by_bool (eqb b 10) (λ q. cons≢nil (rw q at (sym (lines_step at [] b t) ∙ e)))
    (λ p. some-line at b [] t (rw p at (sym (lines_step at [] b t) ∙ e))))

-- ---- a reader of a line against the form

-- the text begins with bytes that mean a, and the other lines are those behind them
pub record Found {A : Type 0} (P : List ℕ → A → Type 0) (at : ℕ) (t : List ℕ) (ls : List Line) (a : A) : Type 0 where
  pub front : List ℕ
  pub behind : List ℕ
  pub whole : t ≡ front ++ behind
  pub is : P front a
  pub later : lines_from (at + length front) [] behind ≡ ls

-- the line that such bytes are, and what is read from it
pub record Line? {A : Type 0} (p : Line → Option A) (at : ℕ) (s rest : List ℕ) (a : A) : Type 0 where
  pub line : Line
  pub lines : lines_from at [] (s ++ rest) ≡ line ∷ lines_from (at + length s) [] rest
  pub read : p line ≡ Some a
  pub next : next_of line ≡ at + length s

pub record Reads {A : Type 0} (p : Line → Option A) (P : List ℕ → A → Type 0) : Type 0 where
  pub form : (at : ℕ) (t : List ℕ) (l : Line) (ls : List Line) → lines_from at [] t ≡ l ∷ ls → (a : A) → p l ≡ Some a → Found P at t ls a
  pub back : (at : ℕ) (s rest : List ℕ) (a : A) → P s a → Line? p at s rest a

-- contents and an end
pub ended-lines : (is_binary : Bool) (at : ℕ) (w e rest : List ℕ) → End is_binary e → Free 10 w → Free 13 w
    → (l : Line) × (lines_from at [] ((w ++ e) ++ rest) ≡ l ∷ lines_from (at + length (w ++ e)) [] rest) × (l.bytes ≡ w) × T (closed is_binary l) × (next_of l ≡ at + length (w ++ e))
ended-lines is_binary at w e rest ten f g = (
  line_of_bytes at w,
  ap (lines_from at []) (append_assoc w (10 ∷ []) rest) ∙ line_first at w rest f g
      ∙ ap (λ (n : ℕ). line_of_bytes at w ∷ lines_from n [] rest) (let q : at + suc (length w) ≡ at + length (w ++ (10 ∷ [])) = omega (arith, length-append w (10 ∷ [])) in q),
  refl,
  (by_bool is_binary (λ q. rw q tt) (λ p. rw p tt)),
  (let q : next_of (line_of_bytes at w) ≡ at + length (w ++ (10 ∷ [])) = omega (arith, length-append w (10 ∷ [])) in q),
)
ended-lines is_binary at w e rest both f g = (
  record { offset = at; bytes = w; ending = 2 },
  ap (lines_from at []) (append_assoc w (13 ∷ 10 ∷ []) rest) ∙ line-both at w rest f
      ∙ ap (λ (n : ℕ). record { offset = at; bytes = w; ending = 2 } ∷ lines_from n [] rest) (let q : at + suc (suc (length w)) ≡ at + length (w ++ (13 ∷ 10 ∷ [])) = omega (arith, length-append w (13 ∷ 10 ∷ [])) in q),
  refl,
  tt,
  (let q : next_of (record { offset = at; bytes = w; ending = 2 }) ≡ at + length (w ++ (13 ∷ 10 ∷ [])) = omega (arith, length-append w (13 ∷ 10 ∷ [])) in q),
)

-- a line's reader that goes by the contents, and by the end that the form asks for
module _ {A : Type 0} (is_binary : Bool) (q : List ℕ → Option A) (Q : List ℕ → A → Type 0) (p : Line → Option A) where
  pub reads-line : ((l : Line) → p l ≡ and_then (only (closed is_binary l) l.bytes) q) → ((w : List ℕ) (a : A) → q w ≡ Some a → Q w a) → ((w : List ℕ) (a : A) → Q w a → q w ≡ Some a)
      → ((s : ℕ) → s < 32 → (w : List ℕ) (a : A) → Q w a → Free s w) → Reads p (LineOf is_binary Q)
  unfolding and_then only
  reads-line is form back free = record { form = found; back = line }
    where
      found : (at : ℕ) (t : List ℕ) (l : Line) (ls : List Line) → lines_from at [] t ≡ l ∷ ls → (a : A) → p l ≡ Some a → Found (LineOf is_binary Q) at t ls a
      found at t l ls e a r =
          let o = then_out (only (closed is_binary l) l.bytes) q a (sym (is l) ∙ r) in
          let c = only_out (closed is_binary l) l.bytes o.0 o.1 in
          let s = first-split at t l ls e in
          record {
            front = l.bytes ++ s.ending;
            behind = s.rest;
            whole = s.whole ∙ sym (append_assoc l.bytes s.ending s.rest);
            is = record { contents = l.bytes; ending = s.ending; whole = refl; ends = s.ends is_binary c.0; is = form l.bytes a (ap q c.1 ∙ o.2) };
            later = s.later;
          }

      line : (at : ℕ) (s rest : List ℕ) (a : A) → LineOf is_binary Q s a → Line? p at s rest a
      line at s rest a h =
          let w = h.contents in
          let l = ended-lines is_binary at w h.ending rest h.ends (free 10 (lit< tt) w a h.is) (free 13 (lit< tt) w a h.is) in
          record {
            line = l.0;
            lines = ap (λ (x : List ℕ). lines_from at [] (x ++ rest)) h.whole ∙ l.1 ∙ ap (λ (x : List ℕ). l.0 ∷ lines_from (at + length x) [] rest) (sym h.whole);
            read = is l.0 ∙ by_bool (closed is_binary l.0) (λ e. rw e) (λ r. rw r (absurd (rw r at l.3))) ∙ ap q l.2
                ∙ back w a h.is;
            next = l.4 ∙ ap (λ (x : List ℕ). at + length x) (sym h.whole);
          }

-- ---- what a reader finds, and what stands where it finds nothing
module _ {A : Type 0} {p : Line → Option A} {P : List ℕ → A → Type 0} (r : Reads p P) where
  pub found-begins : {at : ℕ} {t : List ℕ} {ls : List Line} {a : A} → Found P at t ls a → Begins P t a
  found-begins f = record { front = f.front; behind = f.behind; whole = f.whole; is = f.is }

  -- the first line of a text that begins so is read so
  pub begins-read : (at : ℕ) (t : List ℕ) (l : Line) (ls : List Line) → lines_from at [] t ≡ l ∷ ls → (a : A) → Begins P t a → p l ≡ Some a
  begins-read at t l ls e a b =
      let k = r.back at b.front b.behind a b.is in
      ap p (head-eq_of_cons-eq (sym e ∙ ap (lines_from at []) b.whole ∙ k.lines)) ∙ k.read

  -- a text without a line begins with none
  pub none-begins : (at : ℕ) (t : List ℕ) → lines_from at [] t ≡ [] → (a : A) → Begins P t a → ⊥
  none-begins at t e a b = nil≢cons (sym e ∙ ap (lines_from at []) b.whole ∙ (r.back at b.front b.behind a b.is).lines)

-- no byte of a list below 32 stands in it
pub free-above : (s : ℕ) → s < 32 → (w : List ℕ) → T (all (λ (b : ℕ). leb 32 b) w) → Free s w
unfolding all
free-above s h [] t = tt
free-above s h (b ∷ w) t =
    let p = and_yes (leb 32 b) (all (λ (x : ℕ). leb 32 x) w) t in
    (above s b (let q : 32 ≤ b = leb_yes p.0 in omega arith), free-above s h w p.1)
