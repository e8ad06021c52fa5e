-- Lines that are expected:
--     expected-yes, expected_no, expected_out        one line, by what stands at a place
--     reached, stopped                what a reader of lines answers
--     next-next, then_on, then_off    one after the other
--     wires_.., times_..              as many as there are outputs
--     behind_is                       the end behind all that is expected
use Rattle.std.specs.Prelude.{Result, Ok, Err}
use Rattle.base.specs.{ℕ, zero, suc, ◌+◌, ◌-◌, ◌≤◌, ◌<◌, add-one, arith, ◌≡◌, refl, sym, ap, subst, ◌∙◌, Bool, true, false, cond, ◌&&◌, List, []}
use Rattle.base.specs.{◌∷◌, ◌++◌, map, ltb, length, take, drop, get_or, length-drop, drop-drop, get_or-drop, eq-eqb, ne_eqb}
use Rattle.model.specs.{each, same, from, below, Line, ended_by_ten, text, fields, Read, holds, fault, next, unless, is_wire}
use Rattle.model.specs.{is_timing, expected_lines, nothing_left, wire_pairs, timings, outputs_of}
use Rattle.base_text.specs.declared.Span.{Span}
use Rattle.base_text.specs.{line_at, past_line, span_at}
use Rattle.base_text.proofs.{lines_none, span_out, span-from, span_fits, span-long, span-next, span-contents}
use Rattle.genlib_groups.proofs.{bounded}
use Rattle.tally_counting.specs.{lines_of, place_in, read_in}

-- ---- one line

line-offset : (s : List ℕ) (at : ℕ) → (line_at s at).offset ≡ at
unfolding line_at
line-offset s at = refl

-- a line that byte 10 alone ends
pub record Ten (s : List ℕ) (at : ℕ) (l : Span) : Type 0 where
  pub here : lines_of s at ≡ line_at s at ∷ lines_of s l.next
  pub ends : ended_by_ten (line_at s at) ≡ true
  pub bytes : take (l.stop - at) (drop at s) ≡ (line_at s at).bytes
  pub starts : at ≤ l.stop
  pub within : l.next ≤ length s
  pub later : at < l.next
  pub past : l.next ≡ past_line s at

module _ (s : List ℕ) (at : ℕ) (fits : at ≤ length s) (l : Span) (is : l ≡ span_at s at) where
  long : l.next ≡ l.stop + (line_at s at).ending
  long = ap (λ (x : Span). x.next) is ∙ span-long s at ∙ ap (λ (x : Span). x.stop + (line_at s at).ending) (sym is)

  none_out : length s ≤ at → (line_at s at).ending ≡ 0
  unfolding line_at Rattle.base_text.specs.TextLines.ending_of
  none_out h = rw (lib.ListN.drop_of_length-le s h)

  pub ten-line : l.next ≡ l.stop + 1 → Ten s at l
  ten-line e = go (ltb at (length s)) refl
    where
      go : (t : Bool) → ltb at (length s) ≡ t → Ten s at l
      go true p =
          let b = bounded s at (borrow.Author.Tests.ltb-true at (length s) p) l is in
          record {
            here = b.lines;
            ends = eq-eqb (line_at s at).ending 1 (omega (arith, long));
            bytes = ap (λ (x : Span). take (x.stop - at) (drop at s)) is ∙ span-contents s at;
            starts = b.starts;
            within = b.within;
            later = b.later;
            past = ap (λ (x : Span). x.next) is ∙ span-next s at;
          }
      go false p = let h = borrow.Author.Tests.ltb-false at (length s) p in absurd (omega (arith, long, none_out h))

  pub span_bounds : (at ≤ l.stop) × (l.stop ≤ length s)
  span_bounds = let e = ap (λ (x : Span). x.stop) is in (omega (arith, span-from s at), omega (arith, span_fits s at fits))

  -- no such line: none at all, or one that ends otherwise
  pub data NotTen : Type 0 where
    missing : lines_of s at ≡ [] → at ≡ length s → NotTen
    other : (rest : List Line) → lines_of s at ≡ line_at s at ∷ rest → NotTen

  pub not-ended : (l.next ≡ l.stop + 1 → ⊥) → ended_by_ten (line_at s at) ≡ false
  not-ended n = ne_eqb (line_at s at).ending 1 (λ e. n (omega (arith, long)))

  pub not-ten : NotTen
  not-ten = go (ltb at (length s)) refl
    where
      go : (t : Bool) → ltb at (length s) ≡ t → NotTen
      go true p = other (lines_of s l.next) (bounded s at (borrow.Author.Tests.ltb-true at (length s) p) l is).lines
      go false p = let h = borrow.Author.Tests.ltb-false at (length s) p in missing (lines_none s at h) (omega arith)

  pub expected-yes : (p : List ℕ → Bool) → Ten s at l → p (take (l.stop - at) (drop at s)) ≡ true → holds (lines_of s l.next) ≡ expected_lines (length s) (p ∷ []) (lines_of s at)
  unfolding expected_lines unless
  expected-yes p t e = sym (rw (t.here, t.ends, sym t.bytes, e))

  pub expected_no : (p : List ℕ → Bool) → Ten s at l → p (take (l.stop - at) (drop at s)) ≡ false → fault 29 at ≡ expected_lines (length s) (p ∷ []) (lines_of s at)
  unfolding expected_lines unless line_at
  expected_no p t e = sym (rw (t.here, t.ends, sym t.bytes, e))

  pub expected_out : (p : List ℕ → Bool) → (l.next ≡ l.stop + 1 → ⊥) → fault 29 at ≡ expected_lines (length s) (p ∷ []) (lines_of s at)
  unfolding expected_lines unless
  expected_out p n = go not-ten
    where
      go : NotTen → fault 29 at ≡ expected_lines (length s) (p ∷ []) (lines_of s at)
      go (missing e z) = sym (rw e (ap (fault 29) (sym z)))
      go (other rest e) = sym (rw (e, not-ended n) (ap (fault 29) (line-offset s at)))

-- a part of the text is no longer than the text
take_le : (n : ℕ) (l : List ℕ) → length (take n l) ≤ length l
take_le zero l = omega arith
take_le (suc n) [] = omega arith
take_le (suc n) (b ∷ l) = omega (arith, take_le n l)

pub part-short : (n k : ℕ) (s : List ℕ) → length (take n (drop k s)) ≤ length s
part-short n k s = omega (arith, take_le n (drop k s), length-drop k s)

-- ---- what is read so far

module _ (s : List ℕ) {r : Result ℕ ℕ} {o : Read (List Line)} (is : read_in s r ≡ o) (fits : place_in r ≤ length s) (k : ℕ) where
  -- the lines from the next place on
  pub reached : r ≡ Ok k → (holds (lines_of s k) ≡ o) × (k ≤ length s)
  reached e = (sym (ap (read_in s) e) ∙ is, subst (λ (x : Result ℕ ℕ). place_in x ≤ length s) e fits)

  -- 29 at the line
  pub stopped : r ≡ Err k → (fault 29 k ≡ o) × (k ≤ length s)
  stopped e = (sym (ap (read_in s) e) ∙ is, subst (λ (x : Result ℕ ℕ). place_in x ≤ length s) e fits)

-- ---- the third line

lines-drop : (s : List ℕ) (at : ℕ) → drop 1 (lines_of s at) ≡ lines_of s (span_at s at).next
lines-drop s at = go (ltb at (length s)) refl
  where
    go : (t : Bool) → ltb at (length s) ≡ t → drop 1 (lines_of s at) ≡ lines_of s (span_at s at).next
    go true p = rw (bounded s at (borrow.Author.Tests.ltb-true at (length s) p) (span_at s at) refl).lines
    go false p =
        let h = borrow.Author.Tests.ltb-false at (length s) p in
        rw (lines_none s at h, span_out s at h) (sym (lines_none s at h))

module _ (s : List ℕ) (a b : Span) (ia : a ≡ span_at s 0) (ib : b ≡ span_at s a.next) where
  third : drop 2 (lines_of s 0) ≡ lines_of s b.next
  third =
      sym (drop-drop 1 1 (lines_of s 0))
      ∙ ap (drop 1) (lines-drop s 0 ∙ ap (λ (x : Span). lines_of s x.next) (sym ia))
      ∙ lines-drop s a.next
      ∙ ap (λ (x : Span). lines_of s x.next) (sym ib)

  abbrev no_line : Line
  no_line = record { offset = 0; bytes = []; ending = 0 }

  outputs_by : outputs_of (lines_of s 0) ≡ length (fields (get_or (lines_of s b.next) 0 no_line).bytes) - 1
  unfolding outputs_of
  outputs_by = ap (λ (l : Line). length (fields l.bytes) - 1) (sym (get_or-drop 2 (lines_of s 0) 0 no_line) ∙ ap (λ (ls : List Line). get_or ls 0 no_line) third)

  pub outputs-none : length s ≤ b.next → 0 ≡ outputs_of (lines_of s 0)
  unfolding fields
  outputs-none h = sym (outputs_by ∙ rw (lines_none s b.next h))

  pub outputs-some : b.next < length s → (c : Span) → c ≡ span_at s b.next → length (fields (take (c.stop - b.next) (drop b.next s))) - 1 ≡ outputs_of (lines_of s 0)
  outputs-some h c ic =
      let d = bounded s b.next h c ic in
      sym (outputs_by ∙ rw (d.lines, sym d.bytes))

-- ---- one after the other

pub next-next : {A B C : Type 0} (r : Read A) (f : A → Read B) (g : B → Read C) → next (next r f) g ≡ next r (λ x. next (f x) g)
unfolding next
next-next (holds a) f g = refl
next-next (fault n k) f g = refl

unless-next : {A B : Type 0} (t : Bool) (n k : ℕ) (r : Read A) (f : A → Read B) → unless t n k (next r f) ≡ next (unless t n k r) f
unfolding unless next
unless-next true n k r f = refl
unless-next false n k r f = refl

pub expected_append : (end : ℕ) (ps qs : List (List ℕ → Bool)) (ls : List Line) → expected_lines end (ps ++ qs) ls ≡ next (expected_lines end ps ls) (expected_lines end qs)
unfolding expected_lines next
expected_append end [] qs ls = refl
expected_append end (p ∷ ps) qs [] = refl
expected_append end (p ∷ ps) qs (l ∷ ls) =
    ap (unless (ended_by_ten l && p l.bytes) 29 l.offset) (expected_append end ps qs ls) ∙ unless-next (ended_by_ten l && p l.bytes) 29 l.offset (expected_lines end ps ls) (expected_lines end qs)

-- what stands behind lines that were read
pub past_on : (end : ℕ) (ps qs : List (List ℕ → Bool)) (ls ms : List Line) → holds ms ≡ expected_lines end ps ls → expected_lines end (ps ++ qs) ls ≡ expected_lines end qs ms
unfolding next
past_on end ps qs ls ms e = expected_append end ps qs ls ∙ ap (λ (x : Read (List Line)). next x (expected_lines end qs)) (sym e)

pub then_on : (end : ℕ) (ps qs : List (List ℕ → Bool)) (ls ms : List Line) {o : Read (List Line)} → holds ms ≡ expected_lines end ps ls → o ≡ expected_lines end qs ms → o ≡ expected_lines end (ps ++ qs) ls
then_on end ps qs ls ms e f = f ∙ sym (past_on end ps qs ls ms e)

-- nothing is read behind a line at fault
pub then_off : (end : ℕ) (ps qs : List (List ℕ → Bool)) (ls : List Line) {k : ℕ} → fault 29 k ≡ expected_lines end ps ls → fault 29 k ≡ expected_lines end (ps ++ qs) ls
unfolding next
then_off end ps qs ls e = ap (λ (x : Read (List Line)). next x (expected_lines end qs)) e ∙ sym (expected_append end ps qs ls)

-- ---- as many as there are outputs

-- timing lines, or none
pub count_yes : (ranged : Bool) (outs n : ℕ) → ranged ≡ true → n ≡ outs → n ≡ cond ranged outs 0
count_yes ranged outs n e h = rw e h

pub count_no : (ranged : Bool) (outs n : ℕ) → ranged ≡ false → n ≡ 0 → n ≡ cond ranged outs 0
count_no ranged outs n e h = rw e h

-- the pairs from output k on
abbrev pub pairs_from : ℕ → ℕ → List (List ℕ → Bool)
pairs_from k n = each (λ (_ : ℕ). is_wire ∷ same (text "1 1") ∷ []) (from k n)

abbrev pub times_from : ℕ → ℕ → List (List ℕ → Bool)
times_from k n = map (λ (_ : ℕ). is_timing) (from k n)

pub wires_all : (outs : ℕ) → wire_pairs outs ≡ pairs_from 0 (outs - 0)
unfolding wire_pairs below
wires_all outs = let z : outs - 0 ≡ outs = omega arith in rw z

pub wires_more : (k outs : ℕ) → k < outs → pairs_from k (outs - k) ≡ (is_wire ∷ same (text "1 1") ∷ []) ++ pairs_from (k + 1) (outs - (k + 1))
unfolding each from
wires_more k outs h = let z : outs - k ≡ suc (outs - (k + 1)) = omega arith in rw (z, add-one k)

pub wires_none : (k outs : ℕ) → outs ≤ k → pairs_from k (outs - k) ≡ []
unfolding each from
wires_none k outs h = let z : outs - k ≡ 0 = omega arith in rw z

pub times_all : (ranged : Bool) (outs n : ℕ) → n ≡ cond ranged outs 0 → timings ranged outs ≡ times_from 0 (n - 0)
unfolding timings below from
times_all true outs n e = let z : n - 0 ≡ outs = omega arith in rw z
times_all false outs n e = let z : n - 0 ≡ 0 = omega arith in rw z

pub times_more : (k n : ℕ) → k < n → times_from k (n - k) ≡ (is_timing ∷ []) ++ times_from (k + 1) (n - (k + 1))
unfolding from
times_more k n h = let z : n - k ≡ suc (n - (k + 1)) = omega arith in rw (z, add-one k)

pub times_none : (k n : ℕ) → n ≤ k → times_from k (n - k) ≡ []
unfolding from
times_none k n h = let z : n - k ≡ 0 = omega arith in rw z

-- ---- behind the gates

-- the text's end behind all that is expected
pub end-yes : (s : List ℕ) (at : ℕ) {o : Read (List Line)} → length s ≤ at → holds (lines_of s at) ≡ o → holds (lines_of s at) ≡ next o nothing_left
unfolding next nothing_left
end-yes s at h e = let z : holds (lines_of s at) ≡ nothing_left (lines_of s at) = rw (lines_none s at h) in z ∙ ap (λ (x : Read (List Line)). next x nothing_left) e

pub end_no : (s : List ℕ) (at : ℕ) {o : Read (List Line)} → at < length s → holds (lines_of s at) ≡ o → fault 29 at ≡ next o nothing_left
unfolding next nothing_left
end_no s at h e =
    let z : fault 29 at ≡ nothing_left (lines_of s at) = sym (rw (bounded s at h (span_at s at) refl).lines (ap (fault 29) (line-offset s at))) in
    z ∙ ap (λ (x : Read (List Line)). next x nothing_left) e

pub end_off : (k : ℕ) {o : Read (List Line)} → fault 29 k ≡ o → fault 29 k ≡ next o nothing_left
unfolding next
end_off k e = ap (λ (x : Read (List Line)). next x nothing_left) e
