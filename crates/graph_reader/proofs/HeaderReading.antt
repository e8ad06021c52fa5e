-- The header line, as the crate model says it:
--     three-is         three numbers behind each other are the line's last three fields
--     first-from, first-ten  where the first line stops and the next begins, and that byte 10 alone ends it
--     header-means     the header of the text's first line is what `form_at` finds
--     header-..        and so 7, 8, 9 and 19 apply just where `header` refuses
--     limits-..        the tests of 9, one by one
use Rattle.std.specs.Prelude.{Ok, Result}
use Rattle.model.specs.declared.Refusal.{Refusal}
use Rattle.base.specs.{ℕ, ◌+◌, ◌-◌, ◌≤◌, ◌<◌, arith, ◌≡◌, refl, sym, ap, ◌∙◌, Bool, true, false, cond, ◌&&◌, ◌||◌, Option, None, Some, List}
use Rattle.base.specs.{[], ◌∷◌, eqb, ltb, leb, length, drop, get_or, le-leb, lt-leb, leb-true, leb-false, eqb-true, lt-ltb}
use Rattle.model.specs.{and_then, only, same, Line, ended, next_of, text, lines_from, fields, number, numbers, Read, holds, fault, next}
use Rattle.model.specs.{unless, from?, refusal_of, closed, header_of_numbers, header_of, in_limits, in_sequence, read_header, header_answer}
use Rattle.model.specs.{verdict_refusal, header_values, header_numbers}
use Rattle.model.specs.declared.Header.{Header}
use Rattle.model.proofs.{header-refusal}
use Rattle.base_text.proofs.{and_left, and_right, and-false, and-true, past, past_end, found, found_end, number_is, number-end-is, lines_at_lem}
use Rattle.base_text.proofs.{past-at, span-long, line-words, numbers-at}
use Rattle.base_text.specs.declared.Cursor.{Cursor}
use Rattle.base_text.specs.declared.Span.{Span}
use Rattle.base_text.specs.{word_at, end_at, is_byte, on_number, on_step, number_of, step_of, byte_at, number_then, number_end, line_at, past_line}
use Rattle.base_text.specs.{span_at, words_at, seps_at, after_at, numbers_at}
use Rattle.graph_reader.specs.{three_at, on_three, on_tag, aag, aig, tag_behind, tag_at, header_record, numbers_form, header_ends}
use Rattle.graph_reader.specs.{form_at}

-- ---- the limits

shift : (a b c : ℕ) → b ≤ c → leb (b + a) c ≡ leb a (c - b)
shift a b c h = go (leb a (c - b)) refl
  where
    go : (t : Bool) → leb a (c - b) ≡ t → leb (b + a) c ≡ t
    go true e = let l : a ≤ c - b = leb-true a (c - b) e in le-leb (b + a) c (omega arith)
    go false e = let l : c - b < a = leb-false a (c - b) e in lt-leb (b + a) c (omega arith)

module _ (h : Header) where
  pub limits_size : 4095 < h.size → in_limits h ≡ false
  unfolding in_limits
  limits_size l = rw (lt-leb h.size 4095 l)

  pub limits_outputs : h.size ≤ 4095 → 4096 < h.outputs → in_limits h ≡ false
  unfolding in_limits
  limits_outputs s l = rw (le-leb h.size 4095 s, lt-leb h.outputs 4096 l)

  pub limits_inputs : h.size ≤ 4095 → h.outputs ≤ 4096 → h.size < h.inputs → in_limits h ≡ false
  unfolding in_limits
  limits_inputs s o l = rw (le-leb h.size 4095 s, le-leb h.outputs 4096 o, lt-leb (h.inputs + h.ands) h.size (omega arith))

  pub limits_ands : h.size ≤ 4095 → h.outputs ≤ 4096 → h.inputs ≤ h.size → in_limits h ≡ leb h.ands (h.size - h.inputs)
  unfolding in_limits
  limits_ands s o l = rw (le-leb h.size 4095 s, le-leb h.outputs 4096 o) (shift h.ands h.inputs h.size l)

-- ---- numbers behind each other

-- what is made of three numbers and the place behind them
abbrev pub three_of : Option (List ℕ) → ℕ → Option (ℕ × ℕ × ℕ × Cursor)
three_of None q = None
three_of (Some ns) q = Some (get_or ns 0 0, get_or ns 1 0, get_or ns 2 0, record { at = q })

pub three-is : (s : List ℕ) (at : ℕ) → three_at s at ≡ three_of (numbers_at 2 s at) (after_at 2 s at)
unfolding three_at numbers_at after_at and_then
three-is s at = rw (number_is s at 32) (go (found number s at 32))
  where
    last : (a b r : ℕ) (o : Option ℕ)
        → on_number (number_of o r) (λ d c2. Some (a, b, d, c2)) None
        ≡ three_of (and_then (and_then (on_number (number_of o r) (λ n c. Some (n ∷ [])) None) (λ ns. Some (b ∷ ns))) (λ ns. Some (a ∷ ns))) r
    last a b r None = refl
    last a b r (Some d) = refl

    second : (a r : ℕ) (o : Option ℕ)
        → on_number (number_of o r) (λ b c1. on_number (number_end s c1.at) (λ d c2. Some (a, b, d, c2)) None) None
        ≡ three_of (and_then (on_number (number_of o r) (λ n c. and_then (on_number (number_end s c.at) (λ m d. Some (m ∷ [])) None) (λ ns. Some (n ∷ ns))) None) (λ ns. Some (a ∷ ns))) (past_end s r)
    second a r None = refl
    second a r (Some b) = rw (number-end-is s r) (last a b (past_end s r) (found_end s r))

    go : (o : Option ℕ)
        → on_number (number_of o (past s at)) (λ a c0. on_number (number_then s c0.at 32) (λ b c1. on_number (number_end s c1.at) (λ d c2. Some (a, b, d, c2)) None) None) None
        ≡ three_of (on_number (number_of o (past s at)) (λ n c. and_then (on_number (number_then s c.at 32) (λ n₁ c₁. and_then (on_number (number_end s c₁.at) (λ m d. Some (m ∷ [])) None) (λ ns. Some (n₁ ∷ ns))) None) (λ ns. Some (n ∷ ns))) None) (past_end s (past s (past s at)))
    go None = refl
    go (Some a) = rw (number_is s (past s at) 32) (second a (past s (past s at)) (found number s (past s at) 32))

-- what is made of five, in a form
abbrev form_of : Bool → Option (List ℕ) → ℕ → Option Header
form_of b None q = None
form_of b (Some ns) q = Some (header_of_numbers b q ns)

five-is : (s : List ℕ) (at : ℕ) (b : Bool) → numbers_form s at b ≡ form_of b (numbers_at 4 s at) (after_at 4 s at)
unfolding numbers_form numbers_at after_at and_then header_of_numbers
five-is s at b = rw (number_is s at 32) (go (found number s at 32))
  where
    last : (m i r : ℕ) (o : Option (List ℕ)) → on_three (three_of o r) (λ l k a c2. Some (header_record m i l k a c2.at b)) None ≡ form_of b (and_then (and_then o (λ ns. Some (i ∷ ns))) (λ ns. Some (m ∷ ns))) r
    last m i r None = refl
    last m i r (Some ns) = refl

    second : (m r : ℕ) (o : Option ℕ)
        → on_number (number_of o r) (λ i c1. on_three (three_at s c1.at) (λ l k a c2. Some (header_record m i l k a c2.at b)) None) None
        ≡ form_of b (and_then (on_number (number_of o r) (λ n c. and_then (numbers_at 2 s c.at) (λ ns. Some (n ∷ ns))) None) (λ ns. Some (m ∷ ns))) (after_at 2 s r)
    second m r None = refl
    second m r (Some i) = rw (three-is s r) (last m i (after_at 2 s r) (numbers_at 2 s r))

    go : (o : Option ℕ)
        → on_number (number_of o (past s at)) (λ m c0. on_number (number_then s c0.at 32) (λ i c1. on_three (three_at s c1.at) (λ l k a c2. Some (header_record m i l k a c2.at b)) None) None) None
        ≡ form_of b (on_number (number_of o (past s at)) (λ n c. and_then (on_number (number_then s c.at 32) (λ n₁ c₁. and_then (numbers_at 2 s c₁.at) (λ ns. Some (n₁ ∷ ns))) None) (λ ns. Some (n ∷ ns))) None) (after_at 2 s (past s (past s at)))
    go None = refl
    go (Some m) = rw (number_is s (past s at) 32) (second m (past s (past s at)) (found number s (past s at) 32))

-- ---- the first line

-- what the model makes of the fields of a line that ends before a place, as a form may where `ok` says so
abbrev of_fields : (Bool → Bool) → ℕ → List (List ℕ) → Option Header
of_fields ok end vs =
    and_then (only (ok (same (get_or vs 0 []) aig) && (same (get_or vs 0 []) aig || same (get_or vs 0 []) aag)) (drop 1 vs)) (λ us.
    and_then (numbers us) (λ ns. Some (header_of_numbers (same (get_or vs 0 []) aig) end ns)))

-- the tests of the first word and of the line's end among the others
tests : (e k n t : Bool) (ws : List (List ℕ)) (f : List (List ℕ) → Option Header) → and_then (only ((e && k) && (n && t)) (drop 1 ws)) f ≡ and_then (only (e && n) ws) (λ vs. and_then (only (k && t) (drop 1 ws)) f)
unfolding only and_then
tests true true true t ws f = refl
tests true true false t ws f = refl
tests true false true t ws f = refl
tests true false false t ws f = refl
tests false k n t ws f = refl

-- the test does not ask which fields it is of
same-fields : (ok : Bool → Bool) (t : Bool) (ws : List (List ℕ)) (end : ℕ) → and_then (only t ws) (λ vs. of_fields ok end ws) ≡ and_then (only t ws) (of_fields ok end)
unfolding only and_then
same-fields ok true ws end = refl
same-fields ok false ws end = refl

-- five numbers of a line that ends as its form may
ended_form : (b t x : Bool) (ws : List (List ℕ)) (r : ℕ) → cond t (form_of b (and_then (only x ws) numbers) r) None ≡ form_of b (and_then (only (x && t) ws) numbers) r
unfolding only and_then
ended_form b true true ws r = refl
ended_form b true false ws r = refl
ended_form b false true ws r = refl
ended_form b false false ws r = refl

-- the first word, its space, and five numbers
module _ (w : List ℕ) (ws : List (List ℕ)) (end behind q : ℕ) (ok : Bool → Bool) (on : Bool → Cursor → Option Header) where
  abbrev tag_of : Bool → Bool → Option (Bool × Cursor)
  tag_of x binary = on_step (step_of x q) (λ c. Some (binary, c)) None

  made : (f : Bool) (o : Option (List ℕ)) → and_then o (λ ns. Some (header_of_numbers f behind ns)) ≡ form_of f o behind
  unfolding and_then
  made f None = refl
  made f (Some ns) = refl

  made_if : (f t : Bool) → and_then (only (t && true) ws) (λ us. and_then (numbers us) (λ ns. Some (header_of_numbers f behind ns))) ≡ form_of f (and_then (only t ws) numbers) behind
  unfolding and_then only
  made_if f true = made f (numbers ws)
  made_if f false = refl

  first-line : (u v b x : Bool) → same w aig ≡ u → same w aag ≡ v → ((b && x) ≡ true → end ≡ behind) → ((f : Bool) → on f (record { at = q }) ≡ form_of f (and_then (only (x && ok f) ws) numbers) behind)
      → and_then (only (b && x) (w ∷ ws)) (of_fields ok end) ≡ on_tag (cond u (tag_of b true) (cond v (tag_of b false) None)) on None
  unfolding and_then only
  first-line true v false x d e h k = refl
  first-line false true false x d e h k = refl
  first-line false false false x d e h k = refl
  first-line true v true false d e h k = sym (k true)
  first-line false true true false d e h k = sym (k false)
  first-line false false true false d e h k = refl
  first-line true v true true d e h k = rw (d, k true, h refl) (made_if true (ok true))
  first-line false true true true d e h k = rw (d, e, k false, h refl) (made_if false (ok false))
  first-line false false true true d e h k = rw (d, e, and-false (ok false))

-- the first line, as it is handed back
module _ (s : List ℕ) (l : Span) (is : l ≡ span_at s 0) where
  first-long : l.next ≡ l.stop + (line_at s 0).ending
  first-long = ap (λ (x : Span). x.next) is ∙ span-long s 0 ∙ ap (λ (x : Span). x.stop + (line_at s 0).ending) (sym is)

  pub first-from : l.stop ≤ l.next
  first-from = omega (arith, first-long)

  pub first-ten : eqb (l.next - l.stop) 1 ≡ header_ends s true
  unfolding header_ends
  first-ten = let e : l.next - l.stop ≡ (line_at s 0).ending = omega (arith, first-long) in ap (λ (n : ℕ). eqb n 1) e

pub either_end : (s : List ℕ) → header_ends s false ≡ true
unfolding header_ends
either_end s = refl

-- an end of one byte is an end
ten-ends : (n : ℕ) → eqb n 1 ≡ (ltb 0 n && eqb n 1)
ten-ends n = go (eqb n 1) refl
  where
    go : (t : Bool) → eqb n 1 ≡ t → t ≡ (ltb 0 n && t)
    go true e = let l : 0 < n = omega (arith, eqb-true n 1 e) in sym (ap (λ (x : Bool). x && true) (lt-ltb 0 n l))
    go false e = sym (and-false (ltb 0 n))

-- the line at 0, of a text that is not empty
module _ (s : List ℕ) where
  line-end : (is_byte s (end_at s 0) 32 && seps_at 4 s (past s 0)) ≡ true → next_of (line_at s 0) ≡ after_at 4 s (past s 0)
  unfolding seps_at after_at past_line
  line-end e = sym (past-at 5 s 0 e).1

  closed_is : (b : Bool) → closed b (line_at s 0) ≡ (ended (line_at s 0) && header_ends s b)
  unfolding header_ends
  closed_is true = ten-ends (line_at s 0).ending
  closed_is false = sym (and-true (ended (line_at s 0)))

  fields-is : (ls : List Line) → header_of (line_at s 0 ∷ ls) ≡ and_then (only (ended (line_at s 0) && eqb (length (fields (line_at s 0).bytes)) 6) (fields (line_at s 0).bytes)) (of_fields (header_ends s) (next_of (line_at s 0)))
  unfolding header_of aag aig
  fields-is ls =
      let ws = fields (line_at s 0).bytes in let first : List ℕ = get_or ws 0 [] in
      ap (λ (e : Bool). and_then (only (e && (eqb (length ws) 6 && (same first aig || same first aag))) (drop 1 ws)) (λ vs. and_then (numbers vs) (λ ns. Some (header_of_numbers (same first aig) (next_of (line_at s 0)) ns)))) (closed_is (same first aig))
      ∙ tests (ended (line_at s 0)) (header_ends s (same first aig)) (eqb (length ws) 6) (same first aig || same first aag) ws (λ vs. and_then (numbers vs) (λ ns. Some (header_of_numbers (same first aig) (next_of (line_at s 0)) ns)))
      ∙ same-fields (header_ends s) (ended (line_at s 0) && eqb (length ws) 6) ws (next_of (line_at s 0))

  first-is : (ls : List Line) → header_of (line_at s 0 ∷ ls) ≡ form_at s
  unfolding form_at tag_at tag_behind byte_at words_at seps_at
  first-is ls =
      fields-is ls
      ∙ ap (λ (o : Option (List (List ℕ))). and_then o (of_fields (header_ends s) (next_of (line_at s 0)))) (line-words 5 s 0)
      ∙ first-line (word_at s 0) (words_at 4 s (past s 0)) (next_of (line_at s 0)) (after_at 4 s (past s 0)) (past s 0) (header_ends s) (λ b c. cond (header_ends s b) (numbers_form s c.at b) None)
      (same (word_at s 0) aig) (same (word_at s 0) aag) (is_byte s (end_at s 0) 32) (seps_at 4 s (past s 0)) refl refl line-end
      (λ b. ap (λ (x : Option Header). cond (header_ends s b) x None) (five-is s (past s 0) b ∙ ap (λ (o : Option (List ℕ)). form_of b o (after_at 4 s (past s 0))) (sym (numbers-at 4 s (past s 0))))
      ∙ ended_form b (header_ends s b) (seps_at 4 s (past s 0)) (words_at 4 s (past s 0)) (after_at 4 s (past s 0)))

none_is : header_of (lines_from 0 [] []) ≡ form_at []
unfolding header_of lines_from form_at tag_at word_at aag aig text same
none_is = refl

pub header-means : (s : List ℕ) → header_of (lines_from 0 [] s) ≡ form_at s
header-means [] = none_is
header-means (b ∷ s) = ap header_of (lines_at_lem (b ∷ s) 0 (omega arith)) ∙ first-is (b ∷ s) (cond (ended (line_at (b ∷ s) 0)) (lines_from (past_line (b ∷ s) 0) [] (drop (past_line (b ∷ s) 0) (b ∷ s))) [])

-- ---- 7, 8, 9 and 19

module _ (s : List ℕ) where
  read_is : read_header s ≡ next (from? (form_at s) 7 0) (λ h. unless (eqb h.latches 0) 8 0 (unless (in_limits h) 9 0 (unless (in_sequence h) 19 0 (holds h))))
  unfolding read_header
  read_is = rw (header-means s)

  pub header-broken : form_at s ≡ None → read_header s ≡ fault 7 0
  unfolding next from?
  header-broken e = read_is ∙ rw e

  module _ (h : Header) (e : form_at s ≡ Some h) where
    pub header_latches : eqb h.latches 0 ≡ false → read_header s ≡ fault 8 0
    unfolding next from? unless
    header_latches f = read_is ∙ rw (e, f)

    pub header_limits : eqb h.latches 0 ≡ true → in_limits h ≡ false → read_header s ≡ fault 9 0
    unfolding next from? unless
    header_limits f l = read_is ∙ rw (e, f, l)

    pub header_sequence : eqb h.latches 0 ≡ true → in_limits h ≡ true → in_sequence h ≡ false → read_header s ≡ fault 19 0
    unfolding next from? unless
    header_sequence f l q = read_is ∙ rw (e, f, l, q)

    pub header-good : eqb h.latches 0 ≡ true → in_limits h ≡ true → in_sequence h ≡ true → read_header s ≡ holds h
    unfolding next from? unless
    header-good f l q = read_is ∙ rw (e, f, l, q)

-- what 9 leaves: I + A is in range
pub limits_sum : (h : Header) → in_limits h ≡ true → h.inputs + h.ands ≤ 4095
unfolding in_limits
limits_sum h e =
    let r = and_right (leb h.size 4095) (leb h.outputs 4096 && leb (h.inputs + h.ands) h.size) e in
    let a : h.size ≤ 4095 = leb-true h.size 4095 (and_left (leb h.size 4095) (leb h.outputs 4096 && leb (h.inputs + h.ands) h.size) e) in
    let b : h.inputs + h.ands ≤ h.size = leb-true (h.inputs + h.ands) h.size (and_right (leb h.outputs 4096) (leb (h.inputs + h.ands) h.size) r) in
    omega arith

-- what `header` ensures is its answer, by case, number and values
pub header_told : (s : List ℕ) (r : (Result Header Refusal)) → r ≡ header_answer (read_header s)
    → (r ≡ header_answer (read_header s)) × ((verdict_refusal r ≡ refusal_of (read_header s)) × (header_values r ≡ header_numbers (read_header s)))
header_told s r e = let t = header-refusal r (read_header s) e in (t.0, (t.1, t.2))

-- a header that is answered is the text's
pub header_read_lem : (r : Read Header) (h : Header) → header_answer r ≡ Ok h → r ≡ holds h
unfolding header_answer
header_read_lem (holds k) h e = let i : k ≡ h = cc in ap holds i
header_read_lem (fault n k) h e = let z : ◌≡◌ {A = ℕ} 0 1 = cc in absurd (omega arith)
