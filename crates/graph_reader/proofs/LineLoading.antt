-- A step of the loop over the expected lines is a line of the crate model's:
--     step             the line at a place is refused by both, or read by both
use Rattle.std.specs.Prelude.{Ok}
use Rattle.base.specs.{◌≡◌, refl, sym, ap, ◌∙◌, Bool, true, false, not, cond, ◌&&◌, None, Some, List, [], ◌∷◌, ℕ, ◌+◌, ◌≤◌, ◌<◌, ltb}
use Rattle.base.specs.{length, drop, ltb-true, ltb-false}
use Rattle.model.specs.{refused_with, elem, Line, ended, Read, holds, fault, next, unless, var_of, Kind, defines, closed, expected, item_literals, read_expected}
use Rattle.model.specs.Graph.{Graph}
use Rattle.model.specs.declared.Header.{Header}
use Rattle.base_text.specs.{line_at, past_line}
use Rattle.base_text.proofs.{lines_at_lem, lines_none}
use Rattle.graph_order.specs.{Fit}
use Rattle.graph_loading.specs.declared.Literals.{Literals}
use Rattle.graph_loading.specs.{expected_code, expected_count, literals_fit, may_define, is_already_defined, stored_line}
use Rattle.graph_loading.proofs.{code, expected_kind_value, expected-code, item_list, Short, item_of, taken_is, grown, more, State, state_more, lines_of}
use Rattle.graph_loading.proofs.{expected-missing, expected-none, expected-whole}
use Rattle.graph_reader.specs.{line_read, validated_at, step_at, step_words}
use Rattle.graph_reader.proofs.LineValidation.{step-none, step-good, step_bad}
use Rattle.graph_reader.proofs.ExpectedGraphLines.{expected-at, LineView, broken, whole, view}

-- ---- a step

unless_stop : {A : Type 0} (t : Bool) (n k : ℕ) (r : Read A) → t ≡ false → unless t n k r ≡ fault n k
unfolding unless
unless_stop t n k r e = rw e

unless_pass : {A : Type 0} (t : Bool) (n k : ℕ) (r : Read A) → t ≡ true → unless t n k r ≡ r
unfolding unless
unless_pass t n k r e = rw e

module _ (s : List ℕ) (at end m : ℕ) (before : List ℕ) (k : Kind) (ks : List Kind) (ls : List Line) where
  line-none : item_literals (closed false) k (line_at s at) ≡ None → read_expected (closed false) end m before (k ∷ ks) (line_at s at ∷ ls) ≡ fault 11 at
  unfolding line_at
  line-none = expected-none (closed false) (line_at s at) end m before k ks ls

  line-whole : (l : Literals) → item_literals (closed false) k (line_at s at) ≡ Some (item_list k l) → Short k l
      → read_expected (closed false) end m before (k ∷ ks) (line_at s at ∷ ls)
      ≡ unless (literals_fit m l && may_define (code k) l.first) 12 at
      (unless (not (defines k && elem (var_of l.first) before)) 13 at
      (next (read_expected (closed false) end m (more k before l) ks ls) (λ is. holds (item_of k at l ∷ is))))
  unfolding line_at
  line-whole = expected-whole (closed false) (line_at s at) end m before k ks ls

pub data Step (s : List ℕ) (h : Header) (w₀ : List ℕ) (k at : ℕ) (w : List ℕ) (before : List ℕ) (g : Graph) : Type 0 where
  stops : (a b : ℕ) → step_at s at w h k ≡ refused_with a b → read_expected (closed false) (length s) h.size before (drop k (expected h)) (lines_of s at) ≡ fault a b → Step s h w₀ k at w before g
  goes : (l : Literals) → line_read s at (expected_code h k) ≡ Some l → Short (expected_kind_value h k) l → literals_fit h.size l ≡ true
      → step_at s at w h k ≡ Ok l.next → step_words s at w h k ≡ stored_line w h k l
      → read_expected (closed false) (length s) h.size before (drop k (expected h)) (lines_of s at)
      ≡ next (read_expected (closed false) (length s) h.size (more (expected_kind_value h k) before l) (drop (k + 1) (expected h)) (lines_of s l.next)) (λ is. holds (item_of (expected_kind_value h k) at l ∷ is))
      → State h w₀ (k + 1) (stored_line w h k l) (more (expected_kind_value h k) before l) (grown (expected_kind_value h k) g l)
      → Step s h w₀ k at w before g

module _ (s : List ℕ) (h : Header) (w₀ : List ℕ) (fit : Fit h w₀) (k at : ℕ) (w : List ℕ) (before : List ℕ) (g : Graph) (st : State h w₀ k w before g) (b : k < expected_count h) where
  validated : (l : Literals) (t u x : Bool) → line_read s at (expected_code h k) ≡ Some l → literals_fit h.size l ≡ t → may_define (expected_code h k) l.first ≡ u → is_already_defined w h.size (expected_code h k) l.first ≡ x
      → validated_at s at w h.size (expected_code h k) ≡ cond (t && u) (cond x (refused_with 13 at) (Ok l)) (refused_with 12 at)
  unfolding validated_at
  validated l t u x r f m c = rw (r, f, m, c)

  unread : line_read s at (expected_code h k) ≡ None → validated_at s at w h.size (expected_code h k) ≡ refused_with 11 at
  unfolding validated_at
  unread r = rw r

  past_end_lem : length s ≤ at → Step s h w₀ k at w before g
  past_end_lem e =
      stops 11 (length s) (step-none s at w h k e).0
      (ap (λ (ks : List Kind). read_expected (closed false) (length s) h.size before ks (lines_of s at)) (expected-at h k b)
      ∙ ap (read_expected (closed false) (length s) h.size before (expected_kind_value h k ∷ drop (k + 1) (expected h))) (lines_none s at e)
      ∙ expected-missing (closed false) (length s) h.size before (expected_kind_value h k) (drop (k + 1) (expected h)))

  module _ (in_text : at < length s) where
    rest : List Line
    rest = cond (ended (line_at s at)) (lines_of s (past_line s at)) []

    first-line : read_expected (closed false) (length s) h.size before (drop k (expected h)) (lines_of s at) ≡ read_expected (closed false) (length s) h.size before (expected_kind_value h k ∷ drop (k + 1) (expected h)) (line_at s at ∷ rest)
    unfolding rest
    first-line =
        ap (λ (ks : List Kind). read_expected (closed false) (length s) h.size before ks (lines_of s at)) (expected-at h k b)
        ∙ ap (read_expected (closed false) (length s) h.size before (expected_kind_value h k ∷ drop (k + 1) (expected h))) (lines_at_lem s at in_text)

    behind : (l : Literals) → ended (line_at s at) ≡ true → l.next ≡ past_line s at → rest ≡ lines_of s l.next
    unfolding rest
    behind l e n = rw e (ap (lines_of s) (sym n))

    with_line : (l : Literals) → line_read s at (expected_code h k) ≡ Some l → item_literals (closed false) (expected_kind_value h k) (line_at s at) ≡ Some (item_list (expected_kind_value h k) l) → Short (expected_kind_value h k) l → rest ≡ lines_of s l.next
        → (t u x : Bool) → literals_fit h.size l ≡ t → may_define (expected_code h k) l.first ≡ u → is_already_defined w h.size (expected_code h k) l.first ≡ x
        → Step s h w₀ k at w before g
    with_line l r i short on t u x f m c = tried t u x f m c (validated l t u x r f m c)
      where
        model : read_expected (closed false) (length s) h.size before (drop k (expected h)) (lines_of s at)
            ≡ unless (literals_fit h.size l && may_define (expected_code h k) l.first) 12 at
            (unless (not (defines (expected_kind_value h k) && elem (var_of l.first) before)) 13 at
            (next (read_expected (closed false) (length s) h.size (more (expected_kind_value h k) before l) (drop (k + 1) (expected h)) (lines_of s l.next)) (λ is. holds (item_of (expected_kind_value h k) at l ∷ is))))
        model =
            first-line
            ∙ line-whole s at (length s) h.size before (expected_kind_value h k) (drop (k + 1) (expected h)) rest l i short
            ∙ rw (expected-code h k, on)

        taken : literals_fit h.size l ≡ true → may_define (expected_code h k) l.first ≡ true → (defines (expected_kind_value h k) && elem (var_of l.first) before) ≡ is_already_defined w h.size (expected_code h k) l.first
        taken a d = taken_is h.size w before (expected_kind_value h k) l st.known a (rw (expected-code h k) d) ∙ rw (expected-code h k)

        tried : (t u x : Bool) → literals_fit h.size l ≡ t → may_define (expected_code h k) l.first ≡ u → is_already_defined w h.size (expected_code h k) l.first ≡ x
            → validated_at s at w h.size (expected_code h k) ≡ cond (t && u) (cond x (refused_with 13 at) (Ok l)) (refused_with 12 at) → Step s h w₀ k at w before g
        tried false u x f m c j = stops 12 at (step_bad s at w h k _ in_text j).0 (model ∙ unless_stop _ 12 at _ (rw f))
        tried true false x f m c j = stops 12 at (step_bad s at w h k _ in_text j).0 (model ∙ unless_stop _ 12 at _ (rw (f, m)))
        tried true true true f m c j = stops 13 at (step_bad s at w h k _ in_text j).0 (model ∙ unless_pass _ 12 at _ (rw (f, m)) ∙ unless_stop _ 13 at _ (rw (taken f m ∙ c)))
        tried true true false f m c j =
            goes l r short f (step-good s at w h k l in_text j).0 (step-good s at w h k l in_text j).1
            (model ∙ unless_pass _ 12 at _ (rw (f, m)) ∙ unless_pass _ 13 at _ (rw (taken f m ∙ c)))
            (state_more h w₀ fit k w before g st l b f c)

    by_view : LineView s at (expected_kind_value h k) → Step s h w₀ k at w before g
    by_view (broken r i) =
        stops 11 at (step_bad s at w h k _ in_text (unread (rw (sym (expected-code h k)) r))).0
        (first-line ∙ line-none s at (length s) h.size before (expected_kind_value h k) (drop (k + 1) (expected h)) rest i)
    by_view (whole l r i short e n) =
        with_line l (rw (sym (expected-code h k)) r) i short (behind l e n) (literals_fit h.size l) (may_define (expected_code h k) l.first) (is_already_defined w h.size (expected_code h k) l.first) refl refl refl

  pub step : Step s h w₀ k at w before g
  step = go (ltb at (length s)) refl
    where
      go : (t : Bool) → ltb at (length s) ≡ t → Step s h w₀ k at w before g
      go true e = by_view (ltb-true at (length s) e) (view (expected_kind_value h k) s at)
      go false e = past_end_lem (ltb-false at (length s) e)
