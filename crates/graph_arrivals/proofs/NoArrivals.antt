-- The first line of an arrivals' text, and what lies behind it.
use Rattle.std.specs.Prelude.{Ok}
use Rattle.base.specs.{ℕ, ◌<◌, arith, ◌≡◌, refl, sym, ap, ◌∙◌, true, false, cond, ◌&&◌, List, [], ◌∷◌, length, drop}
use Rattle.model.specs.{same, ended, lines_from, unless, verdict_of, read_input_arrivals, read_input_arrival_lines, read_arrivals, refused_with}
use Rattle.base_text.specs.declared.Span.{Span}
use Rattle.base_text.specs.{line_at, past_line, span_at, first_is}
use Rattle.base_text.proofs.{and_left, lines_at_lem, first-is, span-next}
use Rattle.graph_arrivals.specs.{head_line, put_all, passed, listed_lines, listed}
use Rattle.graph_arrivals.proofs.ArrivalLines.{lines_of}

-- an empty text
pub none-listed : (inputs m : ℕ) (s w : List ℕ) → length s ≡ 0 → ((Ok tt) ≡ verdict_of (read_arrivals inputs s)) × (w ≡ put_all w m (listed inputs s))
unfolding read_arrivals read_input_arrival_lines lines_from verdict_of listed listed_lines put_all
none-listed inputs m [] w e = (refl, refl)
none-listed inputs m (b ∷ s) w e = absurd (omega arith)

module _ (inputs : ℕ) (s : List ℕ) (some : 0 < length s) where
  read_by : read_arrivals inputs s ≡ unless (ended (line_at s 0) && same (line_at s 0).bytes head_line) 25 0 (read_input_arrivals inputs [] (cond (ended (line_at s 0)) (lines_of s (past_line s 0)) []))
  unfolding read_arrivals read_input_arrival_lines head_line line_at
  read_by = ap (read_input_arrival_lines inputs) (lines_at_lem s 0 some)

  listed_by : listed inputs s ≡ cond (ended (line_at s 0) && same (line_at s 0).bytes head_line) (passed inputs [] (cond (ended (line_at s 0)) (lines_of s (past_line s 0)) [])) []
  unfolding listed listed_lines head_line
  listed_by = ap (listed_lines inputs) (lines_at_lem s 0 some)

  -- the first line, as it is handed back
  module _ (l : Span) (is : l ≡ span_at s 0) where
    pub head-not : first_is s l head_line ≡ false → (m : ℕ) (w : List ℕ) → (refused_with 25 0 ≡ verdict_of (read_arrivals inputs s)) × (w ≡ put_all w m (listed inputs s))
    unfolding unless verdict_of put_all
    head-not e m w =
        let x = sym (first-is s head_line) ∙ sym (ap (λ (x : Span). first_is s x head_line) is) ∙ e in
        (sym (ap verdict_of read_by ∙ rw x), sym (ap (put_all w m) listed_by ∙ rw x))

    pub head_read : first_is s l head_line ≡ true → read_arrivals inputs s ≡ read_input_arrivals inputs [] (lines_from l.next [] (drop l.next s))
    unfolding unless
    head_read e =
        let x = sym (first-is s head_line) ∙ sym (ap (λ (x : Span). first_is s x head_line) is) ∙ e in
        let u : ended (line_at s 0) ≡ true = and_left (ended (line_at s 0)) (same (line_at s 0).bytes head_line) x in
        read_by ∙ rw (x, u) (ap (λ (k : ℕ). read_input_arrivals inputs [] (lines_of s k)) (sym (ap (λ (y : Span). y.next) is ∙ span-next s 0)))

    pub head-listed : first_is s l head_line ≡ true → listed inputs s ≡ passed inputs [] (lines_from l.next [] (drop l.next s))
    head-listed e =
        let x = sym (first-is s head_line) ∙ sym (ap (λ (x : Span). first_is s x head_line) is) ∙ e in
        let u : ended (line_at s 0) ≡ true = and_left (ended (line_at s 0)) (same (line_at s 0).bytes head_line) x in
        listed_by ∙ rw (x, u) (ap (λ (k : ℕ). passed inputs [] (lines_of s k)) (sym (ap (λ (y : Span). y.next) is ∙ span-next s 0)))
