-- The last step: the netlist is measured, and then written or refused by 18.
use Rattle.std.specs.Prelude.{Ok}
use Rattle.base.specs.{ℕ, ◌+◌, ◌≤◌, ◌<◌, arith, ◌≡◌, refl, sym, ◌∙◌, ap, ap₂, subst, Bool, true, false, cond, List, ◌++◌, append_assoc, T}
use Rattle.base.specs.{leb, leb→le, le→leb, length, take, drop, length-append, take-append_seam, drop-append-add, drop-drop}
use Rattle.model.specs.{cells_of, Outcome, refused, mapped, chosen, min_arrival_of, timing_lines, within, answer_of, text_after, choice_text, refused_with}
use Rattle.model.specs.{choice_figures}
use Rattle.model.specs.Graph.{Graph}
use Rattle.model.specs.declared.Library.{Library}
use Rattle.model.specs.declared.Figures.{Figures}
use Rattle.base_words.specs.{put_at}
use Rattle.net_writer.specs.{text_for, measured_for}
use Rattle.model.specs.declared.Mapped.{Mapped as Measured}
use Rattle.mapper.specs.{all_of, Answered, printed_for}

pub answered-refused : (n k : ℕ) (text : List ℕ) → Answered (refused n k) text (refused_with n k) text
unfolding answer_of text_after
answered-refused n k text = record { answers = refl; bytes = refl }

within-not : (bytes : ℕ) (t : List ℕ) (f : Figures) → bytes < length t → within bytes (mapped t f) ≡ refused 18 (length t)
unfolding within
within-not bytes t f h = go (leb (length t) bytes) (leb→le (length t) bytes)
  where
    go : (b : Bool) → (T b → length t ≤ bytes) → cond b (mapped t f) (refused 18 (length t)) ≡ refused 18 (length t)
    go true y = absurd (let z : length t ≤ bytes = y tt in omega arith)
    go false y = refl

within-is : (bytes : ℕ) (t : List ℕ) (f : Figures) → length t ≤ bytes → within bytes (mapped t f) ≡ mapped t f
unfolding within
within-is bytes t f h = go (leb (length t) bytes) (le→leb (length t) bytes h)
  where
    go : (b : Bool) → T b → cond b (mapped t f) (refused 18 (length t)) ≡ mapped t f
    go true y = refl
    go false y = absurd y

module _ (lib : Library) (ids : List ℕ) (g : Graph) (text : List ℕ) (m : Measured) (is : m ≡ measured_for lib ids g) where
  t : List ℕ
  t = choice_text (cells_of lib) (all_of lib ids) g

  long : m.length ≡ length t
  unfolding t
  long = ap (λ (x : Measured). x.length) is

  pub print_short : length text < m.length → Answered (printed_for false lib ids g (length text)) text (refused_with 18 m.length) text
  unfolding t
  print_short h =
      subst (λ (o : Outcome). Answered o text (refused_with 18 m.length) text)
      (ap (refused 18) long ∙ sym (within-not (length text) t (choice_figures (cells_of lib) (all_of lib ids) g) (omega (arith, long))))
      (answered-refused 18 m.length text)

  pub print_capacity : m.length ≤ length text → length (text_for lib ids g m.figures) ≤ length text
  unfolding t
  print_capacity h = omega (arith, long, ap (λ (x : Measured). length (text_for lib ids g x.figures)) is)

  pub print_done : m.length ≤ length text → (out : List ℕ) → out ≡ text_for lib ids g m.figures ++ drop (length (text_for lib ids g m.figures)) text
      → Answered (printed_for false lib ids g (length text)) text (Ok (record { length = m.length; figures = m.figures })) out
  unfolding t answer_of text_after
  print_done h out e =
      subst (λ (o : Outcome). Answered o text (Ok (record { length = m.length; figures = m.figures })) out) (sym (within-is (length text) t (choice_figures (cells_of lib) (all_of lib ids) g) (omega (arith, long))))
      (record {
        answers = ap (λ (x : Measured). Ok (record { length = x.length; figures = x.figures })) is;
        bytes = e ∙ ap (λ (x : Measured). text_for lib ids g x.figures ++ drop (length (text_for lib ids g x.figures)) text) is;
      })

-- ---- with the timing lines

-- bytes put behind a text that stands at the start
put-behind : (t ls s : List ℕ) → put_at (t ++ drop (length t) s) (length t) ls ≡ (t ++ ls) ++ drop (length (t ++ ls)) s
unfolding put_at
put-behind t ls s =
    let a : take (length t) (t ++ drop (length t) s) ≡ t = take-append_seam t (drop (length t) s) in
    let b : drop (length t + length ls) (t ++ drop (length t) s) ≡ drop (length t + length ls) s =
    drop-append-add t (drop (length t) s) (length ls) ∙ drop-drop (length ls) (length t) s in
    ap₂ (λ (x : List ℕ) (y : List ℕ). x ++ (ls ++ y)) a b ∙ sym (append_assoc t ls (drop (length t + length ls) s)) ∙ ap (λ (n : ℕ). (t ++ ls) ++ drop n s) (sym (length-append t ls))

module _ (lib : Library) (ids : List ℕ) (g : Graph) (text : List ℕ) (m : Measured) (is : m ≡ measured_for lib ids g) (ls : List ℕ)
    (lines : ls ≡ timing_lines (min_arrival_of (all_of lib ids) g) (λ (l : ℕ). (chosen (all_of lib ids) g l).arrival) 0 g.outputs) where
  whole : List ℕ
  whole = choice_text (cells_of lib) (all_of lib ids) g ++ timing_lines (min_arrival_of (all_of lib ids) g) (λ (l : ℕ). (chosen (all_of lib ids) g l).arrival) 0 g.outputs

  whole_long : m.length + length ls ≡ length whole
  unfolding whole
  whole_long =
      let a : m.length ≡ length (choice_text (cells_of lib) (all_of lib ids) g) = ap (λ (x : Measured). x.length) is in
      let b = length-append (choice_text (cells_of lib) (all_of lib ids) g) (timing_lines (min_arrival_of (all_of lib ids) g) (λ (l : ℕ). (chosen (all_of lib ids) g l).arrival) 0 g.outputs) in
      omega (arith, a, b, ap length lines)

  pub timed-short : length text < m.length + length ls → Answered (printed_for true lib ids g (length text)) text (refused_with 18 (m.length + length ls)) text
  unfolding whole
  timed-short h =
      subst (λ (o : Outcome). Answered o text (refused_with 18 (m.length + length ls)) text)
      (ap (refused 18) whole_long ∙ sym (within-not (length text) whole (choice_figures (cells_of lib) (all_of lib ids) g) (omega (arith, whole_long))))
      (answered-refused 18 (m.length + length ls) text)

  pub timed-done : m.length + length ls ≤ length text → (mid out : List ℕ) → mid ≡ text_for lib ids g m.figures ++ drop (length (text_for lib ids g m.figures)) text
      → out ≡ put_at mid m.length ls → Answered (printed_for true lib ids g (length text)) text (Ok (record { length = m.length + length ls; figures = m.figures })) out
  unfolding whole answer_of text_after
  timed-done h mid out e f =
      let figs : m.figures ≡ choice_figures (cells_of lib) (all_of lib ids) g = ap (λ (x : Measured). x.figures) is in
      let a : m.length ≡ length (choice_text (cells_of lib) (all_of lib ids) g) = ap (λ (x : Measured). x.length) is in
      let written : out ≡ put_at (choice_text (cells_of lib) (all_of lib ids) g ++ drop (length (choice_text (cells_of lib) (all_of lib ids) g)) text) (length (choice_text (cells_of lib) (all_of lib ids) g)) ls =
      f ∙ (λ i. put_at (e i) m.length ls) ∙ (λ i. put_at (text_for lib ids g (figs i) ++ drop (length (text_for lib ids g (figs i))) text) (a i) ls) in
      subst (λ (o : Outcome). Answered o text (Ok (record { length = m.length + length ls; figures = m.figures })) out) (sym (within-is (length text) whole (choice_figures (cells_of lib) (all_of lib ids) g) (omega (arith, whole_long))))
      (record {
        answers = (λ i. Ok (record { length = whole_long i; figures = (figs i) }));
        bytes = written ∙ put-behind (choice_text (cells_of lib) (all_of lib ids) g) ls text ∙ ap (λ (xs : List ℕ). (choice_text (cells_of lib) (all_of lib ids) g ++ xs) ++ drop (length (choice_text (cells_of lib) (all_of lib ids) g ++ xs)) text) lines;
      })
