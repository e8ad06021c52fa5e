-- A step of the reader is a line of the crate model's:
--     turn            what the model makes of the lines from a place on is what `validated_at` says of the line there, and then of the lines behind it
--     validated-cell     what is known where `validated_at` finds a cell
--     so-far-..       the loop's invariant: at its start, where it stops, and a step on
--     tidy-..         the library holds its cells and nothing else
use Rattle.std.specs.Prelude.{Result, Ok, Err}
use Rattle.base.specs.{Option, None, Some, ℕ, zero, suc, ◌+◌, ◌-◌, ◌≤◌, ◌<◌, le_refl, add-one, arith, ◌≡◌, refl, sym, ap, ◌∙◌, subst, Bool, true, false, not}
use Rattle.base.specs.{cond, List, [], ◌∷◌, ◌++◌, append-nil, ltb, length, take, drop, set, length-set, length-append, replicate}
use Rattle.base.specs.{append_snoc, take-suc-set, get_or-set_same, get_or-set_other, set_at, ltb-true}
use Rattle.model.specs.{any, same, Line, ended, lines_from, Read, holds, fault, next, unless, from?, name_of, no_cell, blank, library_of}
use Rattle.model.specs.{cells_of, cell_of_line, is_clean, no_lower, read_cells}
use Rattle.model.specs.declared.Cell.{Cell}
use Rattle.model.specs.declared.Library.{Library}
use Rattle.base_text.specs.{word_at, line_at, past_line}
use Rattle.base_text.proofs.{lines_at_lem, lines_none, past-at, part-is, end_le, end-from, name-fits, name_taken}
use Rattle.cells_reader.specs.declared.Figures.{Figures}
use Rattle.cells_reader.specs.declared.FormedLine.{FormedLine}
use Rattle.cells_reader.specs.{form_at, line_cell, before, is_repeated, added, figures_validated, validated_at, pick_validated, on_form}
use Rattle.cells_reader.proofs.CellLineForms.{whole_of, form_means, form_means_lem, form_cell}

-- the lines from a place on
abbrev pub lines_of : List ℕ → ℕ → List Line
lines_of s at = lines_from at [] (drop at s)

-- the name of a line's cell is the line's
name_of_lem : (w : List ℕ) (f : Figures) → name_of (line_cell w f) ≡ w
unfolding name_of line_cell
name_of_lem w f = name_taken w

-- what a step makes of the line at a place, of which w is the name
unfoldable pub step_of : Bool → List ℕ → ℕ → ℕ → List Cell → List ℕ → Result FormedLine ℕ → Read (List Cell)
step_of ranged s at n bs w (Err k) = fault k at
step_of ranged s at n bs w (Ok f) = next (read_cells ranged (suc n) (line_cell w f.figures ∷ bs) (lines_of s f.next.at)) (λ cs. holds (line_cell w f.figures ∷ cs))

-- the tests of a line that has its form, by what they say
module _ (ranged : Bool) (s : List ℕ) (at n : ℕ) (bs : List Cell) (w : List ℕ) (f : FormedLine) where
  tests : (r k i : Bool)
      → unless (not r) 5 at (unless k 6 at (unless i 27 at (next (read_cells ranged (suc n) (line_cell w f.figures ∷ bs) (lines_of s f.next.at)) (λ cs. holds (line_cell w f.figures ∷ cs)))))
      ≡ step_of ranged s at n bs w (pick_validated r (Err 5) (pick_validated k (pick_validated i (Ok f) (Err 27)) (Err 6)))
  unfolding step_of unless
  tests true k i = refl
  tests false true true = refl
  tests false true false = refl
  tests false false i = refl

module _ (ranged : Bool) (l : Library) (s : List ℕ) (at : ℕ) (h : at < length s) where
  behind : (f : FormedLine) → form_at ranged s at ≡ Some f
      → cond (ended (line_at s at)) (lines_of s (past_line s at)) [] ≡ lines_of s f.next.at
  behind f k =
      let r = form_cell ranged s at f k in
      let p = past-at (whole_of ranged) s at r.1 in
      let q : past_line s at ≡ f.next.at = sym p.1 ∙ sym r.3 in
      rw p.0 (ap (lines_of s) q)

  -- the line has its form or not
  by_form : (form : Option FormedLine) → form_at ranged s at ≡ form
      → next (from? (cell_of_line ranged (line_at s at)) 4 at) (λ c.
      unless (not (any (λ (d : Cell). same (name_of c) (name_of d)) (before l.cells l.n))) 5 at
      (unless (is_clean c) 6 at
      (unless (no_lower c.mins c.delays) 27 at
      (next (read_cells ranged (suc l.n) (c ∷ before l.cells l.n) (cond (ended (line_at s at)) (lines_of s (past_line s at)) [])) (λ cs. holds (c ∷ cs))))))
      ≡ step_of ranged s at l.n (before l.cells l.n) (word_at s at)
      (on_form form (λ f. pick_validated (is_repeated (take (f.end - at) (drop at s)) l.cells l.n) (Err 5) (figures_validated f)) (Err 4))
  unfolding step_of form_means from? next is_repeated is_clean line_cell figures_validated
  by_form None k = rw (form_means_lem ranged s at ∙ ap (form_means (word_at s at)) k)
  by_form (Some f) k =
      let part : take (f.end - at) (drop at s) ≡ word_at s at = part-is s at f.end (form_cell ranged s at f k).2 in
      rw (form_means_lem ranged s at ∙ ap (form_means (word_at s at)) k, part, behind f k, name_of_lem (word_at s at) f.figures)
      (tests ranged s at l.n (before l.cells l.n) (word_at s at) f (is_repeated (word_at s at) l.cells l.n) (is_clean (line_cell [] f.figures)) (no_lower (line_cell [] f.figures).mins (line_cell [] f.figures).delays))

  pub step : read_cells ranged l.n (before l.cells l.n) (lines_of s at)
      ≡ step_of ranged s at l.n (before l.cells l.n) (word_at s at) (validated_at ranged l s at)
  unfolding read_cells validated_at line_at unless step_of
  step = ap (read_cells ranged l.n (before l.cells l.n)) (lines_at_lem s at h) ∙ go (ltb l.n 32) refl
    where
      go : (b : Bool) → ltb l.n 32 ≡ b
          → read_cells ranged l.n (before l.cells l.n) (line_at s at ∷ cond (ended (line_at s at)) (lines_of s (past_line s at)) [])
          ≡ step_of ranged s at l.n (before l.cells l.n) (word_at s at) (validated_at ranged l s at)
      go true e = rw e (by_form (form_at ranged s at) refl)
      go false e = rw e

-- ---- where a cell is found

bad_good : {k : ℕ} {f : FormedLine} → ◌≡◌ {A = Result FormedLine ℕ} (Err k) (Ok f) → ⊥
bad_good h = let z : ◌≡◌ {A = ℕ} 0 1 = cc in omega arith

pub validated-cell : (ranged : Bool) (l : Library) (s : List ℕ) (at : ℕ) (f : FormedLine) → validated_at ranged l s at ≡ Ok f → (l.n < 32) × (form_at ranged s at ≡ Some f)
unfolding validated_at figures_validated
validated-cell ranged l s at f h = go (ltb l.n 32) refl (form_at ranged s at) refl h
  where
    inner : (r k i : Bool) (f₁ : FormedLine) → pick_validated r (Err 5) (pick_validated k (pick_validated i (Ok f₁) (Err 27)) (Err 6)) ≡ Ok f → Some f₁ ≡ Some f
    inner true k i f₁ q = absurd (bad_good q)
    inner false true true f₁ q = cc
    inner false true false f₁ q = absurd (bad_good q)
    inner false false i f₁ q = absurd (bad_good q)

    go : (b : Bool) → ltb l.n 32 ≡ b → (form : Option FormedLine) → form_at ranged s at ≡ form
        → pick_validated b (on_form form (λ f₁. pick_validated (is_repeated (take (f₁.end - at) (drop at s)) l.cells l.n) (Err 5) (figures_validated f₁)) (Err 4)) (Err 3) ≡ Ok f
        → (l.n < 32) × (form_at ranged s at ≡ Some f)
    go false x form y q = absurd (bad_good q)
    go true x None y q = absurd (bad_good q)
    go true x (Some f₁) y q =
        (ltb-true l.n 32 x, y ∙ inner (is_repeated (take (f₁.end - at) (drop at s)) l.cells l.n) (is_clean (line_cell [] f₁.figures)) (no_lower (line_cell [] f₁.figures).mins (line_cell [] f₁.figures).delays) f₁ q)

-- the name's part of the text: where it ends, its bytes, and that they are at most eight
module _ (ranged : Bool) (s : List ℕ) (at : ℕ) (f : FormedLine) (k : form_at ranged s at ≡ Some f) where
  pub part-from : at ≤ f.end
  part-from = subst (λ (x : ℕ). at ≤ x) (sym (form_cell ranged s at f k).2) (end-from s at)

  pub part_to : at ≤ length s → f.end ≤ length s
  part_to h = subst (λ (x : ℕ). x ≤ length s) (sym (form_cell ranged s at f k).2) (end_le s at h)

  pub part-word : take (f.end - at) (drop at s) ≡ word_at s at
  part-word = part-is s at f.end (form_cell ranged s at f k).2

  pub part-short : length (take (f.end - at) (drop at s)) ≤ 8
  part-short = rw part-word (name-fits (word_at s at) (form_cell ranged s at f k).0)

  pub pins-few : f.figures.pins ≤ 4
  pins-few = (form_cell ranged s at f k).4

-- ---- one cell more

before-set : (cells : List Cell) (n : ℕ) (c : Cell) (i : ℕ) → i ≤ n → before (set cells n c) i ≡ before cells i
unfolding before
before-set cells n c zero h = refl
before-set cells n c (suc i) h =
    let ne : (i ≡ n) → ⊥ = λ q. omega arith in
    rw (get_or-set_other cells n i c no_cell ne, before-set cells n c i (omega arith))

module _ (l : Library) (c : Cell) (capacity : l.n < length l.cells) where
  add-before : before (added l c).cells (l.n + 1) ≡ c ∷ before l.cells l.n
  unfolding before
  add-before = rw (add-one l.n, get_or-set_same l.cells l.n c no_cell capacity, before-set l.cells l.n c l.n (le_refl l.n))

  add-cells : cells_of (added l c) ≡ cells_of l ++ (c ∷ [])
  unfolding cells_of
  add-cells = rw (add-one l.n) (take-suc-set l.cells l.n c capacity)

-- ---- the loop

-- the cells so far, and what the lines from here on give
unfoldable pub prefixed : List Cell → Read (List Cell) → Read (List Cell)
prefixed cs r = next r (λ ds. holds (cs ++ ds))

prefixed_next : (cs : List Cell) (m : Cell) (r : Read (List Cell)) → prefixed cs (next r (λ ds. holds (m ∷ ds))) ≡ prefixed (cs ++ (m ∷ [])) r
unfolding prefixed next
prefixed_next cs m (holds ds) = ap holds (sym (append_snoc cs m ds))
prefixed_next cs m (fault n k) = refl

-- what the lines give, by a library so far and a place
unfoldable pub so_far : Bool → Library → List ℕ → ℕ → Read (List Cell)
so_far ranged l s at = prefixed (cells_of l) (read_cells ranged l.n (before l.cells l.n) (lines_of s at))

no_prefix : (r : Read (List Cell)) → r ≡ next r (λ ds. holds ([] ++ ds))
unfolding next
no_prefix (holds ds) = refl
no_prefix (fault n k) = refl

pub so_far-first : (ranged : Bool) (s : List ℕ) (at : ℕ) → read_cells ranged 0 [] (lines_of s at) ≡ so_far ranged (library_of []) s at
unfolding so_far prefixed cells_of library_of before
so_far-first ranged s at = no_prefix (read_cells ranged 0 [] (lines_of s at))

pub so_far_last : (ranged : Bool) (l : Library) (s : List ℕ) (at : ℕ) → length s ≤ at → so_far ranged l s at ≡ holds (cells_of l)
unfolding so_far prefixed read_cells next
so_far_last ranged l s at h = rw (lines_none s at h) (ap holds (append-nil (cells_of l)))

pub so_far_stop : (ranged : Bool) (l : Library) (s : List ℕ) (at k : ℕ) → at < length s → validated_at ranged l s at ≡ Err k → so_far ranged l s at ≡ fault k at
unfolding so_far prefixed next step_of
so_far_stop ranged l s at k h e = ap (prefixed (cells_of l)) (step ranged l s at h ∙ ap (step_of ranged s at l.n (before l.cells l.n) (word_at s at)) e)

pub so_far_more : (ranged : Bool) (l : Library) (s : List ℕ) (at : ℕ) (f : FormedLine) → at < length s → length l.cells ≡ 32 → validated_at ranged l s at ≡ Ok f
    → so_far ranged l s at ≡ so_far ranged (added l (line_cell (take (f.end - at) (drop at s)) f.figures)) s f.next.at
unfolding so_far step_of
so_far_more ranged l s at f h long j =
    let r = validated-cell ranged l s at f j in
    let x : Cell = line_cell (word_at s at) f.figures in
    let capacity : l.n < length l.cells = omega (arith, r.0) in
    ap (prefixed (cells_of l)) (step ranged l s at h ∙ ap (step_of ranged s at l.n (before l.cells l.n) (word_at s at)) j)
    ∙ prefixed_next (cells_of l) x (read_cells ranged (suc l.n) (x ∷ before l.cells l.n) (lines_of s f.next.at))
    ∙ rw (part-word ranged s at f r.1, sym (add-one l.n), sym (add-before l x capacity), sym (add-cells l x capacity))

-- the same, as the code makes the cell and the library
pub so_far-added : (ranged : Bool) (l : Library) (s : List ℕ) (at : ℕ) (f : FormedLine) (x : Cell) (m : Library) → at < length s → length l.cells ≡ 32 → validated_at ranged l s at ≡ Ok f
    → x ≡ line_cell (take (f.end - at) (drop at s)) f.figures → m ≡ added l x → so_far ranged l s at ≡ so_far ranged m s f.next.at
so_far-added ranged l s at f x m h long j i k =
    so_far_more ranged l s at f h long j ∙ ap (λ (y : Library). so_far ranged y s f.next.at) (sym (k ∙ ap (added l) i))

pub added-length : (l : Library) (x : Cell) (m : Library) → length l.cells ≡ 32 → m ≡ added l x → length m.cells ≡ 32
added-length l x m long k = ap (λ (y : Library). length y.cells) k ∙ length-set l.cells l.n x ∙ long

pub added-capacity : (l : Library) (x : Cell) (m : Library) → l.n < 32 → m ≡ added l x → m.n ≤ 32
added-capacity l x m capacity k = omega (arith, ap (λ (y : Library). y.n) k)

-- ---- nothing but its cells in the library

library_snoc : (cs : List Cell) (c : Cell) → length cs < 32 → library_of (cs ++ (c ∷ [])) ≡ added (library_of cs) c
unfolding library_of
library_snoc cs c h =
    let long : length (cs ++ (c ∷ [])) ≡ length cs + 1 = length-append cs (c ∷ []) in
    let left : 32 - length cs ≡ suc (32 - (length cs + 1)) = omega arith in
    let rest : List Cell = replicate (32 - (length cs + 1)) blank in
    rw (long, left, set_at cs blank rest c (length cs) refl, append_snoc cs c rest)

-- a library that holds its own cells and nothing else
abbrev pub Tidy : Library → Type 0
Tidy l = l ≡ library_of (cells_of l)

pub tidy_first : Tidy (library_of [])
unfolding library_of cells_of
tidy_first = refl

count_of : (l : Library) → Tidy l → l.n ≡ length (cells_of l)
unfolding library_of
count_of l t = ap (λ (y : Library). y.n) t

pub tidy_added : (l : Library) (x : Cell) (m : Library) → Tidy l → l.n < 32 → length l.cells ≡ 32 → m ≡ added l x → Tidy m
tidy_added l x m t capacity long k =
    let inside : l.n < length l.cells = omega arith in
    let count : l.n ≡ length (cells_of l) = count_of l t in
    k
    ∙ sym (ap (λ (y : Library). library_of (cells_of y)) k
    ∙ ap library_of (add-cells l x inside)
    ∙ library_snoc (cells_of l) x (omega arith)
    ∙ ap (λ (y : Library). added y x) (sym t))
