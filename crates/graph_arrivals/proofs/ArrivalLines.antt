-- A step of the reader is a line of the crate model's:
--     view             the line at a place has its two numbers, and then these are found and the next line begins behind them, or it has not
--     step-read, step-passed      what the model makes of the lines from a place on, by what `validated_at` says of the line there
--     validated-over, validated-again, validated-fresh     the tests of a line that has its form
--     validated-good      what is known where it finds an index and an arrival
use Rattle.std.specs.Prelude.{Result, Ok, Err}
use Rattle.base.specs.{ℕ, ◌≤◌, ◌<◌, arith, ◌≡◌, refl, sym, ap, ◌∙◌, Bool, true, false, not, cond, ◌&&◌, Option, None, Some, List, [], ◌∷◌}
use Rattle.base.specs.{eqb, ltb, length, drop, get_or, eq-eqb, ne_eqb, lt-ltb, le-ltb, ltb-true}
use Rattle.model.specs.{elem, and_then, Line, ended, lines_from, number, numbers, Read, holds, fault, next, unless, from?, InputArrival, input_arrival_numbers}
use Rattle.model.specs.{read_input_arrivals, refused_with}
use Rattle.model.specs.declared.Refusal.{Refusal}
use Rattle.base_text.specs.declared.Cursor.{Cursor}
use Rattle.base_text.specs.{line_at, past_line, after_at, numbers_at}
use Rattle.base_text.proofs.{past, past_end, found, found_end, number_is, number-end-is, lines_at_lem, line-words, numbers-at, numbers-ended}
use Rattle.base_text.proofs.{and_left}
use Rattle.graph_arrivals.specs.{Entry, entry_at, validated_at, passed}

-- the lines from a place on
abbrev pub lines_of : List ℕ → ℕ → List Line
lines_of s at = lines_from at [] (drop at s)

-- ---- the line at a place

data View (s : List ℕ) (at : ℕ) : Type 0 where
  broken : entry_at s at ≡ None → input_arrival_numbers (line_at s at) ≡ None → View s at
  whole : (i t : ℕ) (c : Cursor) → entry_at s at ≡ Some (i, t, c) → input_arrival_numbers (line_at s at) ≡ Some (i ∷ t ∷ []) → ended (line_at s at) ≡ true
      → past_line s at ≡ c.at → View s at

two-numbers : (s : List ℕ) (at : ℕ) → input_arrival_numbers (line_at s at) ≡ numbers_at 1 s at
unfolding input_arrival_numbers
two-numbers s at = ap (λ (o : Option (List (List ℕ))). and_then o numbers) (line-words 1 s at) ∙ numbers-at 1 s at

after_two : (s : List ℕ) (at : ℕ) → after_at 1 s at ≡ past_end s (past s at)
unfolding after_at
after_two s at = refl

view : (s : List ℕ) (at : ℕ) → View s at
unfolding entry_at numbers_at and_then
view s at = go (found number s at 32) refl (found_end s (past s at)) refl
  where
    go : (a : Option ℕ) → found number s at 32 ≡ a → (b : Option ℕ) → found_end s (past s at) ≡ b → View s at
    go None e b f = broken (rw (number_is s at 32, e)) (two-numbers s at ∙ rw (number_is s at 32, e))
    go (Some i) e None f =
        broken (rw (number_is s at 32, e, number-end-is s (past s at), f)) (two-numbers s at ∙ rw (number_is s at 32, e, number-end-is s (past s at), f))
    go (Some i) e (Some t) f =
        let n : numbers_at 1 s at ≡ Some (i ∷ t ∷ []) = rw (number_is s at 32, e, number-end-is s (past s at), f) in
        let ends = numbers-ended 1 s at (i ∷ t ∷ []) n in
        whole i t (record { at = past_end s (past s at) }) (rw (number_is s at 32, e, number-end-is s (past s at), f)) (two-numbers s at ∙ n) ends.0
        (sym ends.1 ∙ after_two s at)

-- a line that has its end takes bytes
on_goes : (s : List ℕ) (at : ℕ) → ended (line_at s at) ≡ true → at < past_line s at
unfolding line_at past_line
on_goes s at e = omega (arith, ltb-true 0 (line_at s at).ending e)

-- ---- a step

-- an index has its mark just where it was listed
pub record Marked (seen before : List ℕ) : Type 0 where
  pub long : length seen ≡ 4096
  pub here : (k : ℕ) → k < 4096 → eqb (get_or seen k 0) 0 ≡ not (elem k before)

module _ (s : List ℕ) (at : ℕ) (h : at < length s) (inputs : ℕ) (few : inputs ≤ 4096) (seen before : List ℕ) (marked : Marked seen before) where
  same_test : (i : ℕ) → (ltb i inputs && eqb (get_or seen i 0) 0) ≡ (ltb i inputs && not (elem i before))
  same_test i = go (ltb i inputs) refl
    where
      go : (b : Bool) → ltb i inputs ≡ b → (b && eqb (get_or seen i 0) 0) ≡ (b && not (elem i before))
      go true e = marked.here i (let l : i < inputs = ltb-true i inputs e in omega arith)
      go false e = refl

  -- what a step makes of the lines
  unfoldable pub step_read : Result Entry Refusal → Read (List InputArrival)
  step_read (Err r) = fault r.number r.place
  step_read (Ok (i, t, c)) = next (read_input_arrivals inputs (i ∷ before) (lines_of s c.at)) (λ es. holds (record { index = i; arrival = t } ∷ es))

  unfoldable pub step_passed : Result Entry Refusal → List InputArrival
  step_passed (Err r) = []
  step_passed (Ok (i, t, c)) = record { index = i; arrival = t } ∷ passed inputs (i ∷ before) (lines_of s c.at)

  picked_read : (b : Bool) (i t : ℕ) (c : Cursor)
      → unless b 26 at (next (read_input_arrivals inputs (i ∷ before) (lines_of s c.at)) (λ es. holds (record { index = i; arrival = t } ∷ es))) ≡ step_read (cond b (Ok (i, t, c)) (refused_with 26 at))
  unfolding unless step_read
  picked_read true i t c = refl
  picked_read false i t c = refl

  picked_passed : (b : Bool) (i t : ℕ) (c : Cursor)
      → cond b (record { index = i; arrival = t } ∷ passed inputs (i ∷ before) (lines_of s c.at)) [] ≡ step_passed (cond b (Ok (i, t, c)) (refused_with 26 at))
  unfolding step_passed
  picked_passed true i t c = refl
  picked_passed false i t c = refl

  behind : (c : Cursor) → ended (line_at s at) ≡ true → past_line s at ≡ c.at → cond (ended (line_at s at)) (lines_of s (past_line s at)) [] ≡ lines_of s c.at
  behind c e p = rw e (ap (lines_of s) p)

  pub step-read : read_input_arrivals inputs before (lines_of s at) ≡ step_read (validated_at s at inputs seen)
  unfolding read_input_arrivals validated_at line_at next from? step_read
  step-read = ap (read_input_arrivals inputs before) (lines_at_lem s at h) ∙ go (view s at)
    where
      go : View s at → read_input_arrivals inputs before (line_at s at ∷ cond (ended (line_at s at)) (lines_of s (past_line s at)) []) ≡ step_read (validated_at s at inputs seen)
      go (broken e n) = rw (e, n)
      go (whole i t c e n u p) =
          ap (λ (ls : List Line). read_input_arrivals inputs before (line_at s at ∷ ls)) (behind c u p)
          ∙ rw (e, n, same_test i) (picked_read (ltb i inputs && not (elem i before)) i t c)

  pub step-passed : passed inputs before (lines_of s at) ≡ step_passed (validated_at s at inputs seen)
  unfolding passed validated_at line_at step_passed
  step-passed = ap (passed inputs before) (lines_at_lem s at h) ∙ go (view s at)
    where
      go : View s at → passed inputs before (line_at s at ∷ cond (ended (line_at s at)) (lines_of s (past_line s at)) []) ≡ step_passed (validated_at s at inputs seen)
      go (broken e n) = rw (e, n)
      go (whole i t c e n u p) =
          ap (λ (ls : List Line). passed inputs before (line_at s at ∷ ls)) (behind c u p)
          ∙ rw (e, n, same_test i) (picked_passed (ltb i inputs && not (elem i before)) i t c)

-- ---- the tests, as the code makes them

module _ (s : List ℕ) (at inputs : ℕ) (seen : List ℕ) (i t : ℕ) (c : Cursor) (e : entry_at s at ≡ Some (i, t, c)) (j : ℕ) (is : j ≡ i) where
  by_test : (b : Bool) → (ltb i inputs && eqb (get_or seen i 0) 0) ≡ b → validated_at s at inputs seen ≡ cond b (Ok (i, t, c)) (refused_with 26 at)
  unfolding validated_at
  by_test b q = rw (e, q)

  pub validated-over : inputs ≤ j → refused_with 26 at ≡ validated_at s at inputs seen
  validated-over h = sym (by_test false (rw (le-ltb i inputs (omega arith))))

  pub validated-again : j < inputs → (get_or seen j 0 ≡ 0 → ⊥) → refused_with 26 at ≡ validated_at s at inputs seen
  validated-again h n = sym (by_test false (rw (lt-ltb i inputs (omega arith), ne_eqb (get_or seen i 0) 0 (λ q. n (ap (λ (k : ℕ). get_or seen k 0) is ∙ q)))))

  pub validated-fresh : j < inputs → get_or seen j 0 ≡ 0 → Ok (i, t, c) ≡ validated_at s at inputs seen
  validated-fresh h z = sym (by_test true (rw (lt-ltb i inputs (omega arith), eq-eqb (get_or seen i 0) 0 (ap (λ (k : ℕ). get_or seen k 0) (sym is) ∙ z))))

-- ---- where an index and an arrival are found

bad_good : {r : Refusal} {x : Entry} → Err r ≡ Ok x → ⊥
bad_good {r} {x} h = let z : ◌≡◌ {A = ℕ} 0 1 = cc in omega arith

pub validated-good : (s : List ℕ) (at inputs : ℕ) (seen : List ℕ) (i t : ℕ) (c : Cursor) → validated_at s at inputs seen ≡ Ok (i, t, c) → (i < inputs) × (at < c.at)
unfolding validated_at
validated-good s at inputs seen i t c q = go (view s at)
  where
    inner : (b : Bool) (j u : ℕ) (d : Cursor) → cond {A = Result Entry Refusal} b (Ok (j, u, d)) (refused_with 26 at) ≡ Ok (i, t, c) → (b ≡ true) × (j ≡ i) × (d ≡ c)
    inner true j u d e = let p : ◌≡◌ {A = Entry} (j, u, d) (i, t, c) = cc in (refl, ap (λ (x : Entry). x.0) p, ap (λ (x : Entry). x.2) p)
    inner false j u d e = absurd (bad_good e)

    go : View s at → (i < inputs) × (at < c.at)
    go (broken e n) = absurd (bad_good (rw e at q))
    go (whole j u d e n l p) =
        let r = inner (ltb j inputs && eqb (get_or seen j 0) 0) j u d (rw e at q) in
        let b : j < inputs = ltb-true j inputs (and_left (ltb j inputs) (eqb (get_or seen j 0) 0) r.0) in
        let x : d.at ≡ c.at = ap (λ (y : Cursor). y.at) r.2 in
        (omega (arith, r.1), omega (arith, on_goes s at l))
