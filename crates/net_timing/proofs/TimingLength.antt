-- The timing lines one by one, their lengths, and that they are `model`'s.
use Rattle.base.specs.{ℕ, suc, ◌+◌, ◌-◌, ◌≤◌, ◌<◌, arith, ◌≡◌, refl, sym, ap, ap₂, ◌∙◌, List, [], ◌∷◌, ◌++◌, append_assoc, Memᴰ}
use Rattle.base.specs.{Memᴰ-head, Memᴰ-tail, length, length-append, get_or}
use Rattle.model.specs.{from, each, text, timing_lines}
use Rattle.base_words.specs.{output_at, min_arrival_at, phase_at}
use Rattle.net_writer.proofs.{each_next, each_none}
use Rattle.net_timing.specs.{line_text, line_length, line_of, lines_from}

pub line-length : (k min_arrival high : ℕ) → length (line_text k min_arrival high) ≡ line_length k min_arrival high
unfolding line_text text
line-length k min_arrival high = simp length-append (omega arith)

-- ---- line by line

module _ (w : List ℕ) (m n : ℕ) where
  pub lines_next : (i : ℕ) → i < n → lines_from w m i (n - i) ≡ line_of w m i ++ lines_from w m (i + 1) (n - (i + 1))
  unfolding lines_from
  lines_next i h = each_next (line_of w m) n i h

  pub lines_none : (i : ℕ) → n ≤ i → lines_from w m i (n - i) ≡ []
  unfolding lines_from
  lines_none i h = each_none (line_of w m) n i h

-- ---- the lines of a graph's outputs

-- where the words have the outputs and their two arrivals
pub lines_are : (w : List ℕ) (m : ℕ) (min_arrival high : ℕ → ℕ) (i : ℕ) (ls : List ℕ) → ((j : ℕ) → j < length ls → output_at w m (i + j) ≡ get_or ls j 0)
    → ((l : ℕ) → Memᴰ l ls → (min_arrival_at w m l ≡ min_arrival l) × ((phase_at w m l).arrival ≡ high l)) → lines_from w m i (length ls) ≡ timing_lines min_arrival high i ls
unfolding lines_from each from timing_lines line_text
lines_are w m min_arrival high i [] o h = refl
lines_are w m min_arrival high i (l ∷ ls) o h =
    let z : i + 0 ≡ i = omega arith in
    let is : output_at w m i ≡ l = ap (output_at w m) (sym z) ∙ o 0 (omega arith) in
    let k = h l (Memᴰ-head refl) in
    ap₂ (λ (x : List ℕ) (y : List ℕ). x ++ y)
    (ap (λ (x : ℕ). line_text i (min_arrival_at w m x) (phase_at w m x).arrival) is ∙ ap₂ (λ (a b : ℕ). line_text i a b) k.0 k.1)
    (lines_are w m min_arrival high (suc i) ls
    (λ j b. let s : suc i + j ≡ i + suc j = omega arith in ap (output_at w m) s ∙ o (suc j) (omega arith)) (λ x m'. h x (Memᴰ-tail m')))
    ∙ joined
  where
    joined : line_text i (min_arrival l) (high l) ++ timing_lines min_arrival high (suc i) ls ≡ timing_lines min_arrival high i (l ∷ ls)
    joined = simp append_assoc
