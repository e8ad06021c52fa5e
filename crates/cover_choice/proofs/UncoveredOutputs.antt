-- The law of `missing`: it is the verdict of the cover.
use Rattle.base.specs.{ℕ, zero, suc, ◌+◌, ◌/◌, ◌≤◌, ◌<◌, arith, ◌≡◌, refl, sym, ap, ◌∙◌, cond, List, [], ◌∷◌, Memᴰ, Memᴰ-head}
use Rattle.base.specs.{Memᴰ-tail, length, drop, get_or, drop-cons, drop-length}
use Rattle.model.specs.{from, refused_at, first_of, absent, chosen, uncovered, cover_verdict}
use Rattle.model.specs.Graph.{Graph}
use Rattle.model.specs.declared.Cell.{Cell}
use Rattle.model.specs.declared.Header.{Header}
use Rattle.model.specs.declared.Phase.{Phase}
use Rattle.theory_graph.specs.AcceptedGraph.{Accepted}
use Rattle.base_words.specs.{output_at, phase_at, RepresentsGraph, RepresentsPhases}
use Rattle.cover_choice.specs.{OutputsIn, outputs_from, missing_from, missing, HeaderOf}
use Rattle.cover_choice.specs.EnumeratedWords.{RepresentsEnumerated}
use Rattle.cover_choice.proofs.EnumeratedGraph.{output-small, outputs_in}

uncovered-same : (p q : ℕ → Phase) (k : ℕ) (ls : List ℕ) → ((l : ℕ) → Memᴰ l ls → p l ≡ q l) → uncovered p k ls ≡ uncovered q k ls
unfolding uncovered
uncovered-same p q k [] h = refl
uncovered-same p q k (l ∷ ls) h =
    let first : p l ≡ q l = h l (Memᴰ-head refl) in
    let rest : uncovered p (suc k) ls ≡ uncovered q (suc k) ls = uncovered-same p q (suc k) ls (λ x i. h x (Memᴰ-tail i)) in
    λ i. cond (absent (first i).source) (k ∷ rest i) (rest i)

outputs-represented : (w : List ℕ) (g : Graph) → RepresentsGraph w g → (n k : ℕ) → k + n ≡ length g.outputs → outputs_from w g.size k n ≡ drop k g.outputs
unfolding outputs_from from
outputs-represented w g h zero k e =
    let s : k ≡ length g.outputs = omega arith in
    sym (ap (λ (j : ℕ). drop j g.outputs) s ∙ drop-length g.outputs)
outputs-represented w g h (suc n) k e =
    let l : k < length g.outputs = omega arith in
    let first : output_at w g.size k ≡ get_or g.outputs k 0 = h.outputs k l in
    let rest : outputs_from w g.size (suc k) n ≡ drop (suc k) g.outputs = outputs-represented w g h n (suc k) (omega arith) in
    (λ i. first i ∷ rest i) ∙ sym (drop-cons g.outputs k 0 l)

missing-cover : (w : List ℕ) (cells : List Cell) (g : Graph) → Accepted g → RepresentsGraph w g → RepresentsPhases w cells g
    → missing w g.size (length g.outputs) ≡ cover_verdict cells g
unfolding missing missing_from cover_verdict
missing-cover w cells g ok h p =
    ap (λ (ls : List ℕ). refused_at 17 (first_of (uncovered (phase_at w g.size) 0 ls))) (outputs-represented w g h (length g.outputs) 0 (omega arith))
    ∙ ap (λ (ks : List ℕ). refused_at 17 (first_of ks))
    (uncovered-same (phase_at w g.size) (chosen cells g) 0 g.outputs
    (λ l i. let b : l / 2 ≤ g.size = output-small g ok l i in p.phases l (omega arith)))

-- "An output has no cover; place, the lowest such index, from 0."
pub uncovered_law : (w : List ℕ) (cells : List Cell) (h : Header) (g : Graph) → HeaderOf h g → Accepted g → RepresentsGraph w g → RepresentsPhases w cells g
    → missing w h.size h.outputs ≡ cover_verdict cells g
uncovered_law w cells h g e ok k p = (λ i. missing w (e.size i) (e.outputs i)) ∙ missing-cover w cells g ok k p

-- what is asked of the words before
pub uncovered_asked : (w : List ℕ) (h : Header) (g : Graph) → HeaderOf h g → RepresentsEnumerated w g → OutputsIn w h.size h.outputs
uncovered_asked w h g e c = rw (e.size, e.outputs) (outputs_in w g c)
