-- `cover_choice::uninverted_source` meets its contract: by what the variable is.
use Rattle.base.specs.{◌≡◌, sym, ap, ◌∙◌, Bool, true, false, List, ⊎_elim, inl, inr, ℕ, ne_eqb}
use Rattle.model.specs.{no_phase}
use Rattle.model.specs.declared.Cell.{Cell}
use Rattle.base_words.specs.{constant_kind, input_kind, and_kind, kind_at, left_at, right_at, node_of, node_at}
use Rattle.cover_choice.specs.{best_at, input_phase, uninverted_of, uninverted_at}
use Rattle.cover_choice.proofs.uninverted_source.Goals as goal

module _ (cells : List Cell) (w : List ℕ) (m v : ℕ) (neg : Bool) where
  of_constant : kind_at w m v ≡ constant_kind → best_at cells w m v neg ≡ uninverted_at cells w m v neg
  unfolding uninverted_at node_at uninverted_of
  of_constant e = sym (ap (λ (k : ℕ). uninverted_of cells w m v neg (node_of k (left_at w m v) (right_at w m v))) e)

  of_and : kind_at w m v ≡ and_kind → best_at cells w m v neg ≡ uninverted_at cells w m v neg
  unfolding uninverted_at node_at uninverted_of
  of_and e = sym (ap (λ (k : ℕ). uninverted_of cells w m v neg (node_of k (left_at w m v) (right_at w m v))) e)

  of_input : kind_at w m v ≡ input_kind → input_phase w m v neg ≡ uninverted_at cells w m v neg
  unfolding uninverted_at node_at uninverted_of
  of_input e = sym (ap (λ (k : ℕ). uninverted_of cells w m v neg (node_of k (left_at w m v) (right_at w m v))) e)

  of_undefined : (kind_at w m v ≡ constant_kind → ⊥) → (kind_at w m v ≡ input_kind → ⊥) → (kind_at w m v ≡ and_kind → ⊥)
      → no_phase ≡ uninverted_at cells w m v neg
  unfolding uninverted_at node_at uninverted_of
  of_undefined a b c = rw (ne_eqb (kind_at w m v) constant_kind a, ne_eqb (kind_at w m v) input_kind b, ne_eqb (kind_at w m v) and_kind c)

pub returns-in-1 : goal.returns-in-1
returns-in-1 c =
    let a = c.args in
    let k = sym c.kind.ensures in
    λ cells matches. (
      (c.best_phases.ensures cells matches).0
          ∙ ⊎_elim (λ e. of_constant cells a.work.now a.m a.v false (k ∙ e)) (λ e. of_and cells a.work.now a.m a.v false (k ∙ e)) c.in-1.is,
      (c.best_phases.ensures cells matches).1
          ∙ ⊎_elim (λ e. of_constant cells a.work.now a.m a.v true (k ∙ e)) (λ e. of_and cells a.work.now a.m a.v true (k ∙ e)) c.in-1.is,
    )

pub returns-in-2 : goal.returns-in-2
returns-in-2 c =
    let a = c.args in
    let k = sym c.kind.ensures ∙ c.in-2.is in
    λ cells matches. (
      c.input_source.ensures.0 ∙ of_input cells a.work.now a.m a.v false k,
      c.input_source.ensures.1 ∙ of_input cells a.work.now a.m a.v true k,
    )

pub returns-in_default : goal.returns-in_default
returns-in_default c =
    let a = c.args in
    let k = c.kind.ensures in
    let r = c.in_default.in_default-own.rest in
    λ cells matches. (
      c.neither.ensures.0 ∙ of_undefined cells a.work.now a.m a.v false (λ e. r.0.1 (inl (k ∙ e))) (λ e. r.1 (k ∙ e)) (λ e. r.0.1 (inr (k ∙ e))),
      c.neither.ensures.1 ∙ of_undefined cells a.work.now a.m a.v true (λ e. r.0.1 (inl (k ∙ e))) (λ e. r.1 (k ∙ e)) (λ e. r.0.1 (inr (k ∙ e))),
    )
