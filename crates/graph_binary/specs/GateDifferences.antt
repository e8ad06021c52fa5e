-- What the readers of differences find at a place of the text.
use Rattle.std.specs.Prelude.{Result, Ok, Err}
use Rattle.base.specs.{ℕ, true, false, List}
use Rattle.model.specs.{Read, holds, fault, Passed, less_by, refused_with}
use Rattle.model.specs.declared.Refusal.{Refusal}
use Rattle.graph_loading.specs.declared.Literals.{Literals}
use Rattle.graph_loading.specs.{literals}

-- what is left, and the place behind the difference; or a refusal
abbrev pub less_of : Read Passed → Result (ℕ × ℕ) Refusal
less_of (holds p) = Ok (p.number, p.behind)
less_of (fault n k) = refused_with n k

abbrev pub on_less : {A : Type 0} → Result (ℕ × ℕ) Refusal → (ℕ → ℕ → A) → (Refusal → A) → A
on_less (Ok (left, at)) f e = f left at
on_less (Err r) f e = e r

-- "two differences, left minus first operand and first minus second"
unfoldable pub gate_at : List ℕ → ℕ → ℕ → Result Literals Refusal
gate_at s at left =
    on_less (less_of (less_by true s at left)) (λ a middle.
    on_less (less_of (less_by false s middle a)) (λ b end. Ok (literals left a b end)) Err) Err
