-- A netlist read whole: the preamble, the gates and what is expected behind them are `read_counted`.
use Rattle.std.specs.Prelude.{Ok, Err}
use Rattle.base.specs.{ℕ, arith, ◌≡◌, refl, sym, ap, ap₂, subst, ◌∙◌, Bool, true, false, List, length}
use Rattle.model.specs.{Line, Read, holds, fault, next, cells_of, expected_lines, nothing_left, preamble, gates_in, after_gates, area_of, behind_gates}
use Rattle.model.specs.{outputs_of, read_counted}
use Rattle.model.specs.declared.Library.{Library}
use Rattle.tally_counting.specs.declared.Counts.{Counts}
use Rattle.tally_counting.specs.{lines_of, Counted, NetlistRead, Whole}
use Rattle.tally_counting.proofs.ExpectedNetlistLines.{next-next}

pub never : {A : Type 0} → false ≡ true → A
never e = let z : ◌≡◌ {A = ℕ} 0 1 = cc in absurd (omega arith)

module _ (ranged : Bool) (l : Library) (s : List ℕ) where
  pub broken_at : (k : ℕ) → read_counted ranged (cells_of l) s ≡ fault 29 k → NetlistRead ranged l s (Err k)
  broken_at k r = record {
    broken = λ at e. let z : k ≡ at = cc in r ∙ ap (fault 29) z;
    whole = λ c e. let y : ◌≡◌ {A = ℕ} 0 1 = cc in absurd (omega arith);
  }

  pub whole_by : (c : Counts) → Whole ranged l s c → NetlistRead ranged l s (Ok c)
  whole_by c w = record {
    broken = λ at e. let y : ◌≡◌ {A = ℕ} 0 1 = cc in absurd (omega arith);
    whole = λ d e. let z : c ≡ d = cc in subst (Whole ranged l s) z w;
  }

  -- what is read behind the preamble
  behind_preamble : List Line → Read (List ℕ)
  behind_preamble ms =
      next (expected_lines (length s) (behind_gates ranged (outputs_of (lines_of s 0)) (length (gates_in (cells_of l) ms)) (area_of (cells_of l) (gates_in (cells_of l) ms))) (after_gates (cells_of l) ms)) (λ rest.
      next (nothing_left rest) (λ _. holds (gates_in (cells_of l) ms)))

  read_by : read_counted ranged (cells_of l) s ≡ next (expected_lines (length s) preamble (lines_of s 0)) behind_preamble
  unfolding read_counted behind_preamble
  read_by = refl

  pub preamble-broken : (k : ℕ) → fault 29 k ≡ expected_lines (length s) preamble (lines_of s 0) → read_counted ranged (cells_of l) s ≡ fault 29 k
  unfolding next
  preamble-broken k e = read_by ∙ ap (λ (r : Read (List Line)). next r behind_preamble) (sym e)

  module _ (at : ℕ) (framed : holds (lines_of s at) ≡ expected_lines (length s) preamble (lines_of s 0)) (c : Counts) (counts : Counted l s at c)
      (outs : ℕ) (is : outs ≡ outputs_of (lines_of s 0)) (o : Read (List Line))
      (behind : o ≡ next (expected_lines (length s) (behind_gates ranged outs c.gates c.area) (lines_of s c.at)) nothing_left) where
    used : List ℕ
    used = gates_in (cells_of l) (lines_of s at)

    expected-same : expected_lines (length s) (behind_gates ranged (outputs_of (lines_of s 0)) (length used) (area_of (cells_of l) used)) (after_gates (cells_of l) (lines_of s at))
        ≡ expected_lines (length s) (behind_gates ranged outs c.gates c.area) (lines_of s c.at)
    unfolding used
    expected-same =
        ap (expected_lines (length s) (behind_gates ranged (outputs_of (lines_of s 0)) (length used) (area_of (cells_of l) used))) counts.behind
        ∙ ap (λ (o : ℕ). expected_lines (length s) (behind_gates ranged o (length used) (area_of (cells_of l) used)) (lines_of s c.at)) (sym is)
        ∙ ap₂ (λ (g a : ℕ). expected_lines (length s) (behind_gates ranged outs g a) (lines_of s c.at)) (sym counts.gates) (sym counts.area)

    read_is : read_counted ranged (cells_of l) s ≡ next o (λ _. holds used)
    unfolding next behind_preamble used
    read_is =
        read_by
        ∙ ap (λ (x : Read (List Line)). next x behind_preamble) (sym framed)
        ∙ ap (λ (x : Read (List Line)). next x (λ rest. next (nothing_left rest) (λ _. holds used))) expected-same
        ∙ sym (next-next (expected_lines (length s) (behind_gates ranged outs c.gates c.area) (lines_of s c.at)) nothing_left (λ _. holds used))
        ∙ ap (λ (x : Read (List Line)). next x (λ _. holds used)) (sym behind)

    pub behind-broken : (k : ℕ) → o ≡ fault 29 k → read_counted ranged (cells_of l) s ≡ fault 29 k
    unfolding next
    behind-broken k e = read_is ∙ ap (λ (x : Read (List Line)). next x (λ _. holds used)) e

    pub behind-whole : (ms : List Line) → o ≡ holds ms → Whole ranged l s c
    unfolding next used
    behind-whole ms e = record { used = used; is_read = read_is ∙ ap (λ (x : Read (List Line)). next x (λ _. holds used)) e; places = counts.places }
