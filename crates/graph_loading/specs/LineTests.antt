-- The expected lines' kinds, the tests of a line's literals, and the step that a line takes.
use Rattle.std.specs.Prelude.{◌+◌, ◌*◌, ◌/◌, ◌%◌, ◌≤◌, ◌&&◌, ◌||◌, Result, Ok, Err}
use Rattle.base.specs.{ℕ, Bool, not, List, eqb, ltb, leb}
use Rattle.model.specs.declared.Header.{Header}
use Rattle.model.specs.declared.Refusal.{Refusal}
use Rattle.base_words.specs.{undefined_kind, input_kind, and_kind, kind_at}
use Rattle.graph_order.specs.{pick_n}
use Rattle.graph_loading.specs.declared.Literals.{Literals}

-- the kind of node that expected line k defines: an output line defines none
abbrev pub expected_code : Header → ℕ → ℕ
expected_code h k = pick_n (ltb k h.inputs) input_kind (pick_n (ltb k (h.inputs + h.outputs)) undefined_kind and_kind)

abbrev pub expected_count : Header → ℕ
expected_count h = h.inputs + h.outputs + h.ands

abbrev pub literals : ℕ → ℕ → ℕ → ℕ → Literals
literals a l r end = record { first = a; left = l; right = r; next = end }

-- no "literal exceeds 2M+1"
unfoldable pub literals_fit : ℕ → Literals → Bool
literals_fit m l = leb l.first (2 * m + 1) && (leb l.left (2 * m + 1) && leb l.right (2 * m + 1))

pub record LiteralsFit (m : ℕ) (l : Literals) : Type 0 where
  pub first : l.first ≤ 2 * m + 1
  pub left : l.left ≤ 2 * m + 1
  pub right : l.right ≤ 2 * m + 1

-- no "input or left literal is odd or 0"
unfoldable pub may_define : ℕ → ℕ → Bool
may_define kind first = eqb kind undefined_kind || (eqb (first % 2) 0 && not (eqb first 0))

-- "An input or left variable is already defined."
unfoldable pub is_already_defined : List ℕ → ℕ → ℕ → ℕ → Bool
is_already_defined w m kind first = not (eqb kind undefined_kind) && not (eqb (kind_at w m (first / 2)) undefined_kind)

-- the place of the next line, or a refusal
abbrev pub LineResult : Type 0
LineResult = Result ℕ Refusal

-- what is done with what was found, or with a refusal
abbrev pub on_result : {T A : Type 0} → Result T Refusal → (T → A) → (Refusal → A) → A
on_result (Ok t) f e = f t
on_result (Err r) f e = e r
