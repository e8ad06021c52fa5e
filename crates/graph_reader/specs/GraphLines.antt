-- What each reader of a line finds at a place of the text, composed of what the readers of the crate text find.
use Rattle.std.specs.Prelude.{◌+◌, ◌*◌, ◌/◌, ◌&&◌, ◌||◌, Result, Ok}
use Rattle.base.specs.{ℕ, Bool, true, false, cond, not, Option, None, Some, List, eqb, leb}
use Rattle.model.specs.{all, below, same, text, ended_by_ten, refused_with}
use Rattle.model.specs.declared.Header.{Header}
use Rattle.model.specs.declared.Refusal.{Refusal}
use Rattle.base_words.specs.{undefined_kind, and_kind, kind_at, left_at, right_at, output_at}
use Rattle.base_text.specs.declared.Cursor.{Cursor}
use Rattle.base_text.specs.{word_at, end_at, on_number, on_step, number_then, number_end, byte_at, pick_bool, line_at}
use Rattle.graph_loading.specs.declared.Literals.{Literals}
use Rattle.graph_loading.specs.{literals, literals_fit, may_define, is_already_defined}

-- ---- the header

-- three numbers, the last at the end of its line
unfoldable pub three_at : List ℕ → ℕ → Option (ℕ × ℕ × ℕ × Cursor)
three_at s at =
    on_number (number_then s at 32) (λ a c0.
    on_number (number_then s c0.at 32) (λ b c1.
    on_number (number_end s c1.at) (λ d c2. Some (a, b, d, c2)) None) None) None

abbrev pub on_three : {A : Type 0} → Option (ℕ × ℕ × ℕ × Cursor) → (ℕ → ℕ → ℕ → Cursor → A) → A → A
on_three (Some (a, b, d, c)) f e = f a b d c
on_three None f e = e

abbrev pub on_tag : {A : Type 0} → Option (Bool × Cursor) → (Bool → Cursor → A) → A → A
on_tag (Some (binary, c)) f e = f binary c
on_tag None f e = e

unfoldable pub aag : List ℕ
unfolding text
aag = text "aag"

unfoldable pub aig : List ℕ
unfolding text
aig = text "aig"

-- the space behind the first word, which ends at a place
unfoldable pub tag_behind : List ℕ → ℕ → Bool → Option (Bool × Cursor)
tag_behind s end binary = on_step (byte_at s end 32) (λ c. Some (binary, c)) None

unfoldable pub tag_at : List ℕ → Option (Bool × Cursor)
tag_at s = cond (same (word_at s 0) aig) (tag_behind s (end_at s 0) true) (cond (same (word_at s 0) aag) (tag_behind s (end_at s 0) false) None)

abbrev pub header_record : ℕ → ℕ → ℕ → ℕ → ℕ → ℕ → Bool → Header
header_record size inputs latches outputs ands end binary =
    record { size = size; inputs = inputs; latches = latches; outputs = outputs; ands = ands; next = end; binary = binary }

unfoldable pub numbers_form : List ℕ → ℕ → Bool → Option Header
numbers_form s at binary =
    on_number (number_then s at 32) (λ m c0.
    on_number (number_then s c0.at 32) (λ i c1.
    on_three (three_at s c1.at) (λ l o a c2. Some (header_record m i l o a c2.at binary)) None) None) None

-- the first line ends as a header of the form may: in the binary form byte 10 alone is a line's end
unfoldable pub header_ends : List ℕ → Bool → Bool
header_ends s binary = pick_bool binary (ended_by_ten (line_at s 0)) true

unfoldable pub form_at : List ℕ → Option Header
form_at s = on_tag (tag_at s) (λ binary c. cond (header_ends s binary) (numbers_form s c.at binary) None) None

-- ---- the expected lines

unfoldable pub one_line : List ℕ → ℕ → Option Literals
one_line s at = on_number (number_end s at) (λ a c. Some (literals a 0 0 c.at)) None

unfoldable pub and_line : List ℕ → ℕ → Option Literals
and_line s at = on_three (three_at s at) (λ a l r c. Some (literals a l r c.at)) None

unfoldable pub line_read : List ℕ → ℕ → ℕ → Option Literals
line_read s at kind = cond (eqb kind and_kind) (and_line s at) (one_line s at)

abbrev pub on_line : {A : Type 0} → Option Literals → (Literals → A) → A → A
on_line (Some l) f e = f l
on_line None f e = e

-- 11, 12 and 13 in this order
unfoldable pub validated_at : List ℕ → ℕ → List ℕ → ℕ → ℕ → Result Literals Refusal
validated_at s at w m kind =
    on_line (line_read s at kind) (λ l.
    cond (literals_fit m l && may_define kind l.first)
    (cond (is_already_defined w m kind l.first) (refused_with 13 at) (Ok l)) (refused_with 12 at)) (refused_with 11 at)

-- a literal's variable is defined
unfoldable pub is_defined : List ℕ → ℕ → ℕ → Bool
is_defined w m l = not (eqb (kind_at w m (l / 2)) undefined_kind)

-- so are the variables that a line uses; an input line's second and third literals are 0
unfoldable pub uses_defined : List ℕ → ℕ → ℕ → Literals → Bool
unfolding is_defined
uses_defined w m kind l = pick_bool (eqb kind undefined_kind) (is_defined w m l.first) (is_defined w m l.left && is_defined w m l.right)

-- ---- the same of what is stored

-- output i's literal is in range, and its variable is defined
unfoldable pub output_defined : List ℕ → ℕ → ℕ → Bool
unfolding is_defined
output_defined w m i = leb (output_at w m i) (2 * m + 1) && is_defined w m (output_at w m i)

-- an AND's operands' variables are defined
unfoldable pub operands_defined : List ℕ → ℕ → ℕ → Bool
unfolding is_defined
operands_defined w m v = not (eqb (kind_at w m v) and_kind) || (is_defined w m (left_at w m v) && is_defined w m (right_at w m v))

-- every output's, and every AND's
unfoldable pub words_defined : List ℕ → Header → Bool
unfolding all below output_defined operands_defined
words_defined w h = all (output_defined w h.size) (below h.outputs) && all (operands_defined w h.size) (below (h.size + 1))
