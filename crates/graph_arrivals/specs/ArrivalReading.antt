-- What each reader of the arrivals' text answers, composed of what the readers of the crate text find.
use Rattle.std.specs.Prelude.{◌&&◌, Result, Ok}
use Rattle.base.specs.{ℕ, cond, Option, None, Some, List, eqb, ltb, get_or}
use Rattle.model.specs.{text, refused_with}
use Rattle.model.specs.declared.Refusal.{Refusal}
use Rattle.base_text.specs.{on_number, number_then, number_end}
use Rattle.base_text.specs.declared.Cursor.{Cursor}

-- the first line's contents
unfoldable pub head_line : List ℕ
unfolding text
head_line = text "input arrival"

-- an index, an arrival, and the cursor behind them
abbrev pub Entry : Type 0
Entry = ℕ × ℕ × Cursor

-- the two numbers of the line at a place
unfoldable pub entry_at : List ℕ → ℕ → Option Entry
entry_at s at = on_number (number_then s at 32) (λ i c. on_number (number_end s c.at) (λ t d. Some (i, t, d)) None) None

abbrev pub on_entry : {A : Type 0} → Option Entry → (ℕ → ℕ → Cursor → A) → A → A
on_entry (Some (i, t, c)) f e = f i t c
on_entry None f e = e

-- 25, then 26: an index of I or more, or one that has its mark
unfoldable pub validated_at : List ℕ → ℕ → ℕ → List ℕ → Result Entry Refusal
validated_at s at inputs seen = on_entry (entry_at s at) (λ i t c. cond (ltb i inputs && eqb (get_or seen i 0) 0) (Ok (i, t, c)) (refused_with 26 at)) (refused_with 25 at)
