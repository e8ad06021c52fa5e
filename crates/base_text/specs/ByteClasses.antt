-- The bytes of a class, and where they end.
use Rattle.std.specs.Prelude.{◌+◌}
use Rattle.base.specs.{ℕ, Bool, not, List, eqb, length, drop}
use Rattle.model.specs.{is_name_byte, is_blank, is_word_byte, is_digit, span}
use Rattle.base_text.specs.declared.Class.{Class}
use Rattle.base_text.specs.declared.Class.TheVariants.{Blank, Digit, Name, Word, Field}

-- a byte that does not end a field
abbrev pub no_space : ℕ → Bool
no_space b = not (eqb b 32)

abbrev pub in_class : Class → ℕ → Bool
in_class Blank = is_blank
in_class Digit = is_digit
in_class Name = is_name_byte
in_class Word = is_word_byte
in_class Field = no_space

-- the first place from `at` on whose byte fails a test
unfoldable pub span_end : (ℕ → Bool) → List ℕ → ℕ → ℕ
unfolding span
span_end p w at = at + length (span p (drop at w))
