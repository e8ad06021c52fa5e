-- The test of each kind of field, and the answer to whether a line is a gate's.
use Rattle.std.specs.Prelude.{◌≤◌, ◌<◌, ◌≡◌}
use Rattle.base.specs.{ℕ, Bool, List, length, get_or}
use Rattle.model.specs.{same, decimal, no_cell, are_digits, is_label, is_phase_net, is_bound}
use Rattle.model.specs.declared.Library.{Library}
use Rattle.tally_lines.specs.declared.Kind.TheVariants.{Word}
use Rattle.tally_lines.specs.declared.Kind.{Kind}
use Rattle.tally_lines.specs.declared.Kind.TheVariants.{Digits, Label, Net, Bound, Number}

unfoldable pub kind_test : Kind → List ℕ → Bool
unfolding are_digits is_label is_phase_net is_bound same decimal
kind_test (Word k) w = same k.now w
kind_test Digits w = are_digits w
kind_test (Label b) w = is_label b w
kind_test Net w = is_phase_net w
kind_test (Bound b) w = is_bound b w
kind_test (Number n) w = same (decimal n) w

-- a library as it is read: 32 places, of which so many are listed cells, with "Pins: 0 to 4"
pub record Listed (lib : Library) : Type 0 where
  pub long : length lib.cells ≡ 32
  pub few : lib.n ≤ 32
  pub pins : (i : ℕ) → i < lib.n → (get_or lib.cells i no_cell).pins ≤ 4
