-- The test of each kind of line that is expected.
use Rattle.base.specs.{ℕ, Bool, List}
use Rattle.model.specs.{same, text, is_name_list, is_wire, is_figures, is_timing}
use Rattle.tally_counting.specs.declared.Form.{Form}
use Rattle.tally_counting.specs.declared.Form.TheVariants.{Model, Inputs, Outputs, Wire, One, End, Figures, Timing}

unfoldable pub form_test : Form → List ℕ → Bool
unfolding same text is_name_list is_wire is_figures is_timing
form_test Model w = same (text ".model top") w
form_test Inputs w = is_name_list (text ".inputs") 112 w
form_test Outputs w = is_name_list (text ".outputs") 111 w
form_test Wire w = is_wire w
form_test One w = same (text "1 1") w
form_test End w = same (text ".end") w
form_test (Figures gates area) w = is_figures gates area w
form_test Timing w = is_timing w
