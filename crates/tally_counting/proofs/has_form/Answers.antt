-- `tally_counting::has_form` meets its contract: the line is validated by its kind.
use Rattle.base.specs.{sym, ap, ◌∙◌}
use Rattle.model.specs.{text}
use Rattle.tally_counting.specs.{form_test}
use Rattle.tally_counting.specs.declared.Form.{Form}
use Rattle.tally_counting.proofs.has_form.Goals as goal

pub returns-in-Model : goal.returns-in-Model
unfolding form_test text
returns-in-Model c = c.same_bytes.ensures ∙ ap (λ (x : Form). form_test x c.args.w.now) (sym c.in-Model.is)

pub returns-in-Inputs : goal.returns-in-Inputs
unfolding form_test text
returns-in-Inputs c = c.is_name_list.ensures ∙ ap (λ (x : Form). form_test x c.args.w.now) (sym c.in-Inputs.is)

pub returns-in-Outputs : goal.returns-in-Outputs
unfolding form_test text
returns-in-Outputs c = c.is_name_list-in-Outputs.ensures ∙ ap (λ (x : Form). form_test x c.args.w.now) (sym c.in-Outputs.is)

pub returns-in-Wire : goal.returns-in-Wire
unfolding form_test text
returns-in-Wire c = c.is_wire.ensures ∙ ap (λ (x : Form). form_test x c.args.w.now) (sym c.in-Wire.is)

pub returns-in-One : goal.returns-in-One
unfolding form_test text
returns-in-One c = c.same_bytes-in-One.ensures ∙ ap (λ (x : Form). form_test x c.args.w.now) (sym c.in-One.is)

pub returns-in-End : goal.returns-in-End
unfolding form_test text
returns-in-End c = c.same_bytes-in-End.ensures ∙ ap (λ (x : Form). form_test x c.args.w.now) (sym c.in-End.is)

pub returns-in-Figures : goal.returns-in-Figures
unfolding form_test text
returns-in-Figures c = c.is_figures.ensures ∙ ap (λ (x : Form). form_test x c.args.w.now) (sym c.in-Figures.is)

pub returns-in-Timing : goal.returns-in-Timing
unfolding form_test text
returns-in-Timing c = c.is_timing.ensures ∙ ap (λ (x : Form). form_test x c.args.w.now) (sym c.in-Timing.is)
