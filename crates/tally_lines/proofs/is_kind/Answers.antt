-- `tally_lines::is_kind` meets its contract: the field is validated by its kind.
use Rattle.base.specs.{sym, ap, ◌∙◌}
use Rattle.tally_lines.specs.declared.Kind.{Kind}
use Rattle.tally_lines.specs.{kind_test}
use Rattle.tally_lines.proofs.is_kind.Goals as goal

pub returns-in-Word : goal.returns-in-Word
unfolding kind_test
returns-in-Word c = c.same_bytes.ensures ∙ ap (λ (k : Kind). kind_test k c.args.w.now) (sym c.in-Word.is)

pub returns-in-Digits : goal.returns-in-Digits
unfolding kind_test
returns-in-Digits c = c.are_digits.ensures ∙ ap (λ (k : Kind). kind_test k c.args.w.now) (sym c.in-Digits.is)

pub returns-in-Label : goal.returns-in-Label
unfolding kind_test
returns-in-Label c = c.is_label.ensures ∙ ap (λ (k : Kind). kind_test k c.args.w.now) (sym c.in-Label.is)

pub returns-in-Net : goal.returns-in-Net
unfolding kind_test
returns-in-Net c = c.is_phase_net.ensures ∙ ap (λ (k : Kind). kind_test k c.args.w.now) (sym c.in-Net.is)

pub returns-in-Bound : goal.returns-in-Bound
unfolding kind_test
returns-in-Bound c = c.is_bound.ensures ∙ ap (λ (k : Kind). kind_test k c.args.w.now) (sym c.in-Bound.is)

pub returns-in-Number : goal.returns-in-Number
unfolding kind_test
returns-in-Number c = c.is_number.ensures ∙ ap (λ (k : Kind). kind_test k c.args.w.now) (sym c.in-Number.is)
