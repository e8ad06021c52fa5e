-- `cells_reader::read` meets its contract: one of the two names lines, and then the cell lines from where the next line begins.
use Rattle.base.specs.{sym, ap, ◌∙◌}
use Rattle.model.specs.{text, library_answer}
use Rattle.model.proofs.{library-refusal}
use Rattle.base_text.proofs.{first_fits}
use Rattle.cells_reader.specs.{shorter_line, longer_line}
use Rattle.cells_reader.proofs.NamesLine.{names-not, names-shorter, names-longer}
use Rattle.cells_reader.proofs.read.Goals as goal

pub returns-then-first_is : goal.returns-then-first_is
unfolding shorter_line text
returns-then-first_is c =
    let e = names-shorter _ _ c.line-first.ensures (sym c.first_is.ensures ∙ c.if-first_is.true) in
    let r = library-refusal _ _ (c.cells.ensures ∙ sym (ap library_answer e)) in
    record { answer = r.0; refusal = r.1 }

pub returns-then-first_is-2 : goal.returns-then-first_is-2
unfolding longer_line text
returns-then-first_is-2 c =
    let e = names-longer _ _ c.line-first.ensures (sym c.first_is-2.ensures ∙ c.if-first_is-2.true) in
    let r = library-refusal _ _ (c.cells-then-first_is-2.ensures ∙ sym (ap library_answer e)) in
    record { answer = r.0; refusal = r.1 }

pub returns : goal.returns
unfolding shorter_line longer_line text library_answer
returns c =
    let e = names-not _ _ c.line-first.ensures (sym c.first_is.ensures ∙ c.if-first_is.false) (sym c.first_is-2.ensures ∙ c.if-first_is-2.false) in
    let r = library-refusal _ _ (sym (ap library_answer e)) in
    record { answer = r.0; refusal = r.1 }

pub first_is-requires : goal.first_is-requires
first_is-requires c = first_fits _ _ c.line-first.ensures

pub first_is-requires-2 : goal.first_is-requires-2
first_is-requires-2 c = first_fits _ _ c.line-first.ensures
