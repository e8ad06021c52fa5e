-- `check_reader::preamble` meets its contract: three lines, one behind the other.
use Rattle.base.specs.{sym, subst, List, ◌++◌, ℕ}
use Rattle.std.proofs.lemmas.Result.{err_from_is_err_and}
use Rattle.model.specs.{text, out_name}
use Rattle.check_reader.specs.{names_from, input_name, Framed, Unbegun}
use Rattle.check_reader.proofs.OutputNames.{preamble-is}
use Rattle.check_reader.proofs.ExpectedNetLines.{first-broken, second-broken, three-lines}
use Rattle.check_reader.proofs.preamble.Goals as goal

pub returns-in_err-a : goal.returns-in_err-a
unfolding text
returns-in_err-a c =
    let a = c.args in let p = err_from_is_err_and c.from_residual.result c.from_residual.ensures.1 in
    rw (p.1, p.2) (λ g f.
    subst (λ (ws : List (List ℕ)). Unbegun a.s.now ws c.in_err-a.field-0.0) (sym (preamble-is a.work.now a.h g f))
    (first-broken a.s.now (text ".model top") (text ".inputs" ++ names_from (input_name a.work.now a.h.size) 0 a.h.inputs) (text ".outputs" ++ names_from out_name 0 a.h.outputs)
    c.in_err-a.field-0.0 c.in_err-a.ensures))

pub expected_inputs-requires : goal.expected_inputs-requires
expected_inputs-requires c =
    (c.requires.0, c.requires.1.1.capacity, c.requires.1.1.within, c.requires.1.1.few)

pub returns-in_err-b : goal.returns-in_err-b
unfolding text
returns-in_err-b c =
    let a = c.args in let p = err_from_is_err_and c.from_residual-in_err-b.result c.from_residual-in_err-b.ensures.1 in
    rw (p.1, p.2) (λ g f.
    subst (λ (ws : List (List ℕ)). Unbegun a.s.now ws c.in_err-b.field-0.0) (sym (preamble-is a.work.now a.h g f))
    (second-broken a.s.now (text ".model top") (text ".inputs" ++ names_from (input_name a.work.now a.h.size) 0 a.h.inputs) (text ".outputs" ++ names_from out_name 0 a.h.outputs)
    c.in_ok-a.a c.in_ok-a.ensures c.in_err-b.field-0.0 c.in_err-b.ensures))

pub expected_outputs-requires : goal.expected_outputs-requires
expected_outputs-requires c = (c.requires.0, c.requires.1.1.few_outputs)

pub returns : goal.returns
unfolding text
returns c = λ g f.
    let a = c.args in
    subst (λ (ws : List (List ℕ)). Framed a.s.now ws c.expected_outputs.result) (sym (preamble-is a.work.now a.h g f))
    (three-lines a.s.now (text ".model top") (text ".inputs" ++ names_from (input_name a.work.now a.h.size) 0 a.h.inputs) (text ".outputs" ++ names_from out_name 0 a.h.outputs)
    c.in_ok-a.a c.in_ok-a.ensures c.in_ok-b.b c.in_ok-b.ensures c.expected_outputs.result c.expected_outputs.ensures)
