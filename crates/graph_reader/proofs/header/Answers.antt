-- `graph_reader::header` meets its contract: each return knows the form of the first line, and the tests that led there.
use Rattle.base.specs.{sym, ap, ◌∙◌, eq-eqb, ne_eqb}
use Rattle.model.specs.{header_answer}
use Rattle.graph_reader.proofs.HeaderReading.{header-broken, header_latches, header_limits, header_sequence, header-good, limits_sum}
use Rattle.graph_reader.proofs.HeaderReading.{header_told}
use Rattle.graph_reader.proofs.header.Goals as goal

pub returns-then-h-ne0 : goal.returns-then-h-ne0
unfolding header_answer
returns-then-h-ne0 c =
    let s = c.args.s.now in let form = sym c.header_form.ensures ∙ c.in-Some.is in
    let t = header_told s _ (sym (ap header_answer (header_latches s _ form (ne_eqb _ _ c.if-h-ne0.true)))) in
    record { answer = t.0; refusal = t.1.0; values = t.1.1 }

pub returns-then-not-in_limits : goal.returns-then-not-in_limits
unfolding header_answer
returns-then-not-in_limits c =
    let s = c.args.s.now in
    let form = sym c.header_form.ensures ∙ c.in-Some.is in
    let t = header_told s _ (sym (ap header_answer (header_limits s _ form (eq-eqb _ _ c.if-h-ne0.false) (sym c.in_limits.ensures ∙ c.if-not-in_limits.true)))) in
    record { answer = t.0; refusal = t.1.0; values = t.1.1 }

pub returns : goal.returns
unfolding header_answer
returns c =
    let s = c.args.s.now in let form = sym c.header_form.ensures ∙ c.in-Some.is in
    let t = header_told s _
    (sym (ap header_answer (header-good s _ form (eq-eqb _ _ c.if-h-ne0.false) (sym c.in_limits.ensures ∙ c.if-not-in_limits.false) (sym c.in_sequence.ensures ∙ c.if-not-in_sequence.false)))) in
    record { answer = t.0; refusal = t.1.0; values = t.1.1 }

pub returns-then-not-in_sequence : goal.returns-then-not-in_sequence
unfolding header_answer
returns-then-not-in_sequence c =
    let s = c.args.s.now in let form = sym c.header_form.ensures ∙ c.in-Some.is in
    let t = header_told s _
    (sym (ap header_answer (header_sequence s _ form (eq-eqb _ _ c.if-h-ne0.false) (sym c.in_limits.ensures ∙ c.if-not-in_limits.false) (sym c.in_sequence.ensures ∙ c.if-not-in_sequence.true)))) in
    record { answer = t.0; refusal = t.1.0; values = t.1.1 }

pub returns-in_default : goal.returns-in_default
unfolding header_answer
returns-in_default c =
    let s = c.args.s.now in
    let t = header_told s _ (sym (ap header_answer (header-broken s (sym c.header_form.ensures ∙ c.in_default.is)))) in
    record { answer = t.0; refusal = t.1.0; values = t.1.1 }

pub in_sequence-requires : goal.in_sequence-requires
in_sequence-requires c = limits_sum _ (sym c.in_limits.ensures ∙ c.if-not-in_limits.false)
