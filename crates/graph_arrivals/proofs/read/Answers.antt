-- `graph_arrivals::read` meets its contract: no text, or the first line and then the lines from where the next begins.
use Rattle.base.specs.{sym, ap, ◌∙◌, arith}
use Rattle.model.specs.{text, verdict_of}
use Rattle.model.proofs.{verdict-refusal}
use Rattle.base_text.proofs.{first_fits}
use Rattle.graph_arrivals.specs.{head_line, put_all}
use Rattle.graph_arrivals.proofs.NoArrivals.{none-listed, head-not, head_read, head-listed}
use Rattle.graph_arrivals.proofs.read.Goals as goal

pub returns-then-s-eq0 : goal.returns-then-s-eq0
returns-then-s-eq0 c =
    let args = c.args in
    let e = none-listed args.h.inputs args.h.size args.s.now args.work.now (omega arith) in
    record { answer = e.0; refusal = verdict-refusal _ _ e.0; stored = e.1 }

pub first_is-requires : goal.first_is-requires
first_is-requires c = first_fits _ _ c.line-first.ensures

pub returns-then-first_is : goal.returns-then-first_is
unfolding head_line text
returns-then-first_is c =
    let args = c.args in
    let h = sym c.first_is.ensures ∙ c.if-first_is.true in
    let r = head_read args.h.inputs args.s.now (omega arith) _ c.line-first.ensures h in
    let l = head-listed args.h.inputs args.s.now (omega arith) _ c.line-first.ensures h in
    let e = c.read_lines.ensures.value ∙ sym (ap verdict_of r) in
    record {
      answer = e;
      refusal = verdict-refusal _ _ e;
      stored = c.read_lines.ensures.work_after ∙ sym (ap (put_all args.work.now args.h.size) l);
    }

pub returns : goal.returns
unfolding head_line text
returns c =
    let args = c.args in
    let h = sym c.first_is.ensures ∙ c.if-first_is.false in
    let e = head-not args.h.inputs args.s.now (omega arith) _ c.line-first.ensures h args.h.size args.work.now in
    record { answer = e.0; refusal = verdict-refusal _ _ e.0; stored = e.1 }
