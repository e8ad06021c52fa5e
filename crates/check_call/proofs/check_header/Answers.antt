-- `check_call::check_header` meets its contract: 7 to 10 and 19 leave the words as they were, and whatever comes later leaves them zero.
use Rattle.base.specs.{◌≡◌, sym, ◌∙◌, ap, ℕ, arith, length, replicate}
use Rattle.model.specs.{need}
use Rattle.theory_text.proofs.{header-fits}
use Rattle.graph_reader.proofs.{header_read_lem}
use Rattle.model.proofs.{handed_on}
use Rattle.check_call.proofs.CheckStages.{header-stops, header-short, header-done}
use Rattle.check_call.proofs.check_header.Goals as goal

pub need_words-requires : goal.need_words-requires
need_words-requires c =
    let f = header-fits c.args.graph.now c.in_ok-h.h (header_read_lem _ _ (sym c.header.ensures.answer ∙ c.in_ok-h.was)) in
    (omega (arith, f.size), omega (arith, f.outputs))

pub overflow_mul-line_ends : goal.overflow_mul-line_ends
overflow_mul-line_ends c = omega (arith, c.requires.1, c.line_ends.ensures.1)

pub overflow_add-need_words : goal.overflow_add-need_words
unfolding need
overflow_add-need_words c =
    let f = header-fits c.args.graph.now c.in_ok-h.h (header_read_lem _ _ (sym c.header.ensures.answer ∙ c.in_ok-h.was)) in
    omega (arith, c.requires.1, c.line_ends.ensures.1, c.need_words.ensures, f.size, f.outputs)

pub returns-then-work-need_words : goal.returns-then-work-need_words
returns-then-work-need_words c =
    let a = c.args in
    header-short a.lib a.graph.now a.netlist.now a.work.now c.in_ok-h.h (header_read_lem _ _ (sym c.header.ensures.answer ∙ c.in_ok-h.was)) (omega (arith, c.need_words.ensures, c.line_ends.ensures.0))

pub load_graph-r-requires : goal.load_graph-r-requires
load_graph-r-requires c =
    (header_read_lem _ _ (sym c.header.ensures.answer ∙ c.in_ok-h.was), omega (arith, c.need_words.ensures, c.if-work-need_words.false), c.requires.0, c.requires.1)

pub returns : goal.returns
returns c =
    let a = c.args in
    let long : length c.load_graph-r.new.work ≡ length a.work.now = omega (arith, c.load_graph-r.auto.work) in
    header-done a.lib a.graph.now a.netlist.now a.work.now c.in_ok-h.h (header_read_lem _ _ (sym c.header.ensures.answer ∙ c.in_ok-h.was))
    (omega (arith, c.need_words.ensures, c.line_ends.ensures.0, c.if-work-need_words.false)) _ _ c.load_graph-r.ensures (c.clear_all.ensures ∙ ap (λ (j : ℕ). replicate j 0) long)

pub returns-in_err-h : goal.returns-in_err-h
returns-in_err-h c =
    let a = c.args in
    rw (handed_on _ _ c.from_residual.ensures.1)
    (header-stops a.lib a.graph.now a.netlist.now a.work.now c.header.result c.header.ensures.answer _ _ c.in_err-h.was)
