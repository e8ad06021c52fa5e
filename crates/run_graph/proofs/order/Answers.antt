-- `run_graph::order` meets its contract: a header that is answered is the text's, and what `order_graph` asks is what an accepted `load` leaves.
use Rattle.std.specs.Prelude.{◌≡◌, ◌≤◌, Ok}
use Rattle.base.specs.{ℕ, List, length, arith, sym, ◌∙◌}
use Rattle.model.specs.{need, read_header, read_graph, holds, verdict_of}
use Rattle.model.specs.declared.Header.{Header}
use Rattle.theory_text.proofs.{header-fits}
use Rattle.graph_order.specs.{Fit, Operands}
use Rattle.graph_order.proofs.{fit_length}
use Rattle.graph_binary.proofs.{header-fit}
use Rattle.graph_reader.specs.{loaded_words}
use Rattle.graph_reader.proofs.{header_read_lem, order_asks}
use Rattle.run_graph.proofs.order.Goals as goal

-- what an accepted `load` leaves
loaded : (s w x : List ℕ) (h : Header) → read_header s ≡ holds h → need h.size h.outputs ≤ length w
    → verdict_of (read_graph s h) ≡ Ok tt → x ≡ loaded_words w s h → Fit h x × Operands x h.size
loaded s w x h read enough accepted left = order_asks w s h x (header-fit s h w read enough) accepted left

pub need_words-requires : goal.need_words-requires
need_words-requires c =
    let f = header-fits _ _ (header_read_lem _ _ (sym c.header.ensures.answer ∙ c.in_ok-h.was)) in
    (omega (arith, f.size), omega (arith, f.outputs))

pub load-requires : goal.load-requires
load-requires c =
    (header_read_lem _ _ (sym c.header.ensures.answer ∙ c.in_ok-h.was), omega (arith, c.need_words.ensures, c.if-need_words-work.false))

pub order_graph-requires : goal.order_graph-requires
order_graph-requires c =
    loaded c.args.text.now c.args.work.now c.load.new.work c.in_ok-h.h (header_read_lem _ _ (sym c.header.ensures.answer ∙ c.in_ok-h.was))
    (omega (arith, c.need_words.ensures, c.if-need_words-work.false)) (sym c.load.ensures.answer ∙ c.in_ok-load.was) c.load.ensures.left

pub returns : goal.returns
returns c =
    let l = loaded c.args.text.now c.args.work.now c.load.new.work c.in_ok-h.h (header_read_lem _ _ (sym c.header.ensures.answer ∙ c.in_ok-h.was))
    (omega (arith, c.need_words.ensures, c.if-need_words-work.false)) (sym c.load.ensures.answer ∙ c.in_ok-load.was) c.load.ensures.left in
    fit_length _ _ _ l.0 (omega (arith, c.order_graph.auto.work))
