-- `graph_reader::load` meets its contract: each form by its own reader.
use Rattle.base.specs.{sym, ◌∙◌}
use Rattle.model.specs.{read_graph}
use Rattle.model.proofs.{verdict-refusal}
use Rattle.graph_binary.proofs.{header-fit}
use Rattle.graph_reader.proofs.GraphLoads.{words-binary, words-ascii}
use Rattle.graph_reader.proofs.load.Goals as goal

pub load_ascii-requires : goal.load_ascii-requires
load_ascii-requires c =
    (header-fit c.args.s.now c.args.h c.args.work.now c.requires.0 c.requires.1, c.if-h.false)

pub returns-then-h : goal.returns-then-h
returns-then-h c =
    let args = c.args in let r = c.load_binary.ensures in
    record { answer = r.answer; left = r.left ∙ sym (words-binary args.work.now args.s.now args.h c.if-h.true); refusal = r.refusal }

pub returns : goal.returns
returns c =
    let args = c.args in let r = c.load_ascii.ensures in
    record {
      answer = r.answer;
      left = r.left ∙ sym (words-ascii args.work.now args.s.now args.h c.if-h.false);
      refusal = verdict-refusal _ (read_graph args.s.now args.h) r.answer;
    }
