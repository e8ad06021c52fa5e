-- `graph_reader::load_ascii` meets its contract, by the laws of its passes.
use Rattle.base.specs.{sym, ◌∙◌, rules}
use Rattle.graph_order.proofs.{fit_length}
use Rattle.model.proofs.{handed_on}
use Rattle.graph_reader.proofs.GraphLoads.{ascii_operands, ascii-defined, ascii-done, ascii_stop}
use Rattle.graph_reader.proofs.load_ascii.Goals as goal

pub all_defined-requires : goal.all_defined-requires
all_defined-requires c =
    (fit_length _ _ _ c.requires.0 (search rules), ascii_operands c.args.s.now c.args.h c.args.work.now c.requires.0 c.requires.1 _ _ _ c.open_words.ensures c.read_lines.ensures.left c.read_lines.ensures.answer c.in_ok-read_lines.was)

pub returns-then-all_defined : goal.returns-then-all_defined
returns-then-all_defined c =
    let l = ascii-defined c.args.s.now c.args.h c.args.work.now c.requires.0 c.requires.1 _ _ _ c.open_words.ensures c.read_lines.ensures.left c.read_lines.ensures.answer c.in_ok-read_lines.was (sym c.all_defined.ensures ∙ c.if-all_defined.true) in
    record { answer = l.0; left = l.1 }

pub returns : goal.returns
returns c =
    let l = ascii-done c.args.s.now c.args.h c.args.work.now c.requires.0 c.requires.1 _ _ _ c.open_words.ensures c.read_lines.ensures.left c.read_lines.ensures.answer c.in_ok-read_lines.was _ c.check_lines.ensures in
    record { answer = l.0; left = l.1 }

pub returns-in_err-read_lines : goal.returns-in_err-read_lines
returns-in_err-read_lines c =
    let l = ascii_stop c.args.s.now c.args.h c.args.work.now c.requires.0 c.requires.1 _ _ _ c.open_words.ensures c.read_lines.ensures.left c.read_lines.ensures.answer _ c.in_err-read_lines.was in
    record { answer = handed_on _ _ c.from_residual.ensures.1 ∙ l.0; left = l.1 }
