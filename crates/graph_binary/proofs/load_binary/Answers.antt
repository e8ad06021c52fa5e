-- `graph_binary::load_binary` meets its contract, by the laws of its three passes.
use Rattle.base.specs.{ap, ◌∙◌, rules}
use Rattle.model.specs.{verdict_refusal}
use Rattle.graph_order.proofs.{fit_length, fit-capacity}
use Rattle.model.proofs.{handed_on}
use Rattle.graph_binary.proofs.BinaryLoads.{header-fit, load-done, load_stop}
use Rattle.graph_binary.proofs.load_binary.Goals as goal

pub open_words-requires : goal.open_words-requires
open_words-requires c =
    fit-capacity _ _ (header-fit c.args.s.now c.args.h c.args.work.now c.requires.0 c.requires.2)

pub store_inputs-requires : goal.store_inputs-requires
store_inputs-requires c =
    fit_length _ _ _ (header-fit c.args.s.now c.args.h c.args.work.now c.requires.0 c.requires.2) (search rules)

pub read_outputs-requires : goal.read_outputs-requires
read_outputs-requires c =
    fit_length _ _ _ (header-fit c.args.s.now c.args.h c.args.work.now c.requires.0 c.requires.2) (search rules)

pub read_gates-requires : goal.read_gates-requires
read_gates-requires c =
    fit_length _ _ _ (header-fit c.args.s.now c.args.h c.args.work.now c.requires.0 c.requires.2) (search rules)

pub returns : goal.returns
returns c =
    let l = load-done c.args.s.now c.args.h c.requires.1 c.args.work.now (header-fit c.args.s.now c.args.h c.args.work.now c.requires.0 c.requires.2) c.requires.0 _ _ _ _ c.open_words.ensures c.store_inputs.ensures c.read_outputs.ensures.answer c.read_outputs.ensures.left _ c.in_ok-at.was _ _ c.read_gates.ensures.answer c.read_gates.ensures.left in
    record { answer = l.0; left = l.1.0; refusal = l.1.1 }

pub returns-in_err-at : goal.returns-in_err-at
returns-in_err-at c =
    let l = load_stop c.args.s.now c.args.h c.requires.1 c.args.work.now (header-fit c.args.s.now c.args.h c.args.work.now c.requires.0 c.requires.2) c.requires.0 _ _ _ _ c.open_words.ensures c.store_inputs.ensures c.read_outputs.ensures.answer c.read_outputs.ensures.left _ c.in_err-at.was in
    let e = handed_on _ _ c.from_residual.ensures.1 in
    record { answer = e ∙ l.0; left = l.1.0; refusal = ap verdict_refusal e ∙ l.1.1 }
