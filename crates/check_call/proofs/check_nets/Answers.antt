-- `check_call::check_nets` meets its contract: the nets validated, then the comparison, or 33.
use Rattle.std.specs.Prelude.{Ok}
use Rattle.model.specs.declared.Comparison.{Comparison}
use Rattle.base.specs.{ap, ◌∙◌, length-replicate, ℕ}
use Rattle.model.specs.{input_nets}
use Rattle.model.proofs.{handed_on}
use Rattle.check_call.proofs.InputCodes.{ordered-preamble}
use Rattle.check_call.proofs.CheckStages.{wire_asks, wired_comparable, wired-answer, wired-stops}
use Rattle.check_call.proofs.check_nets.Goals as goal

pub input_codes-inputs-requires : goal.input_codes-inputs-requires
input_codes-inputs-requires c =
    let f = ordered-preamble c.args.work.now c.args.h c.requires.0 c.requires.2.ordered in
    (f.capacity, f.within, f.few)

pub wire-requires : goal.wire-requires
wire-requires c =
    let a = c.args in
    ((input_nets c.requires.0, c.requires.1, wire_asks a.work.now a.h a.nets.now a.n c.requires.0 c.requires.1 c.requires.2 c.input_codes-inputs.result c.input_codes-inputs.ensures), length-replicate {A = ℕ} 43692 0, length-replicate {A = ℕ} 10923 0)

pub compare-requires : goal.compare-requires
compare-requires c =
    let a = c.args in let g = c.requires.0 in let ds = c.requires.1 in
    let asks = wire_asks a.work.now a.h a.nets.now a.n g ds c.requires.2 c.input_codes-inputs.result c.input_codes-inputs.ensures in
    (g, ds, wired_comparable a.work.now a.h a.nets.now a.n g ds c.requires.2 c.wire.result _ _ (c.wire.ensures.0 (input_nets g) ds asks) c.in_ok-wire.was)

pub returns : goal.returns
returns c = λ g ds x.
    let a = c.args in
    let asks = wire_asks a.work.now a.h a.nets.now a.n g ds x c.input_codes-inputs.result c.input_codes-inputs.ensures in
    let j = c.wire.ensures.0 (input_nets g) ds asks in
    ap (λ (x : Comparison). Ok x) (c.compare.ensures g ds (wired_comparable a.work.now a.h a.nets.now a.n g ds x c.wire.result _ _ j c.in_ok-wire.was))
    ∙ wired-answer a.work.now a.h a.nets.now a.n g ds x c.wire.result _ _ j c.in_ok-wire.was

pub returns-in_err-wire : goal.returns-in_err-wire
returns-in_err-wire c = λ g ds x.
    let a = c.args in
    let asks = wire_asks a.work.now a.h a.nets.now a.n g ds x c.input_codes-inputs.result c.input_codes-inputs.ensures in
    rw (handed_on _ _ c.from_residual.ensures.1)
    (wired-stops a.work.now a.h a.nets.now a.n g ds x c.wire.result _ _ (c.wire.ensures.0 (input_nets g) ds asks) _ _ c.in_err-wire.was)
