-- `graph_binary::output_step` meets its contract: each return knows what the line was found to be.
use Rattle.base.specs.{sym, ap, ◌∙◌, rules}
use Rattle.graph_loading.specs.{literals, literals_fit, stored_line}
use Rattle.graph_loading.proofs.{fit-defined}
use Rattle.graph_binary.proofs.BinaryPasses.{step-missing, step-broken, step-over, step-output}
use Rattle.graph_binary.proofs.output_step.Goals as goal

pub returns-then-at-s : goal.returns-then-at-s
returns-then-at-s c =
    let t = step-missing c.args.s.now c.args.h c.args.k c.args.at c.args.work.now c.if-at-s.true in
    record { answer = sym t.0; left = sym t.1 }

pub returns-then-not-fits : goal.returns-then-not-fits
returns-then-not-fits c =
    let t = step-over c.args.s.now c.args.h c.args.k c.args.at c.args.work.now c.if-at-s.false _ _ (sym c.number_then.ensures ∙ c.in-Some.is) (ap (λ n. literals_fit c.args.h.size (literals n 0 0 c.in-Some.d.at)) (sym c.from.ensures) ∙ sym c.fits.ensures ∙ c.if-not-fits.true) in
    record { answer = sym t.0; left = sym t.1 }

pub store_line-requires : goal.store_line-requires
store_line-requires c = (search rules, search rules, fit-defined _ _ (sym c.fits.ensures ∙ c.if-not-fits.false))

pub returns : goal.returns
returns c =
    let t = step-output c.args.s.now c.args.h c.args.k c.args.at c.args.work.now c.if-at-s.false _ _ (sym c.number_then.ensures ∙ c.in-Some.is) (ap (λ n. literals_fit c.args.h.size (literals n 0 0 c.in-Some.d.at)) (sym c.from.ensures) ∙ sym c.fits.ensures ∙ c.if-not-fits.false) in
    record { answer = sym t.0; left = c.store_line.ensures ∙ ap (λ n. stored_line c.args.work.now c.args.h c.args.k (literals n 0 0 c.in-Some.d.at)) c.from.ensures ∙ sym t.1 }

pub returns-in_default : goal.returns-in_default
returns-in_default c =
    let t = step-broken c.args.s.now c.args.h c.args.k c.args.at c.args.work.now c.if-at-s.false (sym c.number_then.ensures ∙ c.in_default.is) in
    record { answer = sym t.0; left = sym t.1 }
