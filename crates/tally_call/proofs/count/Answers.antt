-- `tally_call::count` meets its contract: a refusal leaves the numbers, and else they are the tally of one netlist more.
use Rattle.base.specs.{◌≡◌, sym, ap, ◌∙◌}
use Rattle.std.proofs.lemmas.Result.{err_from_is_err_and}
use Rattle.model.specs.{holds, count_text, tally_after}
use Rattle.model.specs.declared.Tally.{Tally}
use Rattle.promises.specs.{tally_of}
use Rattle.tally_call.proofs.TallyColumns.{was_counted, was_refused, only_97}
use Rattle.tally_call.proofs.TallyCallRecords.{was_stored, was_kept}
use Rattle.tally_call.proofs.count.Goals as goal

pub store-requires : goal.store-requires
store-requires c =
    let a = c.args in
    let r = c.count in
    let t = c.load-t in
    let o = count_text t.result a.cells.now a.netlist.now in
    let e = was_counted t.result o (sym r.ensures.answer ∙ c.in_ok-count.was) in
    only_97 a.tally.now a.cells.now a.netlist.now (tally_after t.result o) (ap (λ (x : Tally). count_text x a.cells.now a.netlist.now) (sym t.ensures) ∙ e)

pub returns : goal.returns
returns c =
    let a = c.args in
    let r = c.count in
    let t = c.load-t in
    let o = count_text t.result a.cells.now a.netlist.now in
    let e = was_counted t.result o (sym r.ensures.answer ∙ c.in_ok-count.was) ∙ ap holds (sym r.ensures.handed_on) in
    let is : count_text (tally_of a.tally.now) a.cells.now a.netlist.now ≡ holds r.new.t = ap (λ (x : Tally). count_text x a.cells.now a.netlist.now) (sym t.ensures) ∙ e in
    was_stored a.cells.now a.netlist.now a.tally.now c.store.new.out r.new.t is c.store.ensures

pub returns-in_err-count : goal.returns-in_err-count
returns-in_err-count c =
    let a = c.args in
    let r = c.count in
    let t = c.load-t in
    let e = was_refused t.result (count_text t.result a.cells.now a.netlist.now) _ (sym r.ensures.answer ∙ c.in_err-count.was) in
    let p = err_from_is_err_and c.from_residual.result c.from_residual.ensures.1 in
    rw (p.1, p.2)
    (was_kept a.cells.now a.netlist.now a.tally.now _ _ (ap (λ (x : Tally). count_text x a.cells.now a.netlist.now) (sym t.ensures) ∙ e))
