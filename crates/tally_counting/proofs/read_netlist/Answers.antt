-- `tally_counting::read_netlist` meets its contract: the preamble, the gates, and what is expected behind them.
use Rattle.std.proofs.lemmas.Result.{err_from_is_err_and}
use Rattle.base.specs.{ap}
use Rattle.tally_counting.specs.{read_in}
use Rattle.tally_counting.proofs.ExpectedNetlistLines.{reached, stopped}
use Rattle.tally_counting.proofs.CountReading.{preamble-broken, behind-broken, behind-whole, broken_at, whole_by}
use Rattle.tally_counting.proofs.read_netlist.Goals as goal

pub read_gates-counts-requires : goal.read_gates-counts-requires
read_gates-counts-requires c =
    ((reached c.args.s.now c.read_preamble.ensures.0 c.read_preamble.ensures.1 _ c.in_ok-at.was).1, c.requires.0, c.requires.1)

pub returns-in_err-at : goal.returns-in_err-at
returns-in_err-at c =
    let a = c.args in
    let p = err_from_is_err_and c.from_residual.result c.from_residual.ensures.1 in
    rw (p.1, p.2)
    (broken_at a.ranged a.lib a.s.now _ (preamble-broken a.ranged a.lib a.s.now _ (stopped a.s.now c.read_preamble.ensures.0 c.read_preamble.ensures.1 _ c.in_err-at.was).0))

pub returns-in_err-read_behind : goal.returns-in_err-read_behind
returns-in_err-read_behind c =
    let a = c.args in
    let s = a.s.now in
    let f = reached s c.read_preamble.ensures.0 c.read_preamble.ensures.1 _ c.in_ok-at.was in
    let g = c.read_gates-counts in
    let r = c.read_behind in
    let p = err_from_is_err_and c.from_residual-in_err-read_behind.result c.from_residual-in_err-read_behind.ensures.1 in
    rw (p.1, p.2)
    (broken_at a.ranged a.lib s _ (behind-broken a.ranged a.lib s _ f.0 g.result g.ensures c.outputs-outs.result c.outputs-outs.ensures (read_in s r.result) r.ensures.0 _
    (ap (read_in s) c.in_err-read_behind.was)))

pub returns : goal.returns
returns c =
    let a = c.args in
    let s = a.s.now in
    let f = reached s c.read_preamble.ensures.0 c.read_preamble.ensures.1 _ c.in_ok-at.was in
    let g = c.read_gates-counts in
    let r = c.read_behind in
    whole_by a.ranged a.lib s _ (behind-whole a.ranged a.lib s _ f.0 g.result g.ensures c.outputs-outs.result c.outputs-outs.ensures (read_in s r.result) r.ensures.0 _
    (ap (read_in s) c.in_ok-read_behind.was))
