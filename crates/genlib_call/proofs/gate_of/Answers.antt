-- `genlib_call::gate_of` meets its contract: the figures, the delays and the table.
use Rattle.base.specs.{◌≡◌, sym, ap, ◌∙◌, Some, [], ◌+◌, arith, length, drop, get_or}
use Rattle.model.specs.{tokens, pins_of, delays_of, table_of}
use Rattle.genlib_expression.specs.{part, rest_at, names_at}
use Rattle.genlib_expression.proofs.{length-names}
use Rattle.genlib_groups.specs.{lines_behind}
use Rattle.genlib_call.proofs.GateValidation.{gate-found, no_area, no_delays, table_is, part-part, same-gate}
use Rattle.genlib_call.proofs.gate_of.Goals as goal

pub returns-clause-stands : goal.returns-clause-stands
returns-clause-stands c =
    let n = c.nth-name in
    (omega (arith, n.ensures.ordered), omega (arith, n.ensures.within, c.requires.1.fits))

pub returns-clause-same : goal.returns-clause-same
returns-clause-same c =
    let a = c.args in
    let w = a.w.now in
    let ts = tokens w in
    let lines = lines_behind a.s.now a.from in
    let line = c.requires.1 in
    let few = c.requires.2 in
    let n = c.nth-name in
    let named : part a.s.now (a.at + n.result.from) (a.at + n.result.to) ≡ get_or ts 1 [] =
    part-part a.s.now w a.at n.result.from n.result.to line.fits line.same n.ensures.ordered n.ensures.within ∙ n.ensures.bytes in
    let pins : a.p.n ≡ length (pins_of (drop 5 ts)) = sym (length-names w a.p) ∙ ap length few.names in
    let table : c.table-table.result ≡ table_of (drop 5 ts) =
    c.table-table.ensures
    ∙ table_is (names_at w a.p) a.p.n (rest_at w c.nth-n.result.to) (drop 5 ts) few.names (sym (length-names w a.p)) c.nth-n.ensures.rest in
    let found = gate-found lines ts _ _ (sym c.in_ok-area.ensures) (ap (delays_of lines) (sym few.names) ∙ sym c.in_ok-delays.ensures) in
    ap Some (same-gate _ _ named pins table) ∙ sym found

pub returns-in_err-area-clause-same : goal.returns-in_err-area-clause-same
returns-in_err-area-clause-same c = rw c.from_residual.ensures (sym (no_area _ _ (sym c.in_err-area.ensures)))

pub returns-in_err-delays-clause-same : goal.returns-in_err-delays-clause-same
returns-in_err-delays-clause-same c =
    let lines = lines_behind c.args.s.now c.args.from in
    let delays = ap (delays_of lines) (sym c.requires.2.names) ∙ sym c.in_err-delays.ensures in
    rw c.from_residual-in_err-delays.ensures (sym (no_delays lines (tokens c.args.w.now) _ (sym c.in_ok-area.ensures) delays))
