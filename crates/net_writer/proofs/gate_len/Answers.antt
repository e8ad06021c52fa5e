-- `net_writer::gate_len` meets its contract.
use Rattle.base.specs.{◌≡◌, sym, ap, ◌∙◌, arith, rules, length, take, length-take-le}
use Rattle.net_writer.proofs.gate_len.Goals as goal

pub returns : goal.returns
returns c =
    let x = c.args.c in
    let n = c.name_len in
    let eight : length x.name ≡ 8 = search rules in
    let named : length (take x.len x.name) ≡ n.result = ap length (sym (n.ensures.1 x.name eight)) ∙ length-take-le
    n.result x.name (omega arith) in
    omega arith
