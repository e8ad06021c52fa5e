-- `net_writer::count_instance` meets its contract: one gate more.
use Rattle.base.specs.{sym, ◌∙◌, ◌+◌, arith, take}
use Rattle.net_gates.specs.{gate_of}
use Rattle.net_writer.proofs.NetlistLength.{line-length, tally_one}
use Rattle.net_writer.proofs.count_instance.Goals as goal

pub returns : goal.returns
unfolding gate_of
returns c =
    let t = c.args.t in
    let g = c.args.g in
    let long = c.gate_len.ensures.0 ∙ sym (line-length g.cell (take g.count g.nets)
    g.net) in (
      (λ i. record { length = t.length + long i; gates = t.gates + 1; area = t.area + c.from.ensures i }) ∙ sym (tally_one t (gate_of g)),
      omega arith,
    )
