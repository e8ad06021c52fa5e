-- `net_writer::measure_words` meets its contract.
use Rattle.base.specs.{arith}
use Rattle.model.specs.declared.Figures.{Figures}
use Rattle.net_writer.proofs.NetlistLength.{figures_in_lem, measured_in_lem}
use Rattle.net_writer.proofs.measure_words.Goals as goal

pub returns : goal.returns
returns c =
    let a = c.args in
    let t = c.count_gates-t in
    let arrival = c.latest-arrival in
    let preamble = c.preamble_len-preamble in
    let wires = c.wires_len-wires in
    let f : Figures = record { gates = t.result.gates; area = t.result.area; arrival = arrival.result } in (
      measured_in_lem a.work.now a.records.now a.h t.result t.ensures.0 f preamble.result wires.result c.figures_len.result
          (figures_in_lem a.work.now a.records.now a.h t.result t.ensures.0 arrival.result arrival.ensures) preamble.ensures.0 wires.ensures.0 c.figures_len.ensures.0,
      record { length = omega (arith, c.requires.1); gates = omega arith; area = omega arith },
    )
