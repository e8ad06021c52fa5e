-- `net_writer::write_words` meets its contract: the first lines, the gates, the outputs' wires and the last lines.
use Rattle.base.specs.{◌≤◌, arith, length}
use Rattle.net_writer.specs.{text_in, all_gates}
use Rattle.net_writer.proofs.NetlistLength.{preamble-length, figures-length}
use Rattle.net_writer.proofs.FollowingText.{then}
use Rattle.net_writer.proofs.write_words.Goals as goal

pub put_preamble-a-requires : goal.put_preamble-a-requires
put_preamble-a-requires c =
    (c.requires.1, omega (arith, preamble-length c.args.work.now c.args.h.size c.args.h.inputs c.args.h.outputs))

pub put_figures-requires : goal.put_figures-requires
put_figures-requires c =
    omega (arith, figures-length c.args.f)

pub returns : goal.returns
unfolding text_in all_gates
returns c =
    let h : c.put_figures.result ≤ length c.put_figures.new.out = omega arith in
    then h c.put_preamble-a.ensures (then h c.put_gates-b.ensures (then h c.put_wires-c.ensures c.put_figures.ensures))
