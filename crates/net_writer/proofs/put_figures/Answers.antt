-- `net_writer::put_figures` meets its contract.
use Rattle.base.specs.{◌≤◌, arith, length}
use Rattle.model.specs.{text}
use Rattle.base_text.proofs.{as_wrote}
use Rattle.net_writer.specs.{figures_text}
use Rattle.net_writer.proofs.FollowingText.{then}
use Rattle.net_writer.proofs.put_figures.Goals as goal

pub returns : goal.returns
unfolding figures_text text
returns c =
    let h : c.put_byte.result ≤ length c.put_byte.new.out = omega arith in
    then h c.put_bytes-a.ensures (then h (as_wrote c.put_number-b.ensures)
    (then h c.put_bytes-c.ensures (then h (as_wrote c.put_number-d.ensures)
    (then h c.put_bytes-e.ensures (then h (as_wrote c.put_number-g.ensures) c.put_byte.ensures)))))
