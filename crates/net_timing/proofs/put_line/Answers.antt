-- `net_timing::put_line` meets its contract: the keyword, the output's own name, a space and an arrival, twice, and the end of the line.
use Rattle.base.specs.{◌≤◌, arith, length}
use Rattle.model.specs.{text}
use Rattle.base_text.proofs.{as_wrote}
use Rattle.net_writer.proofs.{then}
use Rattle.net_timing.specs.{line_text}
use Rattle.net_timing.proofs.put_line.Goals as goal

pub returns : goal.returns
unfolding line_text text
returns c =
    let h : c.put_byte.result ≤ length c.put_byte.new.out = omega arith in
    then h c.put_bytes-a.ensures (then h c.put_out-b.ensures (then h c.put_byte-c.ensures (then h (as_wrote c.put_number-d.ensures)
    (then h c.put_byte-e.ensures (then h (as_wrote c.put_number-f.ensures) c.put_byte.ensures)))))
