-- `net_writer::put_driver` meets its contract: the inner's line and the root's, the root's alone, or none.
use Rattle.base.specs.{◌≡◌, ap, subst, ◌≤◌, arith, length, take, length-append}
use Rattle.model.specs.{gate_line}
use Rattle.base_text.proofs.{idle}
use Rattle.net_gates.specs.declared.Instance.{Instance}
use Rattle.net_gates.specs.{FewPins, gate_of}
use Rattle.net_writer.specs.{line_length}
use Rattle.net_writer.proofs.NetlistLength.{line-length, lines_two, lines-one, lines-absent}
use Rattle.net_writer.proofs.FollowingText.{then, reads}
use Rattle.net_writer.proofs.put_driver.Goals as goal

-- the bytes of a gate's line
instance-length : (g : Instance) → length (gate_line (gate_of g)) ≡ line_length g.cell (take g.count g.nets) g.net
unfolding gate_of
instance-length g = line-length g.cell (take g.count g.nets) g.net

pub put_instance-requires : goal.put_instance-requires
put_instance-requires c =
    (subst FewPins c.in-One.is c.requires.0, omega (arith, ap length (lines-one c.in-One.is), instance-length c.in-One.g, c.requires.1))

pub put_instance-next-requires : goal.put_instance-next-requires
put_instance-next-requires c =
    let d = c.in-Pair in
    let two = lines_two d.is in
    ((subst FewPins d.is c.requires.0).0, omega (arith, simp length-append at (ap length two), instance-length d.inner, c.requires.1))

pub put_instance-requires-in-Pair : goal.put_instance-requires-in-Pair
put_instance-requires-in-Pair c =
    let d = c.in-Pair in
    let two = lines_two d.is in
    ((subst FewPins d.is c.requires.0).1, omega (arith, simp length-append at (ap length two), instance-length d.root, c.requires.1))

pub returns-in-Nothing : goal.returns-in-Nothing
returns-in-Nothing c = idle c.args.out.now c.args.at (lines-absent c.in-Nothing.is)

pub returns-in-One : goal.returns-in-One
returns-in-One c = reads (lines-one c.in-One.is) c.put_instance.ensures

pub returns-in-Pair : goal.returns-in-Pair
returns-in-Pair c =
    let two = lines_two c.in-Pair.is in
    let h : c.put_instance-in-Pair.result ≤ length c.put_instance-in-Pair.new.out = omega (arith, simp length-append at (ap length two)) in
    reads two (then h c.put_instance-next.ensures c.put_instance-in-Pair.ensures)
