-- `tally_lines::gate_of` meets its contract. The invariant: the line is of a cell from here on where it is of one at all.
use Rattle.base.specs.{◌≡◌, drop}
use Rattle.model.specs.{cells_of, gate_of}
use Rattle.tally_lines.proofs.gate_of.Given as goal

abbrev pub invariant-loop-i : goal.invariant-loop-i
invariant-loop-i l = gate_of 0 (cells_of l.lib) l.w ≡ gate_of l.i (drop l.i (cells_of l.lib)) l.w
