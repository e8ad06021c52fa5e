-- Words that are enough for every graph that passes 9 and every netlist within 65,536 bytes: with so many lent, 10 never comes.
use Rattle.std.specs.Prelude.{◌+◌, ◌*◌, ◌≤◌, ◌≡◌}
use Rattle.base.specs.{ℕ, List, length}
use Rattle.model.specs.{need, holds, read_header, line_ends}
use Rattle.model.specs.declared.Header.{Header}

abbrev pub Enough : ℕ → Type 0
Enough words = (graph netlist : List ℕ) (h : Header) → read_header graph ≡ holds h → length netlist ≤ 65536 → need h.size h.outputs + 8 * line_ends netlist ≤ words
