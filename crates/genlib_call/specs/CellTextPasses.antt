-- What the two passes over the groups of a text find: how long the cell text is, and its lines.
use Rattle.std.specs.Prelude.{◌+◌, ◌∷◌, ◌++◌, Ok}
use Rattle.base.specs.{ℕ, List, [], length}
use Rattle.model.specs.{each, text, lines_from, Read, holds, fault, Group, groups, read_group, gate_text, Written, refused_with}
use Rattle.model.specs.Genlib.{Gate}

-- the length of so many bytes and the lines of the gates read, or the refusal
unfoldable pub measured : ℕ → Read (List Gate) → Written
unfolding each gate_text
measured n (holds gs) = Ok (n + length (each gate_text gs))
measured n (fault k p) = refused_with k p

-- the gate that was read, or none
unfoldable pub found : Read Gate → List Gate
found (holds g) = g ∷ []
found (fault k p) = []

-- the line of a group's gate, if there is one; those of several
unfoldable pub line_of : Group → List ℕ
unfolding each gate_text found read_group
line_of g = each gate_text (found (read_group g))

unfoldable pub lines_for : List Group → List ℕ
unfolding each line_of
lines_for gs = each line_of gs

-- all that is written for a text
unfoldable pub text_for : List ℕ → List ℕ
unfolding text lines_for groups lines_from
text_for s = text "cell pins table area d0 d1 d2 d3\n" ++ lines_for (groups (lines_from 0 [] s))
