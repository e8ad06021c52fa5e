-- `cut_functions::recursive` meets its contract: the AND of both operands' tables is noted.
use Rattle.base.specs.{refl, arith, ◌/◌, ◌<◌, rules}
use Rattle.cut_functions.proofs.ConeWalks.{Found, moved, found-from-leaves, found_then, from-leaves-and}
use Rattle.cut_functions.proofs.+recursive.Goals as goal
use Rattle.cut_functions.proofs.+recursive.Goals.{in-Some, in-None, in-Some-from_leaves, in-None-from_leaves}

pub returns : goal.returns
returns t c =
    let a = c.args in
    let first : Found a.work.now a.m a.base (c.left-l.result / 2) a.notes.now c.match-from_leaves.notes c.match-from_leaves.x =
    elim c.match-from_leaves.branch [
      | in-Some w ↦
          let small : w.in-Some.x < 65536 = search rules in
          moved (Found _ _ _ _ _) w.notes-is w.x-is (found-from-leaves w.in-Some.ensures small)
      | in-None w ↦
          let small : w.recursive-x.result < 65536 = search rules in
          moved (Found _ _ _ _ _) w.notes-is w.x-is (found_then w.in-None.ensures (omega arith) w.recursive-x.ensures small)
    ] in
    let second : Found a.work.now a.m a.base (c.right-r.result / 2) c.match-from_leaves.notes c.match-from_leaves-2.notes c.match-from_leaves-2.y =
    elim c.match-from_leaves-2.branch [
      | in-Some-from_leaves w ↦
          let small : w.in-Some-from_leaves.y < 65536 = search rules in
          moved (Found _ _ _ _ _) w.notes-is w.y-is (found-from-leaves w.in-Some-from_leaves.ensures small)
      | in-None-from_leaves w ↦
          let small : w.recursive-y.result < 65536 = search rules in
          moved (Found _ _ _ _ _) w.notes-is w.y-is (found_then w.in-None-from_leaves.ensures (omega arith) w.recursive-y.ensures small)
    ] in
    let small : c.note_and.result < 65536 = search rules in
    from-leaves-and c.requires.3 c.requires.0 c.requires.4 c.requires.5 c.left-l.ensures c.right-r.ensures first second
    c.note_and.ensures.0 small c.note_and.ensures.1 refl
