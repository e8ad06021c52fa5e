-- `cut_functions::shallow` meets its contract: where no walk is asked for, the AND of both operands' tables is noted.
use Rattle.base.specs.{refl, ◌<◌, rules}
use Rattle.cut_functions.proofs.ConeWalks.{found-from-leaves, from-leaves-and}
use Rattle.cut_functions.proofs.shallow.Goals as goal

pub returns : goal.returns
returns c =
    let x_small : c.in_ok-x.x < 65536 = search rules in
    let y_small : c.in_ok-y.y < 65536 = search rules in
    let small : c.note_and.result < 65536 = search rules in
    from-leaves-and c.requires.3 c.requires.0 c.requires.4 c.requires.5 c.left-l.ensures c.right-r.ensures
    (found-from-leaves c.in_ok-x.ensures x_small) (found-from-leaves c.in_ok-y.ensures y_small) c.note_and.ensures.0 small c.note_and.ensures.1 refl
