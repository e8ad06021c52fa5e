-- `cut_lists::move_up` meets its contract.
use Rattle.base.specs.{arith}
use Rattle.cut_lists.proofs.KeyInsertion.{moved-ahead, moved-behind}
use Rattle.cut_lists.proofs.move_up.Goals as goal

pub returns : goal.returns
returns c =
    let a = c.args in
    record {
      ahead = moved-ahead a.keys.now a.from a.to _ c.requires.1 c.requires.2 (omega (arith, c.requires.0, c.requires.3)) c.copy_within.ensures.after;
      behind = moved-behind a.keys.now a.from a.to _ c.requires.1 c.requires.2 (omega (arith, c.requires.0, c.requires.3)) c.copy_within.ensures.after;
    }
