-- `cut_lists::insert_position` meets its contract. The invariant: the keys before the i-th are below k.
use Rattle.base.specs.{◌≡◌, ◌++◌, compare, take, drop}
use Rattle.model.specs.{insert}
use Rattle.cut_lists.proofs.insert_position.Given as goal

abbrev pub invariant-loop-i : goal.invariant-loop-i
invariant-loop-i l =
    insert compare l.k (drop l.from l.keys) ≡ drop l.from (take l.i l.keys) ++ insert compare l.k (drop l.i l.keys)
