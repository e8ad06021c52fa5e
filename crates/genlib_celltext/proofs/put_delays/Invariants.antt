-- `genlib_celltext::put_delays` meets its contract. The invariant: the delays passed are written, and those from here on are left; once one is passed, there
-- are four.
use Rattle.base.specs.{◌≡◌, ◌<◌, ◌∷◌, [], ◌++◌, length, drop}
use Rattle.model.specs.{each, number_text}
use Rattle.base_text.proofs.{Partly}
use Rattle.genlib_celltext.proofs.put_delays.Given as goal

abbrev pub invariant-loop-d : goal.invariant-loop-d
invariant-loop-d l =
    Partly l.fn.out l.out l.fn.at l.to (each number_text l.d-items ++ (10 ∷ [])) (each number_text (drop l.d-index l.d-items) ++ (10 ∷ [])) × (0 < l.d-index → length l.d-items ≡ 4)
