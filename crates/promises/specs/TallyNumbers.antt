-- A tally as 97 numbers: the gates of the 32 cells, their areas, the netlists in which each occurs, and the netlists counted.
use Rattle.base.specs.{ℕ, Bool, true, false, List, eqb, length, take, drop, get_or, replicate}
use Rattle.model.specs.declared.Tally.{Tally}

-- the tally that any call refuses for its figures
abbrev pub overfull : Tally
overfull = record { gates = replicate 32 0; areas = replicate 32 0; occurs = replicate 32 0; netlists = 1099511627777 }

abbrev pub pick_tally : Bool → Tally → Tally → Tally
pick_tally true a b = a
pick_tally false a b = b

-- numbers as a tally: others than 97 are refused as a figure over 2^40 is
unfoldable pub tally_of : List ℕ → Tally
tally_of s =
    pick_tally (eqb (length s) 97) (record { gates = take 32 (drop 0 s); areas = take 32 (drop 32 s); occurs = take 32 (drop 64 s); netlists = get_or s 96 0 }) overfull
