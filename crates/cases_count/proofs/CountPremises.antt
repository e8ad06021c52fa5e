-- What the promises of a count ask of a tally is had: 97 zeros take a netlist more, and so does the tally with case B's netlist.
use Rattle.base.specs.{refl, lit<, replicate}
use Rattle.model.specs.{empty_tally, in_width}
use Rattle.promises.specs.{tally_of}
use Rattle.promises.specs.Sums.{Open}
use Rattle.cases_tally.proofs.{once, tallied}

open_zeros : Open (tally_of (replicate 97 0))
unfolding tally_of in_width
open_zeros = record { gates_long = refl; areas_long = refl; not_full = lit< tt; fits = refl }

open_once : Open once
unfolding once tallied empty_tally in_width
open_once = record { gates_long = refl; areas_long = refl; not_full = lit< tt; fits = refl }
