-- Which number is which, by computing: the numbers 0 to 96 as a tally.
use Rattle.base.specs.{◌≡◌, refl}
use Rattle.model.specs.{from, below}
use Rattle.promises.specs.{tally_of}

pub in_order_lem : tally_of (below 97) ≡ record { gates = from 0 32; areas = from 32 32; occurs = from 64 32; netlists = 96 }
unfolding tally_of below from
in_order_lem = refl
