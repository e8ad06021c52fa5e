-- `net_timing::pins_min_arrival` meets its contract. The invariant: the latest of the pins from here on.
use Rattle.base.specs.{◌≡◌, drop}
use Rattle.model.specs.{fed_nets}
use Rattle.base_truth.specs.{places_of}
use Rattle.net_timing.specs.{latest_min}
use Rattle.net_timing.proofs.pins_min_arrival.Given as goal

abbrev pub invariant-loop-j : goal.invariant-loop-j
invariant-loop-j l = l.t ≡ latest_min l.work l.m (drop l.j (fed_nets l.pins (places_of l.order) l.mask l.leaves)) (drop l.j (drop l.at l.mins))
