-- `cover_choice::mark_pins` meets its contract. The invariant: what is left of the nets, marked, gives the same words as all.
use Rattle.base.specs.{◌≡◌, length, drop}
use Rattle.model.specs.{fed_nets}
use Rattle.base_truth.specs.{places_of}
use Rattle.cover_choice.specs.{put_all}
use Rattle.cover_choice.proofs.mark_pins.Given as goal

abbrev pub invariant-loop-j : goal.invariant-loop-j
invariant-loop-j l = (length l.work ≡ length l.initial.work) × (put_all l.work l.m (drop l.j (fed_nets l.pins (places_of l.order) l.mask l.leaves)) ≡ put_all l.initial.work l.m (fed_nets l.pins (places_of l.order) l.mask l.leaves))
