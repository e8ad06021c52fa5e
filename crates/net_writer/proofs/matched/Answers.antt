-- `net_writer::matched` meets its contract: the leaves at the order's places, in the mask's phases.
use Rattle.base.specs.{List, map, refl, sym, ap, subst, ◌∙◌, ℕ}
use Rattle.model.specs.{var_of}
use Rattle.model.specs.declared.Cut.{Cut}
use Rattle.base_words.specs.{cut_of}
use Rattle.base_truth.specs.{places_of}
use Rattle.net_gates.specs.{phase_net, four_nets, driver_by, pins_by, gates_under, Drives}
use Rattle.net_gates.specs.declared.Driver.{Driver}
use Rattle.net_gates.proofs.{four_taken, drives_by, number-pins}
use Rattle.net_writer.specs.{matched_gates}
use Rattle.net_writer.proofs.matched.Goals as goal

pub returns : goal.returns
unfolding matched_gates var_of
returns c =
    let a = c.args in
    let x = a.x in
    let ready = c.requires.2 in
    let leaves = (cut_of a.work.now a.m (var_of a.l) x.cut).leaves in
    let ps = four_nets (places_of x.order) x.mask leaves in
    let nets = c.four_nets-nets.ensures ∙ ap (λ (k : Cut). map phase_net (four_nets (places_of x.order) x.mask k.leaves)) c.load_cut-cut.ensures in
    let made = c.gates_by.ensures ∙ ap (λ (ns : List ℕ). driver_by a.records.now x.cell ns a.l) nets in
    let taken = four_taken x.order ready.order x.mask leaves (pins_by a.records.now x.cell) (number-pins a.records.now x.cell ready.number) in
    subst (λ (d : Driver). Drives d (matched_gates a.work.now a.records.now a.m a.l x)) (sym made)
    (subst (λ (fed : List ℕ). Drives (driver_by a.records.now x.cell (map phase_net ps) a.l) (gates_under a.records.now x.cell fed a.l)) taken (drives_by ps refl a.l a.records.now x.cell ready.number))
