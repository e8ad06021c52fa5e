-- `mapper::load_graph` meets its contract: the graph behind its header, the topological order and the arrivals, then the cuts, or 11 to 14, 20, 21, 25, 26 or
-- 15.
use Rattle.base.specs.{◌∙◌}
use Rattle.graph_binary.proofs.{header-fit}
use Rattle.model.proofs.{handed_on}
use Rattle.mapper.proofs.StageStates.{loaded_asks}
use Rattle.mapper.proofs.StageLaws.{answered_as, Reads, reading_loaded, reading_stops, ordering_lists, times_stop, ordering_stops, ordering_timed}
use Rattle.mapper.proofs.load_graph.Goals as goal
use Rattle.mapper.proofs.load_graph.Goals.{In_ok-load}

-- the graph that was read
reads : (c : In_ok-load) → let a = c.args in Reads a.ranged a.lib a.ids.now a.graph.now a.arrivals.now a.h c.load.new.work
reads c =
    let a = c.args in
    let fit = header-fit a.graph.now a.h a.work.now c.requires.1 c.requires.2 in
    reading_loaded a.ranged a.lib a.ids.now c.requires.0 a.graph.now a.arrivals.now a.h a.work.now fit c.requires.1 c.load.result c.load.ensures.answer
    c.in_ok-load.was _ c.load.ensures.left

pub order_graph-ordered-requires : goal.order_graph-ordered-requires
order_graph-ordered-requires c =
    let a = c.args in
    let s = reads (goal.at.order_graph-ordered-requires c).In_ok-load in
    loaded_asks c.load.new.work a.lib a.ids.now a.h s.graph s.loaded

pub read-requires : goal.read-requires
read-requires c =
    let a = c.args in
    let r = c.order_graph-ordered in
    let s = reads (goal.at.read-requires c).In_ok-load in
    ordering_lists a.ranged c.load.new.work a.lib a.ids.now a.h s.graph s.loaded r.result r.ensures.answer r.new.work r.ensures.left

pub cut_graph-requires : goal.cut_graph-requires
cut_graph-requires c =
    let a = c.args in
    let u = c.read in
    let r = c.order_graph-ordered in
    let s = reads (goal.at.cut_graph-requires c).In_ok-load in
    let d = ordering_timed a.ranged c.load.new.work a.lib a.ids.now a.h s.graph s.loaded r.result r.ensures.answer r.new.work r.ensures.left
    a.arrivals.now u.result u.ensures.answer c.in_ok-read.was c.in_ok-ordered.was u.new.work u.ensures.stored in
    ((d.graph, d.timed), c.requires.3)

pub returns : goal.returns
returns c =
    let a = c.args in
    let u = c.read in
    let r = c.order_graph-ordered in
    let s = reads (goal.at.returns c).In_ok-load in
    let d = ordering_timed a.ranged c.load.new.work a.lib a.ids.now a.h s.graph s.loaded r.result r.ensures.answer r.new.work r.ensures.left
    a.arrivals.now u.result u.ensures.answer c.in_ok-read.was c.in_ok-ordered.was u.new.work u.ensures.stored in
    answered_as (s.outcome _ ∙ d.outcome _) (c.cut_graph.ensures d.graph d.timed)

pub returns-in_err-ordered : goal.returns-in_err-ordered
returns-in_err-ordered c =
    let s = reads (goal.at.returns-in_err-ordered c).In_ok-load in
    let r = c.order_graph-ordered in
    rw (handed_on _ _ c.from_residual-in_err-ordered.ensures.1)
    (answered_as (s.outcome _)
    (ordering_stops _ _ _ _ _ s.graph s.loaded _ r.ensures.answer _ r.ensures.left _ _ c.read.ensures.answer c.in_ok-read.was _ _ c.in_err-ordered.was
    _))

pub returns-in_err-read : goal.returns-in_err-read
returns-in_err-read c =
    let s = reads (goal.at.returns-in_err-read c).In_ok-load in
    let r = c.order_graph-ordered in
    rw (handed_on _ _ c.from_residual-in_err-read.ensures.1)
    (answered_as (s.outcome _) (times_stop _ _ _ _ _ s.graph s.loaded _ r.ensures.answer _ r.ensures.left _ _ c.read.ensures.answer _ _ c.in_err-read.was _))

pub returns-in_err-load : goal.returns-in_err-load
returns-in_err-load c =
    let a = c.args in
    let fit = header-fit a.graph.now a.h a.work.now c.requires.1 c.requires.2 in
    rw (handed_on _ _ c.from_residual.ensures.1)
    (reading_stops a.ranged a.lib a.ids.now c.requires.0 a.graph.now a.arrivals.now a.h a.work.now fit c.requires.1 c.load.result c.load.ensures.answer _ _
    c.in_err-load.was a.text.now)
