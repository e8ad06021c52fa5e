-- `check_call::load_graph` meets its contract: the graph behind its header, the topological order, then the netlist, or 11 to 14, 20, 21, 15 or 31.
use Rattle.base.specs.{◌∙◌}
use Rattle.graph_binary.proofs.{header-fit}
use Rattle.model.proofs.{handed_on}
use Rattle.check_call.proofs.CheckStages.{Reads, reading_loaded, reading_stops, order_asks, ordering_stops, many_stop, few_go, few-ordered}
use Rattle.check_call.proofs.load_graph.Goals as goal
use Rattle.check_call.proofs.load_graph.Goals.{In_ok-load}

-- the graph that was read
reads : (c : In_ok-load) → Reads c.args.lib c.args.graph.now c.args.h c.args.netlist.now c.load.new.work
reads c =
    let a = c.args in
    let fit = header-fit a.graph.now a.h a.work.now c.requires.0 c.requires.1 in
    reading_loaded a.lib a.graph.now a.h a.netlist.now a.work.now fit c.requires.0 c.load.result c.load.ensures.answer c.in_ok-load.was _ c.load.ensures.left

pub order_graph-requires : goal.order_graph-requires
order_graph-requires c =
    let r = reads (goal.at.order_graph-requires c).In_ok-load in
    order_asks c.load.new.work c.args.h r.graph r.loaded

pub returns-then-h-gt12 : goal.returns-then-h-gt12
returns-then-h-gt12 c =
    let a = c.args in
    let r = reads (goal.at.returns-then-h-gt12 c).In_ok-load in
    many_stop c.load.new.work a.h r.graph r.loaded a.lib a.netlist.now c.order_graph.result c.order_graph.ensures.answer c.in_ok-order_graph.was
    c.if-h-gt12.true
    ∙ r.goes

pub check_netlist-requires : goal.check_netlist-requires
check_netlist-requires c =
    let a = c.args in
    let r = reads (goal.at.check_netlist-requires c).In_ok-load in (
      (
        r.graph,
        few-ordered c.load.new.work a.h r.graph r.loaded a.lib a.netlist.now c.order_graph.result c.order_graph.ensures.answer
            c.in_ok-order_graph.was c.if-h-gt12.false _ c.order_graph.ensures.left,
      ),
      c.requires.2,
      c.requires.3,
    )

pub returns : goal.returns
returns c =
    let a = c.args in
    let r = reads (goal.at.returns c).In_ok-load in
    c.check_netlist.ensures r.graph
    (few-ordered c.load.new.work a.h r.graph r.loaded a.lib a.netlist.now c.order_graph.result c.order_graph.ensures.answer
    c.in_ok-order_graph.was c.if-h-gt12.false _ c.order_graph.ensures.left)
    ∙ few_go c.load.new.work a.h r.graph r.loaded a.lib a.netlist.now c.order_graph.result c.order_graph.ensures.answer
    c.in_ok-order_graph.was c.if-h-gt12.false
    ∙ r.goes

pub returns-in_err-order_graph : goal.returns-in_err-order_graph
returns-in_err-order_graph c =
    let a = c.args in
    let r = reads (goal.at.returns-in_err-order_graph c).In_ok-load in
    rw (handed_on _ _ c.from_residual-in_err-order_graph.ensures.1)
    (ordering_stops c.load.new.work a.h r.graph r.loaded a.lib a.netlist.now c.order_graph.result c.order_graph.ensures.answer _ _
    c.in_err-order_graph.was
    ∙ r.goes)

pub returns-in_err-load : goal.returns-in_err-load
returns-in_err-load c =
    let a = c.args in
    let fit = header-fit a.graph.now a.h a.work.now c.requires.0 c.requires.1 in
    rw (handed_on _ _ c.from_residual.ensures.1)
    (reading_stops a.lib a.graph.now a.h a.netlist.now a.work.now fit c.requires.0 c.load.result c.load.ensures.answer _ _ c.in_err-load.was)
