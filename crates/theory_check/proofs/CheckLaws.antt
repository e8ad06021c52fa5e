-- An unrefused netlist: what was read is sound, so the answer is the comparison's.
use Rattle.base.specs.{ℕ, ◌+◌, ◌*◌, ◌<◌, ◌≡◌, refl, sym, ◌∙◌, ap, subst, Bool, true, false, ◌&&◌, true≢false, Option, None, Some, List, []}
use Rattle.base.specs.{◌∷◌, Memᴰ, leb, length}
use Rattle.model.specs.{lowest, smaller, need, lines_from, holds, literal, var_of, unordered, order_from, topological_order, read_library, read_header}
use Rattle.model.specs.{read_graph, net_name, out_name, Driver, Edited, line_ends, read_netlist, validate_nets, input_nets, preamble_of, past_lines}
use Rattle.model.specs.{read_drivers, read_edited, check_read, check_texts, ComparedCheck, MeantCheck, EqualCheck, Distinct}
use Rattle.model.specs.Graph.{Graph}
use Rattle.theory_graph.specs.AcceptedGraph.{Accepted}
use Rattle.theory_graph.proofs.{map-distinct, front-distinct, lit_var, order-once}
use Rattle.theory_text.proofs.{holds-once, unless_out, next_out, graph-accepted, library-fits, library-cell, cell_form, net-once}
use Rattle.theory_check.proofs.DriverSort.{nets_of}
use Rattle.theory_check.proofs.ComparisonLaws.{Sound, compared}
use Rattle.theory_check.proofs.NetVerdicts.{unless-none, nets-validated, drivers-outputs}
use Rattle.theory_check.proofs.NetlistMeaning.{netlist-means}

is_some : Option ℕ → Bool
is_some None = false
is_some (Some k) = true

-- all are ordered where there is no lowest that is not
pub all-ordered : (vs : List ℕ) → lowest vs ≡ None → vs ≡ []
unfolding lowest
all-ordered [] e = refl
all-ordered (v ∷ vs) e = absurd (go (lowest vs) e)
  where
    go : (o : Option ℕ) → ¬ (smaller v o ≡ None)
    go None q = true≢false (unfold smaller is_some in ap is_some q)
    go (Some w) q = true≢false (unfold smaller is_some in ap is_some q)

pub inputs-once : (g : Graph) → Accepted g → Distinct g.inputs
unfolding topological_order
inputs-once g ok = front-distinct g.inputs (order_from (length g.ands) g.ands (0 ∷ g.inputs)) (order-once g ok).1

-- drivers that 33 does not refuse, each output's own name among them, are sound
pub validated-sound : (g : Graph) (ds : List Driver) → Accepted g → validate_nets (input_nets g) ds ≡ holds ds → ((k : ℕ) → k < length g.outputs → Memᴰ (out_name k) (nets_of ds)) → Sound g ds
validated-sound g ds ok e outs =
    let k = nets-validated (input_nets g) ds ds e in
    record {
      graph = ok;
      inputs_once = unfold input_nets in map-distinct (λ (v : ℕ). net_name (literal false v)) g.inputs
          (λ x y e. sym (lit_var false x) ∙ ap var_of (net-once (literal false x) (literal false y) e) ∙ lit_var false y) (inputs-once g ok);
      vars_once = inputs-once g ok;
      once = k.0.once;
      apart = k.0.apart;
      used = k.0.used;
      no_cycle = k.0.no_cycle;
      outputs = outs;
    }

-- what is read is sound
pub edited_sound : (library graph netlist : List ℕ) (words : ℕ) (e : Edited) → read_edited library graph netlist words ≡ holds e → Sound e.graph e.drivers
unfolding read_edited read_netlist
edited_sound library graph netlist words e q =
    let b = next_out (read_library library) _ e
    (unless_out (leb (length library) 65536 && (leb (length graph) 65536 && leb (length netlist) 65536)) 1 0 _ e q).1 in
    let c = next_out (read_header graph) _ e b.2 in
    let f = next_out (read_graph graph c.0) _ e
    (unless_out (leb (need c.0.size c.0.outputs + 8 * line_ends netlist) words) 10 0 _ e c.2).1 in
    let p = unless-none (lowest (unordered f.0)) 15 _ e f.2 in
    let n = next_out (read_netlist b.0 f.0 netlist) _ e (unless_out (leb (length f.0.inputs) 12) 31 0 _ e p.1).1 in
    let j = next_out (validate_nets (input_nets f.0) n.0) (λ ds. holds (record { graph = f.0; drivers = ds })) e n.2 in
    let k = nets-validated (input_nets f.0) n.0 j.0 j.1 in
    let l = next_out (past_lines (length netlist) (preamble_of f.0) (lines_from 0 [] netlist))
    (read_drivers b.0 (length netlist) (length f.0.outputs)) n.0 n.1 in
    subst (λ (x : Edited). Sound x.graph x.drivers) (holds-once j.2) (subst (λ (ds : List Driver). Sound f.0 ds) k.1
    (validated-sound f.0 n.0 (graph-accepted graph c.0 f.0 c.1 f.1 (all-ordered (unordered f.0) p.0))
    (j.1 ∙ ap holds (sym k.1)) (drivers-outputs b.0 (length netlist) (length f.0.outputs) l.0 n.0 l.2)))

-- "Unrefused, it is accepted exactly when every output equals the graph's for each of the 2^I input settings"
pub edited_compared : (library graph netlist : List ℕ) (words : ℕ) → ComparedCheck library graph netlist words
unfolding check_texts check_read
edited_compared library graph netlist words e q = rw q (compared e.graph e.drivers (edited_sound library graph netlist words e q))

-- what was read means what the text means
pub edited_meant : (library graph netlist : List ℕ) (words : ℕ) → MeantCheck library graph netlist words
unfolding read_edited
edited_meant library graph netlist words e q cells is_cells =
    let b = next_out (read_library library) _ e
    (unless_out (leb (length library) 65536 && (leb (length graph) 65536 && leb (length netlist) 65536)) 1 0 _ e q).1 in
    let c = next_out (read_header graph) _ e b.2 in
    let f = next_out (read_graph graph c.0) _ e
    (unless_out (leb (need c.0.size c.0.outputs + 8 * line_ends netlist) words) 10 0 _ e c.2).1 in
    let i = unless_out (leb (length f.0.inputs) 12) 31 0 _ e (unless-none (lowest (unordered f.0)) 15 _ e f.2).1 in
    let n = next_out (read_netlist b.0 f.0 netlist) _ e i.1 in
    let j = next_out (validate_nets (input_nets f.0) n.0) (λ ds. holds (record { graph = f.0; drivers = ds })) e n.2 in
    rw (← holds-once j.2) (rw (← (nets-validated (input_nets f.0) n.0 j.0 j.1).1) (rw (← holds-once (sym b.1 ∙ is_cells))
    (netlist-means b.0 (λ x i. (cell_form x (library-cell b.0 (library-fits library b.0 b.1) x i)).few_pins) f.0 netlist n.0
    n.1)))

-- both together, in demand 2's words
pub edited_equal : (library graph netlist : List ℕ) (words : ℕ) → EqualCheck library graph netlist words
edited_equal library graph netlist words e q cells is_cells n is_read =
    let m = edited_meant library graph netlist words e q cells is_cells in
    let c = edited_compared library graph netlist words e q in
    let one : m.blif ≡ n = let z : Some m.blif ≡ Some n = sym m.reads ∙ is_read in cc in (
      (λ a assignment v hv w hw k b. c.accepted.0 a assignment k b v hv w ((m.values assignment w).1 (rw one hw))),
      (λ h. c.accepted.1 (λ assignment k b v hv w hw. h assignment v hv w (rw one at ((m.values assignment w).0 hw)) k b)),
    )
