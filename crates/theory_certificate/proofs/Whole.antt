-- All that is promised of what a certificate makes, for every graph, size and certificate.
use Rattle.base.specs.{ℕ, ◌≡◌, Bool, Some, List, Memᴰ, T}
use Rattle.model.specs.{no_lower}
use Rattle.model.specs.Graph.{Graph}
use Rattle.model.specs.declared.Cell.{Cell}
use Rattle.theory_graph.specs.{library_fits}
use Rattle.theory_text.proofs.{figures-back, timings-none}
use Rattle.promises_certificate.specs.{Proved}
use Rattle.certificate_model.specs.{Move, Outcome, HasCapacity, certify, figures_by, is_acyclic, printed_text, wired}
use Rattle.theory_certificate.proofs.Runs.{certified}
use Rattle.theory_certificate.proofs.PrintedNetlist.{certified_has, certified_same, gates_of, named-gates, netlist_of, out_nets, reads}
use Rattle.theory_certificate.proofs.Ranks.{ranked_values}
use Rattle.theory_certificate.proofs.Figures.{certified_figures}
use Rattle.theory_certificate.proofs.CertificateRanges.{says-times, within-ranges}

pub certified_proved : (nets : ℕ) (capacity : HasCapacity) (cells : List Cell) (g : Graph) (ms : List Move) (is : List ℕ) (o : Outcome) → certify nets capacity cells g ms is ≡ Some o
    → T (library_fits cells) → ((c : Cell) → Memᴰ c cells → T (no_lower c.mins c.delays)) → (places ranks : List ℕ) → T (is_acyclic places ranks g)
    → (ranged : Bool) → Proved ranged cells g (printed_text ranged cells g o) (figures_by cells o)
unfolding printed_text
certified_proved nets capacity cells g ms is o e fit low-high places ranks ok ranged =
    let k = certified nets capacity cells g ms is o e in
    let has = ranked_values places ranks g ok in
    record {
      netlist = netlist_of cells g o;
      reads = reads k fit (figures_by cells o) _;
      values = record { graph_has = has; netlist_has = certified_has k fit; same = certified_same k fit };
      says = figures-back (wired g (out_nets o)) (gates_of cells o) (figures_by cells o) _ (named-gates k fit);
      figures = certified_figures k fit has;
      timed = λ q. rw q (_, says-times k fit has low-high, within-ranges k fit has low-high);
      untimed = λ q. rw q (timings-none (wired g (out_nets o)) (gates_of cells o) (figures_by cells o) (named-gates k fit));
    }
