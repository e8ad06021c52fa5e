-- The demands hold, for every library text, graph text and lent lengths: each type of `model`'s Demands page by a named theorem.
use Rattle.base.specs.{ℕ, ◌≤◌, ◌<◌, le_trans, le_of_eq, arith, ◌≡◌, refl, sym, ◌∙◌, ap, subst, ◌⊎◌, inl, inr, ◌↔◌, Bool, true, false, cond}
use Rattle.base.specs.{Option, Some, List, [], ◌∷◌, ◌++◌, map, append-nil, Memᴰ, Memᴰ-append_cases, Memᴰ-append_left, T, leb}
use Rattle.base.specs.{leb→le, le→leb, length, get_or}
use Rattle.model.specs.{holds, name_of, each, flip, below, And, literal, var_of, negated, literal_value, value_of, absent, chosen, output, Gate}
use Rattle.model.specs.{Outcome, refused, mapped, map_graph, gates, figures_of, net_name, out_name, sum, largest, no_lower, min_arrival_of, timing_lines}
use Rattle.model.specs.{followed, GateLine, Wire, read_blif, read_figures, read_timings, named, drives, NetArrivals, Call, Design, read_texts}
use Rattle.model.specs.{map_texts, map_design, within, driven_nets, OfPrinted, Readable, Formed, Gated, SameValues, SameFigures, NoEarlier}
use Rattle.model.specs.{OutputsNoEarlier, OfMappable, CoversTimed, Decided, Chosen, choice_text, choice_figures, printed_text, WithinRanges}
use Rattle.model.specs.{Ranges, Values, Earliest, AsciiForms, Untimed}
use Rattle.model.specs.Graph.{Graph}
use Rattle.model.specs.Cover.{Cover}
use Rattle.model.specs.Blif.{Blif}
use Rattle.model.specs.declared.Cell.{Cell}
use Rattle.model.specs.declared.Figures.{Figures}
use Rattle.theory_graph.proofs.{map_out, map-map, map_same, is_true, get_or_in, length-map, order-once, defined-ordered, values_exist}
use Rattle.theory_graph.proofs.{values-only, by_bool, by_read}
use Rattle.theory_graph.specs.AcceptedGraph.{Accepted}
use Rattle.theory_order.proofs.{pairs-kept}
use Rattle.theory_cover.proofs.{choice-earliest, cover-timed, choice-cover, seventeen_iff, choice-printed, own-chosen, choice-preferred}
use Rattle.theory_text.proofs.{line_of, input_names, wires_from, blif_of, texts-read, design-library, design-written, design-ranged}
use Rattle.theory_text.proofs.{design-accepted, net-once, ascii-means, means-outcome, reads-untimed, untimed-zero, timings_from, FromChoice}
use Rattle.theory_text.proofs.{outcome-is, printed-choice, refused_never}
use Rattle.theory_demands.proofs.RefusalRanks.{Fitting, fitting}
use Rattle.theory_demands.proofs.ChosenGates.{present, own-net, line-bound, back, figures_said, timings_said, none_said}
use Rattle.theory_demands.proofs.Wires.{out_net, wire-targets, at-output, at-outputs}
use Rattle.theory_demands.proofs.NetValues.{net-value, the_value, the_holds}
use Rattle.theory_demands.proofs.GateArrivals.{the_time, input_time, times_hold, input-at, net_time}
use Rattle.theory_demands.proofs.PairsFormed.{gate-count, gate-count-listed, driven-phase, well_formed}
use Rattle.theory_demands.proofs.GateLinks.{gates-gated}
use Rattle.theory_demands.proofs.RangeDemands.{within-ranges}

-- ---- what is printed

-- what the netlist of a design reads back as
abbrev chosen_blif : Design → Blif
chosen_blif d = blif_of d.graph (gates d.listed d.cells d.graph (chosen d.cells d.graph))

-- the cells that a call maps with are the listed ones, which fit, and pairs of them where pairs are wanted
pub design-fitting : (c : Call) (d : Design) → read_texts c ≡ holds d → Fitting d.listed d.cells
design-fitting c d e = subst (Fitting d.listed) (texts-read c d e).are_cells (fitting c.paired d.listed (design-library c d e))

-- what is known of a printed netlist
record Known (t : List ℕ) (f : Figures) (d : Design) : Type 0 where
  library : Fitting d.listed d.cells
  graph : Accepted d.graph
  choice : FromChoice d.listed d.cells d.graph (choice_text d.listed d.cells d.graph) f
  is_text : t ≡ printed_text d.ranged d.listed d.cells d.graph
  mins : (k : Cell) → Memᴰ k d.listed → T (no_lower k.mins k.delays)
  four_mins : (k : Cell) → Memᴰ k d.listed → length k.mins ≡ 4
  reads : read_blif t ≡ Some (chosen_blif d)
  says : read_figures t ≡ Some f

-- what is read of the netlist whatever follows it is read with the timing lines and without
pub with_timings : {X : Type 0} (read : List ℕ → X) (x : X) (r : Bool) (listed cells : List Cell) (g : Graph) → ((after : List ℕ) → read (choice_text listed cells g ++ after) ≡ x) → read (printed_text r listed cells g) ≡ x
with_timings read x true listed cells g h = h (timing_lines (min_arrival_of cells g) (λ (l : ℕ). (chosen cells g l).arrival) 0 g.outputs)
with_timings read x false listed cells g h = ap read (sym (append-nil (choice_text listed cells g))) ∙ h []

known : (c : Call) (t : List ℕ) (f : Figures) (d : Design) → read_texts c ≡ holds d → map_texts c ≡ mapped t f → Known t f d
known c t f d e o =
    let p = printed-choice c d e t f o in
    let fit = design-fitting c d e in
    let ok = design-accepted c d e p.choice.ordered in
    record {
      library = fit;
      graph = ok;
      choice = p.choice;
      is_text = p.is_text;
      mins = design-ranged c d e;
      four_mins = λ x m. (design-written c d e x m).0.four_mins;
      reads = ap read_blif p.is_text ∙ with_timings read_blif (Some (chosen_blif d)) d.ranged d.listed d.cells d.graph
          (back d.listed d.cells fit d.graph ok p.choice.covered (choice_figures d.listed d.cells d.graph));
      says = ap read_figures p.is_text ∙ with_timings read_figures (Some (choice_figures d.listed d.cells d.graph)) d.ranged
          d.listed d.cells d.graph
          (figures_said d.listed d.cells fit d.graph ok p.choice.covered (choice_figures d.listed d.cells d.graph))
          ∙ ap Some (sym p.choice.are_figures);
    }

-- a statement of every printed netlist, from one of the chosen gates
of_printed : (P : List Cell → List Cell → Graph → Figures → Blif → Type 0) → ((t : List ℕ) (f : Figures) (d : Design) → Known t f d → P d.listed d.cells d.graph f (chosen_blif d))
    → (c : Call) → OfPrinted P c
of_printed P h c t f d n p =
    let k = known c t f d p.design p.outcome in
    subst (P d.listed d.cells d.graph f) (sym cc) (h t f d k)

pub readable : (c : Call) → Readable c
unfolding map_texts map_design
readable c t f o = by_read (read_texts c)
    (λ d q. let k = known c t f d q o in (d, chosen_blif d, record { design = q; outcome = o; reads = k.reads; says = k.says }))
    (λ n k e. absurd (refused_never (rw e at o)))

pub formed : (c : Call) → OfPrinted Formed c
formed = of_printed Formed (λ t f d k. well_formed d.listed d.cells k.library d.graph k.graph k.choice.covered f)

pub gated : (c : Call) → OfPrinted Gated c
gated = of_printed Gated (λ t f d k. gates-gated d.listed d.cells k.library d.graph k.graph k.choice.covered f)

-- ---- demand 2

pub values : (c : Call) → OfPrinted SameValues c
unfolding blif_of literal_value
values = of_printed SameValues (λ t f d k. record {
  graph_has = λ assignment. (value_of d.graph assignment, values_exist d.graph k.graph assignment);
  netlist_has = λ assignment. (the_value d.listed d.cells k.library d.graph k.graph k.choice.covered assignment, the_holds d.listed d.cells k.library d.graph k.graph k.choice.covered assignment);
  same = λ assignment v hv w hw.
      at-outputs w d.graph.outputs hw.at_wires
      ∙ map_same (λ (l : ℕ). w (net_name l)) (literal_value v) d.graph.outputs
      (λ l m. net-value d.listed d.cells k.library d.graph k.graph k.choice.covered assignment w hw l (output m)
      ∙ ap (flip (negated l))
      (sym (values-only d.graph k.graph assignment v hv (var_of l)
      (defined-ordered d.graph k.graph (var_of l) (k.graph.used l (Memᴰ-append_left (each (λ (a : And). a.left ∷ a.right ∷ []) d.graph.ands) m))))));
})

pub figures : (c : Call) → OfPrinted SameFigures c
unfolding blif_of line_of figures_of
figures = of_printed SameFigures (λ t f d k.
    let ts = gates d.listed d.cells d.graph (chosen d.cells d.graph) in
    let c = k.choice in record {
      has_arrivals = (the_time d.listed d.cells k.library d.graph k.graph c.covered, times_hold d.listed d.cells k.library d.graph k.graph c.covered);
      count = ap (λ (x : Figures). x.gates) c.are_figures ∙ sym (length-map line_of ts);
      area =
          ap (λ (x : Figures). x.area) c.are_figures
          ∙ ap sum (map_same (λ (u : Gate). u.cell.area) (λ (u : Gate). (named d.listed (name_of u.cell)).area) ts (λ y z. ap
          (λ (c : Cell). c.area) (sym (line-bound d.listed d.cells k.library d.graph k.graph k.choice.covered y z).is_cell))
          ∙ sym (map-map (λ (l : GateLine). (named d.listed l.cell).area) line_of ts));
      arrival = λ at h.
          ap (λ (x : Figures). x.arrival) c.are_figures
          ∙ ap largest (map_same (λ (l : ℕ). (chosen d.cells d.graph l).arrival) (λ (l : ℕ). at (net_name l)) d.graph.outputs
          (λ l m. sym (net_time d.listed d.cells k.library d.graph k.graph c.covered at h l (output m)))
          ∙ sym (at-outputs at d.graph.outputs h.at_wires));
      bound = le_trans (le_of_eq (ap (λ (x : Figures). x.gates) c.are_figures)) (gate-count d.listed d.cells k.library d.graph k.graph c.covered);
      bound_listed = λ e. le_trans (le_of_eq (ap (λ (x : Figures). x.gates) c.are_figures)) (gate-count-listed d.listed d.cells k.library d.graph k.graph c.covered e);
    })

-- what is read behind the `# gates` line
pub ranges : (c : Call) → Ranges c
unfolding map_texts map_design
ranges c = record {
  timed = λ t f d n p e.
      let k = known c t f d p.design p.outcome in
      let q : ◌≡◌ {A = Option Blif} (Some n) (Some (chosen_blif d)) = sym p.reads ∙ k.reads in
      let m : n ≡ chosen_blif d = cc in
      let high : ℕ → ℕ = λ l. (chosen d.cells d.graph l).arrival in (
        timings_from (min_arrival_of d.cells d.graph) high 0 d.graph.outputs,
        ap read_timings (k.is_text ∙ ap (λ (r : Bool). printed_text r d.listed d.cells d.graph) (sym (texts-read c d p.design).is_range ∙ e))
            ∙ timings_said d.listed d.cells k.library d.graph k.graph k.choice.covered (choice_figures d.listed d.cells d.graph) (min_arrival_of d.cells d.graph) high,
        subst (λ (x : Blif). WithinRanges d.listed d.graph x (timings_from (min_arrival_of d.cells d.graph) high 0 d.graph.outputs)) (sym m)
            (within-ranges d.listed d.cells k.library k.mins k.four_mins d.graph k.graph k.choice.covered),
      );
  untimed = λ t f o e. (by_read (read_texts c) (λ d p. let k = known c t f d p (ap (map_design c.bytes) p ∙ (rw p at o)) in ap read_timings
      (k.is_text ∙ ap (λ (r : Bool). printed_text r d.listed d.cells d.graph) (sym (texts-read c d p).is_range ∙ e)
      ∙ sym (append-nil (choice_text d.listed d.cells d.graph))) ∙ none_said d.listed d.cells k.library d.graph k.graph
      k.choice.covered (choice_figures d.listed d.cells d.graph)) (λ n k q. absurd (refused_never (rw q at o))));
}

-- ---- demand 3

-- what is known of the arrival t of a `p` or `m` net that is printed: its phase is chosen a source, and t is the chosen arrival
pub record NetChosen (cells : List Cell) (g : Graph) (l t : ℕ) : Type 0 where
  pub present : absent (chosen cells g l).source ≡ false
  pub time : t ≡ (chosen cells g l).arrival

abbrev pub NetsChosen : List Cell → List Cell → Graph → Figures → Blif → Type 0
NetsChosen listed cells g f n =
    (at : List ℕ → ℕ) → NetArrivals listed n (map g.input_arrival g.inputs) at → (l : ℕ) → Memᴰ (net_name l) (driven_nets n) → NetChosen cells g l (at (net_name l))

pub nets-chosen : (c : Call) → OfPrinted NetsChosen c
unfolding blif_of driven_nets absent
nets-chosen = of_printed NetsChosen at-net
  where
    at-net : (t : List ℕ) (f : Figures) (d : Design) → Known t f d → NetsChosen d.listed d.cells d.graph f (chosen_blif d)
    at-net t f d k at h l m = go (Memᴰ-append_cases (input_names d.graph) m)
      where
        ts : List Gate
        ts = gates d.listed d.cells d.graph (chosen d.cells d.graph)

        ends : List (List ℕ)
        ends = map (λ (x : Wire). x.target) (wires_from 0 d.graph.outputs)

        -- a gate's net, for a net's name is no output's own
        gate : Memᴰ (net_name l) (map drives (map line_of ts)) ⊎ Memᴰ (net_name l) ends → NetChosen d.cells d.graph l (at (net_name l))
        gate (inr i) =
            let o = map_out out_name (below (length d.graph.outputs)) (subst (λ (xs : List (List ℕ)). Memᴰ (net_name l) xs) (wire-targets d.graph.outputs) i) in
            absurd (out_net o.0 l (sym o.2))
        gate (inl i) =
            let q = driven-phase d.listed d.cells k.library d.graph k.graph k.choice.covered l i in
            record {
              present = present d.listed d.cells k.library d.graph k.graph k.choice.covered l q.needs;
              time = net_time d.listed d.cells k.library d.graph k.graph k.choice.covered at h l q.needs;
            }

        go : Memᴰ (net_name l) (input_names d.graph) ⊎ Memᴰ (net_name l) (map drives (map line_of ts) ++ ends) → NetChosen d.cells d.graph l (at (net_name l))
        go (inl i) =
            let o = map_out (λ (v : ℕ). net_name (literal false v)) d.graph.inputs i in
            let e : literal false o.0 ≡ l = sym (net-once l (literal false o.0) o.2) in
            let w = own-net d.listed d.cells k.library d.graph k.graph k.choice.covered o.0 o.1 in
            record {
              present = ap (λ (x : ℕ). absent (chosen d.cells d.graph x).source) (sym e) ∙ ap absent (own-chosen d.cells d.graph (order-once d.graph k.graph) (literal false o.0) w);
              time = ap at o.2 ∙ input-at d.graph at d.graph.inputs h.at_inputs o.0 o.1
                  ∙ sym (input_time d.listed d.cells k.library d.graph k.graph k.choice.covered o.0 o.1) ∙ ap (λ (x : ℕ). (chosen d.cells d.graph x).arrival) e;
            }
        go (inr i) = gate (Memᴰ-append_cases (map drives (map line_of ts)) i)

pub no_earlier : (c : Call) → OfPrinted NoEarlier c
no_earlier c t f d n p at h l m cover arrival times k = le_trans (le_of_eq (nets-chosen c t f d n p at h l m).time) (choice-earliest
    d.cells d.graph (design-accepted c d p.design (printed-choice c d p.design t f p.outcome).choice.ordered)
    d.graph.outputs cover arrival times l k).1

pub outputs_no_earlier : (c : Call) → OfPrinted OutputsNoEarlier c
unfolding blif_of
outputs_no_earlier = of_printed OutputsNoEarlier (λ t f d k at h j b.
    let l = get_or d.graph.outputs j 0 in
    let n = output (get_or_in d.graph.outputs j 0 b) in
    let e : at (out_name j) ≡ at (net_name l) = at-output at d.graph.outputs h.at_wires j b in (
      e,
      (λ c arrival times.
          le_trans (le_of_eq (e ∙ net_time d.listed d.cells k.library d.graph k.graph k.choice.covered at h l n))
          (choice-earliest d.cells d.graph k.graph d.graph.outputs c arrival times l (output (get_or_in d.graph.outputs j 0 b))).1),
    ))

pub covers-timed : (c : Call) → OfMappable CoversTimed c
covers-timed c d p = cover-timed d.cells d.graph (design-accepted c d p.design p.ordered)

number_of : Outcome → ℕ
number_of (refused n k) = n
number_of (mapped t f) = 0

-- refusal 17 is no matter of the lent bytes
within-seventeen : (bytes : ℕ) (o : Outcome) (k : ℕ) → (within bytes o ≡ refused 17 k) ↔ (o ≡ refused 17 k)
unfolding within number_of
within-seventeen bytes (refused n j) k = ((λ e. e), (λ e. e))
within-seventeen bytes (mapped t f) k = ((λ e. absurd (go (leb (length t) bytes) e)), (λ e. absurd (refused_never (sym e))))
  where
    go : (b : Bool) → ¬ (cond b (mapped t f) (refused 18 (length t)) ≡ refused 17 k)
    go true e = refused_never (sym e)
    go false e = let q : ◌≡◌ {A = ℕ} 18 17 = ap number_of e in omega arith

-- nor of the timing lines
followed-seventeen : (r : Bool) (cells : List Cell) (g : Graph) (o : Outcome) (k : ℕ) → (followed r cells g o ≡ refused 17 k) ↔ (o ≡ refused 17 k)
unfolding followed
followed-seventeen r cells g (refused n j) k = ((λ e. e), (λ e. e))
followed-seventeen false cells g (mapped t f) k = ((λ e. e), (λ e. e))
followed-seventeen true cells g (mapped t f) k = ((λ e. absurd (refused_never (sym e))), (λ e. absurd (refused_never (sym e))))

followed-text : (r : Bool) (listed cells : List Cell) (g : Graph)
    → followed r cells g (mapped (choice_text listed cells g) (choice_figures listed cells g)) ≡ mapped (printed_text r listed cells g) (choice_figures listed cells g)
unfolding followed
followed-text false listed cells g = refl
followed-text true listed cells g = refl

pub decided : (c : Call) → OfMappable Decided c
decided c d p =
    let ok = design-accepted c d p.design p.ordered in
    let is = outcome-is c d p.design in
    let t = printed_text d.ranged d.listed d.cells d.graph in
    let f = choice_figures d.listed d.cells d.graph in
    let printed : ((l : ℕ) → Memᴰ l d.graph.outputs → Cover d.cells d.graph (l ∷ [])) → map_texts c ≡ within c.bytes
    (mapped t f) = λ covers. is ∙ ap (within c.bytes)
    (ap (followed d.ranged d.cells d.graph) (choice-printed d.cells d.graph ok d.listed p.few covers)
    ∙ followed-text d.ranged d.listed d.cells d.graph) in
    let fits : length t ≤ c.bytes → within c.bytes (mapped t f) ≡ mapped t f = λ h. unfold within in ap
    (λ (b : Bool). cond b (mapped t f) (refused 18 (length t))) (is_true (leb (length t) c.bytes) (le→leb (length t) c.bytes h)) in
    let lacks : c.bytes < length t → within c.bytes (mapped t f) ≡ refused 18 (length t) = λ h. unfold within in by_bool
    (leb (length t) c.bytes) (λ e. rw e (absurd
    (let z : length t ≤ c.bytes = (rw e at (leb→le (length t) c.bytes)) tt in omega (arith, rw e at (leb→le (length t) c.bytes)))))
    (λ q. rw q) in
    record {
      seventeen = λ k. let s = seventeen_iff d.cells d.graph ok d.listed p.few k in let w = within-seventeen c.bytes
          (followed d.ranged d.cells d.graph (map_graph d.listed d.cells d.graph)) k in let v = followed-seventeen
          d.ranged d.cells d.graph (map_graph d.listed d.cells d.graph) k in
          ((λ e. s.0 (v.0 (w.0 (sym is ∙ e)))), (λ u. is ∙ w.1 (v.1 (s.1 u))));
      prints = λ covers h. printed covers ∙ fits h;
      eighteen = λ covers h. printed covers ∙ lacks h;
    }

pub choice : (c : Call) → OfMappable Chosen c
choice c d p =
    let ok = design-accepted c d p.design p.ordered in
    record { covers = choice-cover d.cells d.graph ok; preferred = choice-preferred d.cells d.graph ok }

-- ---- together

-- "the printed netlist, read by BLIF's rules with the listed cells' tables, gives every output the value that the AIGER graph gives it"
pub demand_values : (c : Call) → Values c
demand_values c =
    record { readable = readable c; formed = formed c; gated = gated c; values = values c; figures = figures c; ranges = ranges c }

-- "for each net of the printed netlist, every cover of the outputs that has this net gives it an arrival no earlier"
pub demand_earliest : (c : Call) → Earliest c
demand_earliest c = record {
  pairs = λ d e. (sym (texts-read c d e).are_cells, pairs-kept d.listed);
  earliest = no_earlier c;
  outputs = outputs_no_earlier c;
  timed = covers-timed c;
  decided = decided c;
  choice = choice c;
}

-- the third text is "empty for none"
pub demand_untimed : (c : Call) → Untimed c
unfolding map_texts
demand_untimed c = record { reads = reads-untimed c; outcome = λ e. ap (map_design c.bytes) (reads-untimed c e); zero = untimed-zero c }

-- "A file free of 19 to 21 and its ASCII twin, each within the length in 1, must give the same netlist"
pub demand_ascii_forms : (c : Call) → AsciiForms c
demand_ascii_forms c = record { ascii = ascii-means c.graph; same = means-outcome c }
