-- The minimum arrivals and the lines that say them: what the pass leaves is what is asked for the writing, and the lines are the definition's.
use Rattle.base.specs.{ℕ, ◌+◌, ◌/◌, ◌%◌, ◌≤◌, arith, ◌≡◌, sym, ◌∙◌, ap, subst, List, eqb, length, get_or}
use Rattle.model.specs.{no_cell, topological_order, var_of, cell_of, chosen, min_arrival_of, timing_lines}
use Rattle.model.specs.Graph.{Graph}
use Rattle.model.specs.declared.Library.{Library}
use Rattle.model.specs.declared.Header.{Header}
use Rattle.model.specs.declared.Phase.{Phase}
use Rattle.model.specs.declared.Source.{Source}
use Rattle.model.specs.declared.Source.TheVariants.{Input, Cell as Matched, Inverter as Inverted, Nothing}
use Rattle.theory_graph.proofs.{get_or_in, order_small}
use Rattle.base_words.specs.{ordered_count, min_arrival_at, kind_at, left_at, right_at, needed_at, output_at, node_of, node_at, flag_of, is_needed}
use Rattle.cover_choice.specs.{OutputsIn}
use Rattle.cover_choice.proofs.{few-cuts, few-ordered, ordered-is, output-small}
use Rattle.net_writer.specs.MappedWords.{Mapped}
use Rattle.net_timing.specs.{retimed_up, lines_from}
use Rattle.net_timing.proofs.{MinsKept, mins-phase, mins-leaves, Ready, retime_kept, retime_mins, lines_are}
use Rattle.mapper.specs.{Timeable, Lowered, all_of}
use Rattle.mapper.proofs.LibraryBounds.{all-ranges, all-brief}

module _ (w : List ℕ) (lib : Library) (ids : List ℕ) (h : Header) (g : Graph) (p : Mapped w lib ids h g) where
  -- nothing that the writer looks at is among the words of the minimum arrivals
  pub mapped-kept : (v : List ℕ) → MinsKept g.size w v → Mapped v lib ids h g
  unfolding node_at is_needed var_of
  mapped-kept v k = record {
    size = p.size;
    inputs = p.inputs;
    outputs = p.outputs;
    few_inputs = p.few_inputs;
    few_outputs = p.few_outputs;
    coded = p.coded;
    numbered = p.numbered;
    library = p.library;
    accepted = p.accepted;
    few_cuts = p.few_cuts;
    covered = p.covered;
    graph = record {
      capacity = record { small = p.graph.capacity.small; capacity = omega (arith, p.graph.capacity.capacity, k.size) };
      nodes = λ u l.
          let x : kind_at v g.size u ≡ kind_at w g.size u = k.before _ (omega arith) in
          let y : left_at v g.size u ≡ left_at w g.size u = k.before _ (omega arith) in
          let z : right_at v g.size u ≡ right_at w g.size u = k.before _ (omega arith) in
          (λ i. node_of (x i) (y i) (z i)) ∙ p.graph.nodes u l;
      outputs = λ i l. k.behind _ (omega arith) ∙ p.graph.outputs i l;
      input_arrival = λ u l. k.before _ (omega arith) ∙ p.graph.input_arrival u l;
    };
    order = record {
      slots = λ i l. k.before _ (omega (arith, few-ordered g p.accepted)) ∙ p.order.slots i l;
      places = λ i l.
          let b = order_small g p.accepted (get_or (topological_order g) i 0) (get_or_in (topological_order g) i 0 l) in
          k.before _ (omega (arith, b)) ∙ p.order.places i l;
      waiting = λ u l n. k.before _ (omega arith) ∙ p.order.waiting u l n;
    };
    cuts = λ u l n b. mins-leaves g.size w v k u l n (omega (arith, few-cuts g p.few_cuts u)) ∙ p.cuts u l n b;
    phases = record { phases = λ l e. mins-phase g.size w v k l (omega arith) ∙ p.phases.phases l e };
    needs = record {
      marks = λ l e.
          let x : needed_at v g.size (l / 2) ≡ needed_at w g.size (l / 2) = k.before _ (omega arith) in
          ap (λ (n : ℕ). flag_of n (eqb (l % 2) 1)) x ∙ p.needs.marks l e;
    };
  }

  -- ---- what the lines are asked, and what they are

  pub lines_asked : OutputsIn w h.size h.outputs × (h.outputs ≤ 4096)
  lines_asked =
      let o : OutputsIn w g.size (length g.outputs) = record {
        capacity = p.graph.capacity;
        within = λ i l. subst (λ (x : ℕ). x / 2 ≤ g.size) (sym (p.graph.outputs i l)) (output-small g p.accepted (get_or g.outputs i 0) (get_or_in g.outputs i 0 l));
      } in
      (subst (λ (m : ℕ). OutputsIn w m h.outputs) (sym p.size) (subst (λ (n : ℕ). OutputsIn w g.size n) (sym p.outputs) o), omega (arith, p.outputs, p.few_outputs))

  pub lines_said : Lowered w lib ids g
      → lines_from w h.size 0 h.outputs ≡ timing_lines (min_arrival_of (all_of lib ids) g) (λ (l : ℕ). (chosen (all_of lib ids) g l).arrival) 0 g.outputs
  lines_said low =
      (λ i. lines_from w (p.size i) 0 (p.outputs i))
      ∙ lines_are w g.size (min_arrival_of (all_of lib ids) g) (λ (l : ℕ). (chosen (all_of lib ids) g l).arrival) 0 g.outputs
      (λ j b. let z : 0 + j ≡ j = omega arith in ap (output_at w g.size) z ∙ p.graph.outputs j b)
      (λ l m. (low l m, ap (λ (x : Phase). x.arrival) (p.phases.phases l (omega (arith, output-small g p.accepted l m)))))

  -- ---- after the pass

  module _ (t : Timeable w lib ids h g) (v : List ℕ) (e : v ≡ retimed_up (all_of lib ids) w h.size (ordered_count h)) where
    few : length (topological_order g) ≤ g.size + 1
    few = few-ordered g p.accepted

    ready : Ready w (all_of lib ids) g
    ready = record {
      capacity = record { small = p.graph.capacity.small; capacity = omega (arith, p.graph.capacity.capacity) };
      slots = p.order.slots;
      input_arrival = p.graph.input_arrival;
      cuts = p.cuts;
      phases = p.phases.phases;
    }

    same : (xs : List ℕ) (j : ℕ) → get_or xs j 0 ≤ get_or xs j 0
    same xs j = omega arith

    ranges : (s : Source) (j : ℕ) → get_or (cell_of (all_of lib ids) s).mins j 0 ≤ get_or (cell_of (all_of lib ids) s).delays j 0
    unfolding cell_of
    ranges Input j = same no_cell.mins j
    ranges Nothing j = same no_cell.mins j
    ranges (Matched x) j = all-ranges lib ids t.library x.cell j
    ranges (Inverted c) j = all-ranges lib ids t.library c j

    is : v ≡ retimed_up (all_of lib ids) w g.size (length (topological_order g))
    is = e ∙ (λ i. retimed_up (all_of lib ids) w (p.size i) (ordered-is h g t.header p.accepted i))

    pub lowered_mapped : Mapped v lib ids h g
    lowered_mapped = mapped-kept v
        (subst (λ (x : List ℕ). MinsKept g.size w x) (sym is)
        (retime_kept g p.accepted p.few_cuts (all_of lib ids) few t.soon (all-brief lib ids t.library) (λ l q j. ranges (chosen (all_of lib ids) g l).source j) w ready))

    pub lowered_mins : Lowered v lib ids g
    lowered_mins l m =
        subst (λ (x : List ℕ). min_arrival_at x g.size l ≡ min_arrival_of (all_of lib ids) g l) (sym is)
        (retime_mins g p.accepted p.few_cuts (all_of lib ids) few t.soon (all-brief lib ids t.library) (λ l q j. ranges (chosen (all_of lib ids) g l).source j) w ready l (p.covered l m))
