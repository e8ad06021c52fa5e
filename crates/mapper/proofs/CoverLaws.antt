-- From the cuts to the marked phases: what the choice and the marking leave is what the writer asks.
use Rattle.std.specs.Prelude.{Ok}
use Rattle.base.specs.{ℕ, ◌/◌, ◌≤◌, arith, ◌≡◌, refl, sym, ◌∙◌, ap, subst, Bool, true, false, List, [], ◌∷◌, inr, length}
use Rattle.model.specs.{refused_at, first_of, cells_of, topological_order, absent, chosen, refused, mapped, cover_verdict, uncovered, printed, refused_with}
use Rattle.model.specs.{map_chosen, Allowed, followed, choice_text, choice_figures, printed_text, within}
use Rattle.model.specs.Graph.{Graph}
use Rattle.model.specs.declared.Library.{Library}
use Rattle.model.specs.declared.Header.{Header}
use Rattle.model.specs.declared.Phase.{Phase}
use Rattle.model.specs.declared.Source.{Source}
use Rattle.model.specs.declared.Source.TheVariants.{Input, Cell as Matched, Inverter as Inverted, Nothing}
use Rattle.model.proofs.{refusal_parts}
use Rattle.theory_graph.proofs.{order-once}
use Rattle.theory_cover.proofs.{chosen_fine}
use Rattle.theory_text.proofs.{outputs_present}
use Rattle.base_words.specs.{ordered_count, needed_at, needed_addr, phase_at}
use Rattle.base_words.proofs.{represented-cut}
use Rattle.cover_choice.specs.{missing, marked, chosen_up}
use Rattle.cover_choice.proofs.{NeedsKept, graph-kept, order-kept, cuts-kept, phases-kept, few-ordered, ordered-is, needs-matches}
use Rattle.cover_choice.proofs.{needs-slots, up_after, Covered, MarkedFrom, mark_law, mark_asked, ChosenFrom, choose_law, unchosen}
use Rattle.cover_choice.proofs.{uncovered_law}
use Rattle.net_writer.specs.MappedWords.{Mapped}
use Rattle.net_timing.specs.{InverterIn}
use Rattle.mapper.specs.{Cut, Timeable, all_of, printed_for, cut_for}
use Rattle.mapper.proofs.LibraryBounds.{all-matchable, all-few}
use Rattle.mapper.proofs.StageStates.{none_first}

-- what 17 says
pub all-covered : (lib : Library) (ids : List ℕ) (g : Graph) → cover_verdict (all_of lib ids) g ≡ Ok tt → uncovered (chosen (all_of lib ids) g) 0 g.outputs ≡ []
unfolding cover_verdict
all-covered lib ids g e = none_first 17 (uncovered (chosen (all_of lib ids) g) 0 g.outputs) e

-- from 17 on, the outcome is the choice's netlist
pub cut-printed : (ranged : Bool) (lib : Library) (ids : List ℕ) (g : Graph) (bytes : ℕ) → cover_verdict (all_of lib ids) g ≡ Ok tt → cut_for ranged lib ids g bytes ≡ printed_for ranged lib ids g bytes
unfolding map_chosen printed chosen followed
cut-printed ranged lib ids g bytes e =
    ap (λ (us : List ℕ). within bytes (followed ranged (all_of lib ids) g (printed (cells_of lib) (all_of lib ids) g (chosen (all_of lib ids) g) us))) (all-covered lib ids g e) ∙ ap (within bytes) (go ranged)
  where
    go : (r : Bool) → followed r (all_of lib ids) g (mapped (choice_text (cells_of lib) (all_of lib ids) g) (choice_figures (cells_of lib) (all_of lib ids) g)) ≡ mapped (printed_text r (cells_of lib) (all_of lib ids) g) (choice_figures (cells_of lib) (all_of lib ids) g)
    go true = refl
    go false = refl

pub cut-refused : (ranged : Bool) (lib : Library) (ids : List ℕ) (g : Graph) (bytes n k : ℕ) → cover_verdict (all_of lib ids) g ≡ refused_with n k → cut_for ranged lib ids g bytes ≡ refused n k
unfolding map_chosen printed chosen cover_verdict refused_at first_of within followed
cut-refused ranged lib ids g bytes n k e = go (uncovered (chosen (all_of lib ids) g) 0 g.outputs) e
  where
    go : (us : List ℕ) → refused_at 17 (first_of us) ≡ refused_with n k → within bytes (followed ranged (all_of lib ids) g (printed (cells_of lib) (all_of lib ids) g (chosen (all_of lib ids) g) us)) ≡ refused n k
    go [] q = absurd (let z : ◌≡◌ {A = ℕ} 0 1 = cc in omega arith)
    go (u ∷ us) q = let s = refusal_parts q in (λ i. refused (s.0 i) (s.1 i))

module _ (w : List ℕ) (lib : Library) (ids : List ℕ) (h : Header) (g : Graph) (c : Cut w lib ids h g) where
  mid : List ℕ
  mid = chosen_up (all_of lib ids) w h.size (ordered_count h)

  from : ChosenFrom w mid (all_of lib ids) g
  unfolding mid
  from = choose_law w (all_of lib ids) h g c.given.header c.represented (all-matchable lib ids c.given.library) c.unchosen

  pub chosen-covered : Covered (chosen_up (all_of lib ids) w h.size (ordered_count h)) (all_of lib ids) g
  unfolding mid
  chosen-covered = from.covered

  pub chosen-verdict : missing (chosen_up (all_of lib ids) w h.size (ordered_count h)) h.size h.outputs ≡ cover_verdict (all_of lib ids) g
  unfolding mid
  chosen-verdict = uncovered_law mid (all_of lib ids) h g c.given.header c.represented.accepted from.covered.represented.graph from.covered.phases

  none_needed : (v : ℕ) → v ≤ g.size → needed_at mid g.size v ≡ 0
  none_needed v l = from.kept.before (needed_addr g.size v) (omega arith) ∙ c.unneeded v l

  end : List ℕ
  end = marked (all_of lib ids) mid h.size h.outputs (ordered_count h)

  left : MarkedFrom mid end (all_of lib ids) g
  unfolding end
  left = mark_law mid (all_of lib ids) h g c.given.header from.covered none_needed

  pub marked-mapped : cover_verdict (all_of lib ids) g ≡ Ok tt
      → Mapped (marked (all_of lib ids) (chosen_up (all_of lib ids) w h.size (ordered_count h)) h.size h.outputs (ordered_count h)) lib ids h g
  unfolding mid end
  marked-mapped e = record {
    size = c.given.header.size;
    inputs = c.given.header.inputs;
    outputs = c.given.header.outputs;
    few_inputs = omega (arith, c.given.fits.variables);
    few_outputs = c.given.fits.outputs;
    coded = c.given.library.coded;
    numbered = c.given.library.numbered;
    library = c.given.library.read.fits;
    accepted = c.represented.accepted;
    few_cuts = c.represented.free;
    covered = outputs_present (chosen (all_of lib ids) g) 0 g.outputs (all-covered lib ids g e);
    graph = graph-kept g _ _ mid end left.kept (omega arith) (omega arith) (inr (omega arith)) from.covered.represented.graph;
    order = order-kept g _ _ mid end left.kept (omega arith) (omega arith) c.represented.accepted from.covered.represented.order;
    cuts = represented-cut end g (cuts-kept g _ _ mid end left.kept (omega arith) (omega arith) c.represented.accepted c.represented.free from.covered.represented.cuts);
    phases = phases-kept g _ _ mid end left.kept (omega arith) (omega arith) (all_of lib ids) (omega arith) from.covered.phases;
    needs = left.needs;
  }

  -- ---- what the minimum arrivals ask

  -- an inverter is one of the cells to map with
  inverter_in : (l : ℕ) → InverterIn (all_of lib ids) (chosen (all_of lib ids) g l).source
  unfolding absent
  inverter_in l = go (chosen (all_of lib ids) g l).source refl
    where
      go : (s : Source) → (chosen (all_of lib ids) g l).source ≡ s → InverterIn (all_of lib ids) s
      go Input q = tt
      go Nothing q = tt
      go (Matched x) q = tt
      go (Inverted i) q =
          let b = (subst (Allowed (all_of lib ids) g l) q (chosen_fine (all_of lib ids) g (order-once g c.represented.accepted) l (ap absent q)).0.allowed).has_cell in
          (b, omega (arith, b, all-few lib ids c.given.library))

  pub marked_timeable : Timeable (marked (all_of lib ids) (chosen_up (all_of lib ids) w h.size (ordered_count h)) h.size h.outputs (ordered_count h)) lib ids h g
  unfolding mid end
  marked_timeable =
      let ok = c.represented.accepted in
      let n = ordered-is h g c.given.header ok in
      let asked = mark_asked mid (all_of lib ids) h g c.given.header from.covered in
      let kept : NeedsKept h.size mid end = subst (λ (m : ℕ). NeedsKept m mid end) (sym c.given.header.size) left.kept in
      record {
        library = c.given.library;
        header = c.given.header;
        retimable = record {
          matches = needs-matches h.size (all_of lib ids) mid end kept asked.0;
          inverters = subst (λ (m : ℕ). (l : ℕ) → l / 2 ≤ m → InverterIn (all_of lib ids) (phase_at end m l).source) (sym c.given.header.size)
              (λ l b. subst (λ (p : Phase). InverterIn (all_of lib ids) p.source)
              (sym ((phases-kept g _ _ mid end left.kept (omega arith) (omega arith) (all_of lib ids) (omega arith) from.covered.phases).phases l (omega arith))) (inverter_in l));
        };
        slots = needs-slots h.size (ordered_count h) mid end kept asked.2;
        soon = λ l b.
            let u = unchosen (all_of lib ids) (all-matchable lib ids c.given.library) g w c.represented c.unchosen in
            let e = (up_after (all_of lib ids) (all-matchable lib ids c.given.library) w g.size (length (topological_order g)) u (length (topological_order g)) (omega arith)).early.early l b in
            let few = few-ordered g ok in
            let mid-is : mid ≡ chosen_up (all_of lib ids) w g.size (length (topological_order g)) = (λ i. chosen_up (all_of lib ids) w (c.given.header.size i) (n i)) in
            let p : phase_at mid g.size l ≡ chosen (all_of lib ids) g l = from.covered.phases.phases l b in
            let a : (chosen (all_of lib ids) g l).arrival ≡ (phase_at (chosen_up (all_of lib ids) w g.size (length (topological_order g))) g.size l).arrival =
            ap (λ (q : Phase). q.arrival) (sym p ∙ ap (λ (x : List ℕ). phase_at x g.size l) mid-is) in
            omega (arith, a, e, few, c.given.fits.size);
      }
