-- Demand 3 over covers by relations, from the same over the covers that the choice knows by numbers.
--     earliest_by_data            the whole of it, for every call
use Rattle.base.specs.{ℕ, ◌≤◌, ◌<◌, arith, ◌≡◌, refl, sym, ◌∙◌, ap, subst, inl, inr, ⊎_elim, Bool, true, false, List, [], ◌∷◌, map, cons≢nil, Memᴰ, T}
use Rattle.base.specs.{length, length-append, get_or, get_or-append}
use Rattle.model.specs.{cell_at, no_cell, name_of, is_name, chosen, Call, Design, read_texts, holds, map_texts, Mappable, pair_of, pair_pins, pair_at, cell_of_pair}
use Rattle.model.specs.{cells_for, with_pairs, pairs_of}
use Rattle.model.specs.Blif.{Blif}
use Rattle.model.specs.Cover.{Cover as CoverBy}
use Rattle.model.specs.Demands.{Printed}
use Rattle.model.specs.declared.Cell.{Cell}
use Rattle.model.specs.declared.Figures.{Figures}
use Rattle.model.specs.declared.Source.{Source as Numbers}
use Rattle.promises.specs.Covers.{Cover}
use Rattle.promises.specs.Earliest.{NoEarlier, OutputsNoEarlier, LatestOutput, CoversTimed, Decided, IsSource, Chosen, Earliest}
use Rattle.theory_graph.specs.{library_fits}
use Rattle.theory_graph.specs.AcceptedGraph.{Accepted}
use Rattle.theory_graph.proofs.{get_or_in, map_in, map_out, by_nat}
use Rattle.theory_relations.proofs.CellRelations.{Sound, pair-four}
use Rattle.theory_relations.proofs.CoverEquivalence.{of_cover, to_cover, to_needed, to_arrivals, from-arrivals, linked_data, data_source, needed_to, arrivals-from}
use Rattle.theory_relations.proofs.Latest.{largest-over, largest-one}
use Rattle.theory_relations.proofs.Prefer.{source_is, preferred_by_data}
use Rattle.theory_text.proofs.{texts-read, design-library, design-accepted, library-cell, cell_form, printed-choice}
use Rattle.theory_text.proofs.NetlistNames.{CellForm}
use Rattle.theory_demands.proofs.RefusalRanks.{Numbered, single, double, fitting}
use Rattle.theory_demands.proofs.CallDemands.{demand_earliest, figures}

-- ---- the cells of a call

named-long : (c : Cell) → T (is_name (name_of c)) → 0 < c.len
unfolding is_name name_of
named-long c t = by_nat c.len (λ e. absurd (rw e at t)) (λ j q. omega arith)

module _ (listed : List Cell) (fits : T (library_fits listed)) where
  form : (c : Cell) → Memᴰ c listed → CellForm c
  form c m = cell_form c (library-cell listed fits c m)

  front_of : (paired : Bool) (k : ℕ) → k < length listed → (k < length (cells_for paired listed)) × (cell_at (cells_for paired listed) k ≡ cell_at listed k)
  unfolding cells_for with_pairs cell_at
  front_of false k h = (h, refl)
  front_of true k h =
      (omega (arith, length-append listed (map (cell_of_pair listed) (pairs_of listed))), get_or-append listed (map (cell_of_pair listed) (pairs_of listed)) no_cell k h)

  -- what covers by relations ask of the cells
  pub sound : (paired : Bool) → Sound listed (cells_for paired listed)
  unfolding cell_at cell_of_pair pair_of pair_pins
  sound paired = record {
    front = front_of paired;
    named = λ k h. let m = get_or_in listed k no_cell h in named-long (get_or listed k no_cell) (form (get_or listed k no_cell) m).is_named;
    nameless = λ k h low. go k low (number k h);
    few = λ k h. few k (number k h);
    four = λ k h. four k (number k h);
  }
    where
      number : (k : ℕ) → k < length (cells_for paired listed) → Numbered listed (cells_for paired listed) k
      number = (fitting paired listed fits).numbered

      go : (k : ℕ) → length listed ≤ k → Numbered listed (cells_for paired listed) k → (get_or (cells_for paired listed) k no_cell).len ≡ 0
      go k low (single h e) = absurd (omega arith)
      go k low (double h p e) = ap (λ (c : Cell). c.len) e

      few : (k : ℕ) → Numbered listed (cells_for paired listed) k → (get_or (cells_for paired listed) k no_cell).pins ≤ 4
      few k (single h e) = rw e (form (get_or listed k no_cell) (get_or_in listed k no_cell h)).few_pins
      few k (double h p e) = rw e (omega (arith, p.few))

      four : (k : ℕ) → Numbered listed (cells_for paired listed) k → length (get_or (cells_for paired listed) k no_cell).delays ≡ 4
      four k (single h e) = rw e (form (get_or listed k no_cell) (get_or_in listed k no_cell h)).four_delays
      four k (double h p e) =
          let q = pair_at listed k in
          let r = get_or listed q.root no_cell in
          let i = get_or listed q.inner no_cell in
          rw e (pair-four r q.pin i (form r p.has_root).four_delays (form i p.has_inner).four_delays (omega (arith, p.has_pin, (form r p.has_root).few_pins)) p.some_pin)

pub design-sound : (c : Call) (d : Design) → read_texts c ≡ holds d → Sound d.listed d.cells
design-sound c d e = subst (Sound d.listed) (texts-read c d e).are_cells (sound d.listed (design-library c d e) c.paired)

-- ---- what is printed

module _ (c : Call) (t : List ℕ) (f : Figures) (d : Design) (n : Blif) (p : Printed c t f d n) where
  accepted : Accepted d.graph
  accepted = design-accepted c d p.design (printed-choice c d p.design t f p.outcome).choice.ordered

  lib : Sound d.listed d.cells
  lib = design-sound c d p.design

  no_earlier : NoEarlier d.listed d.cells d.graph f n
  no_earlier at h l m cover arrival times k = (demand_earliest c).earliest t f d n p at h l m
      (to_cover d.listed d.cells lib d.graph accepted d.graph.outputs cover) arrival
      (to_arrivals d.listed d.cells lib d.graph accepted d.graph.outputs cover arrival times)
      (to_needed d.listed d.cells lib d.graph accepted d.graph.outputs cover k)

  outputs_no_earlier : OutputsNoEarlier d.listed d.cells d.graph f n
  outputs_no_earlier at h k b =
      let o = (demand_earliest c).outputs t f d n p at h k b in (
        o.0,
        (λ cover arrival times. o.1 (to_cover d.listed d.cells lib d.graph accepted d.graph.outputs cover) arrival
            (to_arrivals d.listed d.cells lib d.graph accepted d.graph.outputs cover arrival times)),
      )

  latest-output : LatestOutput d.listed d.cells d.graph f n
  latest-output =
      let e = (figures c t f d n p).arrival in
      record {
        none_later = λ at h o m. subst (λ (x : ℕ). at o ≤ x) (sym (e at h)) (largest-over (map at n.outputs) (map_in at m));
        is_one = λ at h. ⊎_elim (λ q. inl (none n.outputs at q.0, e at h ∙ q.1))
            (λ m. let o = map_out at n.outputs m in inr (o.0, o.1, e at h ∙ o.2)) (largest-one (map at n.outputs));
      }
    where
      none : (os : List (List ℕ)) (at : List ℕ → ℕ) → map at os ≡ [] → os ≡ []
      none [] at q = refl
      none (o ∷ os) at q = absurd (cons≢nil q)

-- ---- what can be mapped

module _ (c : Call) (d : Design) (p : Mappable c d) where
  ok : Accepted d.graph
  ok = design-accepted c d p.design p.ordered

  safe : Sound d.listed d.cells
  safe = design-sound c d p.design

  by_numbers_lem : {outs : List ℕ} → Cover d.listed d.cells d.graph outs → CoverBy d.cells d.graph outs
  by_numbers_lem {outs} k = to_cover d.listed d.cells safe d.graph ok outs k

  by_data_lem : {outs : List ℕ} → CoverBy d.cells d.graph outs → Cover d.listed d.cells d.graph outs
  by_data_lem {outs} k = of_cover d.listed d.cells safe d.graph ok outs k

  covers-timed : CoversTimed d.ranged c.bytes (map_texts c) d.listed d.cells d.graph
  covers-timed outs k =
      let m = (demand_earliest c).timed d p outs (to_cover d.listed d.cells safe d.graph ok outs k) in
      let to = to_arrivals d.listed d.cells safe d.graph ok outs k in
      record {
        has = (m.has.0, from-arrivals d.listed d.cells safe d.graph ok outs k m.has.0 m.has.1);
        alone = λ at bt a b l n. m.alone at bt (to at a) (to bt b) l (to_needed d.listed d.cells safe d.graph ok outs k n);
        starts = λ at a l n o. m.starts at (to at a) l (to_needed d.listed d.cells safe d.graph ok outs k n) o;
      }

  pub decided_by_data : Decided d.ranged c.bytes (map_texts c) d.listed d.cells d.graph
  decided_by_data =
      let m = (demand_earliest c).decided d p in
      record {
        seventeen = λ k. (
          (λ e. let u = (m.seventeen k).0 e in record { is_output = u.is_output; has_none = λ x. u.has_none (by_numbers_lem x); before = λ j h. by_data_lem (u.before j h) }),
          (λ u. (m.seventeen k).1 (record { is_output = u.is_output; has_none = λ x. u.has_none (by_data_lem x); before = λ j h. by_numbers_lem (u.before j h) })),
        );
        prints = λ k h. m.prints (λ l i. by_numbers_lem (k l i)) h;
        eighteen = λ k h. m.eighteen (λ l i. by_numbers_lem (k l i)) h;
      }

  chosen_by_data : Chosen d.ranged c.bytes (map_texts c) d.listed d.cells d.graph
  chosen_by_data = record {
    covers = λ k.
        let m = ((demand_earliest c).choice d p).covers (λ l i. by_numbers_lem (k l i)) in
        let outs = d.graph.outputs in
        let sources = data_source d.listed d.cells safe d.graph ok outs m.cover in
        let linked = linked_data d.listed d.cells safe d.graph ok outs m.cover in
        record {
          cover = of_cover d.listed d.cells safe d.graph ok outs m.cover;
          sources = λ l n. subst (λ (s : Numbers). IsSource d.graph l s (sources l)) (m.sources l) (source_is d.listed d.cells safe d.graph ok l (m.cover.source l)
              (m.cover.allowed l (needed_to d.listed d.cells safe d.graph ok outs m.cover.source sources linked n)));
          arrivals = arrivals-from d.listed d.cells safe d.graph ok outs m.cover.source sources linked (λ l. (chosen d.cells d.graph l).arrival) m.arrivals.timed;
        };
    preferred = preferred_by_data d.listed d.cells safe d.graph ok;
  }

-- "for each net of the printed netlist, every cover of the outputs that has this net gives it an arrival no earlier"
pub earliest_by_data : (c : Call) → Earliest c
earliest_by_data c = record {
  pairs = (demand_earliest c).pairs;
  earliest = no_earlier c;
  outputs = outputs_no_earlier c;
  latest = latest-output c;
  timed = covers-timed c;
  decided = decided_by_data c;
  choice = chosen_by_data c;
}
