-- Covers by data and covers by numbers: each is one of the other, with the same needed phases and the same arrivals.
--     to_cover, of_cover          a cover of the one kind from one of the other
--     timed-by-data               every cover has arrivals, and on the phases that it needs no others
use Rattle.base.specs.{ℕ, ◌≡◌, List, Memᴰ}
use Rattle.model.specs.{cuts_of, feeds, arrival_by}
use Rattle.model.specs.Graph.{Graph}
use Rattle.model.specs.Cover.{Cover as CoverBy, CoverArrivals as ArrivalsBy, Needed as NeededBy, Feeds as FeedsBy}
use Rattle.model.specs.{output, fed, directly, through}
use Rattle.model.specs.declared.Cell.{Cell}
use Rattle.model.specs.declared.Source.{Source as Numbered}
use Rattle.promises.specs.Covers.{Source, FedBy, Needed, Feeds, Cover, CoverArrivals, Arrives}
use Rattle.promises.specs.Covers.{output as needs, fed as needs_fed, directly as feeds_it, through as feeds_on}
use Rattle.theory_graph.specs.AcceptedGraph.{Accepted}
use Rattle.theory_relations.proofs.Places.{at_in, in_at}
use Rattle.theory_relations.proofs.CellRelations.{Sound}
use Rattle.theory_relations.proofs.Sources.{Linked, to_data, to_numbers, data_linked, numbers_linked, fed_to, fed-from, arrives_iff}

module _ (listed cells : List Cell) (lib : Sound listed cells) (g : Graph) (ok : Accepted g) (outs : List ℕ) where
  abbrev Links : (ℕ → Numbered) → (ℕ → Source) → Type 0
  Links sn sd = (l : ℕ) → NeededBy cells g outs sn l → Needed cells outs sd l → Linked listed cells lib g ok l (sn l) (sd l)

  -- ---- sources by numbers and by data that are linked where both are needed

  module _ (sn : ℕ → Numbered) (sd : ℕ → Source) (link : Links sn sd) where
    feeds_to : {l x d : ℕ} → NeededBy cells g outs sn l → Needed cells outs sd l → FedBy cells l (sd l) x d → Memᴰ x (feeds cells (cuts_of g) l (sn l))
    feeds_to {l} n m f = at_in (fed_to listed cells lib g ok l (link l n m).same f).1

    feeds-from : {l x : ℕ} → NeededBy cells g outs sn l → Needed cells outs sd l → Memᴰ x (feeds cells (cuts_of g) l (sn l)) → (d : ℕ) × FedBy cells l (sd l) x d
    feeds-from {l} {x} n m i =
        let a = in_at i in
        let k = link l n m in
        (_, fed-from listed cells lib g ok l k.same k.by_data a.0 x a.1)

    pub needed_to : {l : ℕ} → Needed cells outs sd l → NeededBy cells g outs sn l
    needed_to (needs m) = output m
    needed_to (needs_fed n f) = let k = needed_to n in fed k (feeds_to k n f)

    pub needed-from : {l : ℕ} → NeededBy cells g outs sn l → Needed cells outs sd l
    needed-from (output m) = needs m
    needed-from (fed n i) = let k = needed-from n in needs_fed k (feeds-from n k i).1

    pub cycle_to : {x l : ℕ} → NeededBy cells g outs sn l → Needed cells outs sd l → Feeds cells sd x l → FeedsBy cells g sn x l
    cycle_to n m (feeds_it f) = directly (feeds_to n m f)
    cycle_to n m (feeds_on c f) = let i = feeds_to n m f in through (cycle_to (fed n i) (needs_fed m f) c) i

    pub cycle-from : {x l : ℕ} → NeededBy cells g outs sn l → Needed cells outs sd l → FeedsBy cells g sn x l → Feeds cells sd x l
    cycle-from n m (directly i) = feeds_it (feeds-from n m i).1
    cycle-from n m (through c i) = let f = feeds-from n m i in feeds_on (cycle-from (fed n i) (needs_fed m f.1) c) f.1

    pub arrivals_to : (at : ℕ → ℕ) → ((l : ℕ) → Needed cells outs sd l → Arrives cells g at l (sd l) (at l))
        → (l : ℕ) → NeededBy cells g outs sn l → at l ≡ arrival_by cells g at l (sn l)
    arrivals_to at h l n = let m = needed-from n in (arrives_iff listed cells lib g ok at l (link l n m) (at l)).0 (h l m)

    pub arrivals-from : (at : ℕ → ℕ) → ((l : ℕ) → NeededBy cells g outs sn l → at l ≡ arrival_by cells g at l (sn l))
        → (l : ℕ) → Needed cells outs sd l → Arrives cells g at l (sd l) (at l)
    arrivals-from at h l m = let n = needed_to m in (arrives_iff listed cells lib g ok at l (link l n m) (at l)).1 (h l n)

  -- ---- a cover by data of one by numbers

  module _ (c : CoverBy cells g outs) where
    abbrev pub data_source : ℕ → Source
    data_source l = to_data listed cells lib g ok l (c.source l)

    pub linked_data : Links c.source data_source
    linked_data l n m = data_linked listed cells lib g ok l (c.source l) (c.allowed l n)

    abbrev pub of_cover : Cover listed cells g outs
    of_cover = record {
      source = data_source;
      allowed = λ l m. (linked_data l (needed_to c.source data_source linked_data m) m).by_data;
      no_cycle = λ l m f. let n = needed_to c.source data_source linked_data m in c.no_cycle l n (cycle_to c.source data_source linked_data n m f);
    }

  -- ---- and the other way round

  module _ (c : Cover listed cells g outs) where
    abbrev pub numbered_source : ℕ → Numbered
    numbered_source l = to_numbers listed cells lib g ok l (c.source l)

    pub linked_numbers : Links numbered_source c.source
    linked_numbers l n m = numbers_linked listed cells lib g ok l (c.source l) (c.allowed l m)

    abbrev pub to_cover : CoverBy cells g outs
    to_cover = record {
      source = numbered_source;
      allowed = λ l n. (linked_numbers l n (needed-from numbered_source c.source linked_numbers n)).by_numbers;
      no_cycle = λ l n f. let m = needed-from numbered_source c.source linked_numbers n in c.no_cycle l m (cycle-from numbered_source c.source linked_numbers n m f);
    }

    pub to_needed : {l : ℕ} → Needed cells outs c.source l → NeededBy cells g outs numbered_source l
    to_needed = needed_to numbered_source c.source linked_numbers

    pub to_arrivals : (at : ℕ → ℕ) → CoverArrivals listed cells g outs c at → ArrivalsBy cells g outs to_cover at
    to_arrivals at h = record { timed = arrivals_to numbered_source c.source linked_numbers at h }

    pub from-arrivals : (at : ℕ → ℕ) → ArrivalsBy cells g outs to_cover at → CoverArrivals listed cells g outs c at
    from-arrivals at h = arrivals-from numbered_source c.source linked_numbers at h.timed
