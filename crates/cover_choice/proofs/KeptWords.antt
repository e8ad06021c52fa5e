-- What stays where a pass writes only some columns between the counts and the cut lists:
--     kept_same, kept_on, kept_put    nothing written, two passes, one store
--     capacity-kept .. phase-kept         a word or a record elsewhere
--     graph-kept, order-kept, cuts-kept, phases-kept      what the words hold
use Rattle.base.specs.{ℕ, ◌+◌, ◌*◌, ◌/◌, ◌≤◌, ◌<◌, arith, ◌≡◌, refl, sym, ap, subst, ◌∙◌, cond, List, [], ◌∷◌, ◌⊎◌, inl, inr, length, get_or}
use Rattle.model.specs.{cut_limit, var_of, negated, topological_order, over_limit, Phases, phase_of}
use Rattle.model.specs.Graph.{Graph}
use Rattle.model.specs.declared.Cell.{Cell}
use Rattle.model.specs.declared.Phase.{Phase}
use Rattle.theory_graph.specs.AcceptedGraph.{Accepted}
use Rattle.theory_graph.proofs.{get_or_in, order_small}
use Rattle.base_words.specs.{put_at, HasCapacity, HasCapacityFor, kind_at, left_at, right_at, slot_at, position_at, count_at, input_arrival_at, output_at, needed_addr}
use Rattle.base_words.specs.{input_arrival_addr, positive_addr, negative_addr, counts_to, lists_from, leaves_of, leaves_at, function_of, node_of, node_at}
use Rattle.base_words.specs.{cuts_at, source_of, phase_in, phases_at, phase_at, put_needed, RepresentsGraph, RepresentsOrder, RepresentsCuts, RepresentsPhases}
use Rattle.base_words.proofs.{length-put, get_put-below, get_put-above, cut-same, cuts-same, function-same}
use Rattle.cover_choice.proofs.InverterCount.{few-ordered, few-cuts, count-few}
use Rattle.cover_choice.specs.{OutputsIn, SlotsIn, CutsIn, InputArrivalIn, MatchesIn}

-- all words before a and from b on are as before, and so is their number
pub record Kept (a b : ℕ) (v w : List ℕ) : Type 0 where
  pub size : length w ≡ length v
  pub before : (i : ℕ) → i < a → get_or w i 0 ≡ get_or v i 0
  pub behind : (i : ℕ) → b ≤ i → get_or w i 0 ≡ get_or v i 0

pub kept_same : (a b : ℕ) (w : List ℕ) → Kept a b w w
kept_same a b w = record { size = refl; before = λ i h. refl; behind = λ i h. refl }

pub kept_on : (a b : ℕ) (u v w : List ℕ) → Kept a b u v → Kept a b v w → Kept a b u w
kept_on a b u v w p q =
    record {
      size = q.size ∙ p.size;
      before = λ i h. q.before i h ∙ p.before i h;
      behind = λ i h. q.behind i h ∙ p.behind i h;
    }

pub kept_put : (a b : ℕ) (w : List ℕ) (at : ℕ) (vs : List ℕ) → at + length vs ≤ length w → a ≤ at → at + length vs ≤ b → Kept a b w (put_at w at vs)
kept_put a b w at vs fits l h =
    record {
      size = length-put w at vs fits;
      before = λ i k. get_put-below w at vs fits i (omega arith);
      behind = λ i k. get_put-above w at vs fits i (omega arith);
    }

-- the columns of the needed phases, and of both phases
abbrev pub NeedsKept : ℕ → List ℕ → List ℕ → Type 0
NeedsKept m v w = Kept (needed_addr m 0) (needed_addr m (m + 1)) v w

abbrev pub PhasesKept : ℕ → List ℕ → List ℕ → Type 0
PhasesKept m v w = Kept (positive_addr m 0) (lists_from m) v w

pub need-kept : (w : List ℕ) (m l : ℕ) → HasCapacity w m → l / 2 ≤ m → NeedsKept m w (put_needed w m l)
unfolding put_needed var_of
need-kept w m l r h = kept_put (needed_addr m 0) (needed_addr m (m + 1)) w (needed_addr m (l / 2)) (_ ∷ []) (omega (arith, r.capacity)) (omega arith) (omega arith)

module _ (m a b : ℕ) (v w : List ℕ) (k : Kept a b v w) (from : counts_to m ≤ a) (to : b ≤ lists_from m) where
  pub capacity-kept : HasCapacity v m → HasCapacity w m
  capacity-kept r = record { small = r.small; capacity = omega (arith, r.capacity, k.size) }

  pub capacity_for_kept : (o : ℕ) → HasCapacityFor v m o → HasCapacityFor w m o
  capacity_for_kept o r = record { small = r.small; capacity = omega (arith, r.capacity, k.size) }

  pub slot_kept : (i : ℕ) → i ≤ m → slot_at w m i ≡ slot_at v m i
  slot_kept i h = k.before _ (omega arith)

  pub place_kept : (i : ℕ) → i ≤ m → position_at w m i ≡ position_at v m i
  place_kept i h = k.before _ (omega arith)

  pub count_kept : (u : ℕ) → u ≤ m → count_at w m u ≡ count_at v m u
  count_kept u h = k.before _ (omega arith)

  pub output-kept : (i : ℕ) → output_at w m i ≡ output_at v m i
  output-kept i = k.behind _ (omega arith)

  pub function-kept : (u n : ℕ) → u ≤ m → n < cut_limit → function_of w m u n ≡ function_of v m u n
  function-kept u n h l = function-same w v m (λ i a b. k.behind i (omega arith)) u n h l

  pub node_kept : (u : ℕ) → u ≤ m → node_at w m u ≡ node_at v m u
  unfolding node_at
  node_kept u h =
      let x : kind_at w m u ≡ kind_at v m u = k.before _ (omega arith) in
      let y : left_at w m u ≡ left_at v m u = k.before _ (omega arith) in
      let z : right_at w m u ≡ right_at v m u = k.before _ (omega arith) in
      λ i. node_of (x i) (y i) (z i)

  pub leaves_kept : (u n : ℕ) → u ≤ m → n < cut_limit → leaves_at w m u n ≡ leaves_at v m u n
  leaves_kept u n h l = ap leaves_of (cut-same w v m (λ i a b. k.behind i (omega arith)) u h n l)

  pub list_kept : (u : ℕ) → u ≤ m → count_at v m u ≤ cut_limit → cuts_at w m u ≡ cuts_at v m u
  list_kept u h few = cuts-same w v m (λ i a b. k.behind i (omega arith)) u h (count_kept u h) few

  pub cuts_in_kept : CutsIn v m → CutsIn w m
  cuts_in_kept r =
      record {
        capacity = capacity-kept r.capacity;
        few = λ u h. omega (arith, count_kept u h, r.few u h);
        within =
            λ u n j h l i.
            let c : n < count_at v m u = omega (arith, count_kept u h) in
            let same : leaves_at w m u n ≡ leaves_at v m u n = leaves_kept u n h (omega (arith, r.few u h)) in
            subst (λ (x : List ℕ). get_or x j 0 ≤ m) (sym same) (r.within u n j h c (subst (λ (x : List ℕ). j < length x) same i));
      }

  pub slots_in_kept : (n : ℕ) → SlotsIn v m n → SlotsIn w m n
  slots_in_kept n r = record { capacity = capacity-kept r.capacity; few = r.few; within = λ i h. omega (arith, slot_kept i (omega (arith, r.few)), r.within i h) }

  pub outputs_in_kept : (o : ℕ) → OutputsIn v m o → OutputsIn w m o
  outputs_in_kept o r = record { capacity = capacity_for_kept o r.capacity; within = λ i h. subst (λ (x : ℕ). x / 2 ≤ m) (sym (output-kept i)) (r.within i h) }

  -- the phases, where they are not written
  module _ (low : b ≤ positive_addr m 0) where
    in_kept : (at : ℕ) → positive_addr m 0 ≤ at → phase_in w at ≡ phase_in v at
    unfolding phase_in
    in_kept at h =
        let e₀ : get_or w at 0 ≡ get_or v at 0 = k.behind at (omega arith) in
        let e₁ : get_or w (at + 1) 0 ≡ get_or v (at + 1) 0 = k.behind (at + 1) (omega arith) in
        let e₂ : get_or w (at + 2) 0 ≡ get_or v (at + 2) 0 = k.behind (at + 2) (omega arith) in
        let e₃ : get_or w (at + 3) 0 ≡ get_or v (at + 3) 0 = k.behind (at + 3) (omega arith) in
        λ i. record { source = source_of (e₀ i) (e₁ i); arrival = e₂ i + e₃ i * 65536 }

    pub phases-same : (u : ℕ) → phases_at w m u ≡ phases_at v m u
    phases-same u =
        let p = in_kept (positive_addr m u) (omega arith) in
        let n = in_kept (negative_addr m u) (omega arith) in
        λ i. record { positive = p i; negative = n i }

    pub phase-kept : (l : ℕ) → phase_at w m l ≡ phase_at v m l
    unfolding phase_of
    phase-kept l = ap (λ (p : Phases). cond (negated l) p.negative p.positive) (phases-same (var_of l))

    pub matches_in_kept : (cells : List Cell) → MatchesIn cells v m → MatchesIn cells w m
    matches_in_kept cells r =
        record {
          in_bounds = r.in_bounds;
          cuts = cuts_in_kept r.cuts;
          matches =
              λ l h x e.
              let o = r.matches l h x (ap (λ (p : Phase). p.source) (sym (phase-kept l)) ∙ e) in
              record {
                cut = omega (arith, o.cut, count_kept (l / 2) h);
                cell = o.cell;
                order = o.order;
                places = rw (leaves_kept (l / 2) x.cut h (omega (arith, o.cut, r.cuts.few (l / 2) h))) o.places;
              };
        }

-- the arrivals of the inputs, where the columns behind theirs are written, or the one before it
input-arrival-kept : (m a b : ℕ) (v w : List ℕ) → Kept a b v w → (input_arrival_addr m (m + 1) ≤ a) ⊎ (b ≤ input_arrival_addr m 0) → (u : ℕ) → u ≤ m → input_arrival_at w m u ≡ input_arrival_at v m u
input-arrival-kept m a b v w k (inl h) u l = k.before (input_arrival_addr m u) (omega arith)
input-arrival-kept m a b v w k (inr h) u l = k.behind (input_arrival_addr m u) (omega arith)

pub input-arrival_in_kept : (m a b : ℕ) (v w : List ℕ) → Kept a b v w → input_arrival_addr m (m + 1) ≤ a → InputArrivalIn v m → InputArrivalIn w m
input-arrival_in_kept m a b v w k h r = record { within = λ u l. omega (arith, input-arrival-kept m a b v w k (inl h) u l, r.within u l) }

-- what the words hold, of a graph of this size
module _ (g : Graph) (a b : ℕ) (v w : List ℕ) (k : Kept a b v w) (from : counts_to g.size ≤ a) (to : b ≤ lists_from g.size) where
  pub graph-kept : (input_arrival_addr g.size (g.size + 1) ≤ a) ⊎ (b ≤ input_arrival_addr g.size 0) → RepresentsGraph v g → RepresentsGraph w g
  graph-kept apart h =
      record {
        capacity = capacity_for_kept g.size a b v w k from to (length g.outputs) h.capacity;
        nodes = λ u l. node_kept g.size a b v w k from to u l ∙ h.nodes u l;
        outputs = λ i l. output-kept g.size a b v w k from to i ∙ h.outputs i l;
        input_arrival = λ u l. input-arrival-kept g.size a b v w k apart u l ∙ h.input_arrival u l;
      }

  pub order-kept : Accepted g → RepresentsOrder v g → RepresentsOrder w g
  order-kept ok h =
      record {
        slots = λ i l. slot_kept g.size a b v w k from to i (omega (arith, few-ordered g ok)) ∙ h.slots i l;
        places =
            λ i l.
            place_kept g.size a b v w k from to (get_or (topological_order g) i 0) (order_small g ok (get_or (topological_order g) i 0) (get_or_in (topological_order g) i 0 l)) ∙ h.places i l;
        waiting = λ u l n. place_kept g.size a b v w k from to u l ∙ h.waiting u l n;
      }

  pub cuts-kept : Accepted g → over_limit g ≡ [] → RepresentsCuts v g → RepresentsCuts w g
  cuts-kept ok free h =
      record {
        lists = λ u l. list_kept g.size a b v w k from to u l (count-few v g ok free h u l) ∙ h.lists u l;
        functions = λ u p i l. function-kept g.size a b v w k from to u i (order_small g ok u p) (omega (arith, few-cuts g free u)) ∙ h.functions u p i l;
      }

  pub phases-kept : (cells : List Cell) → b ≤ positive_addr g.size 0 → RepresentsPhases v cells g → RepresentsPhases w cells g
  phases-kept cells low h = record { phases = λ l e. phase-kept g.size a b v w k from to low l ∙ h.phases l e }
