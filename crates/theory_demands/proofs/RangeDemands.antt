-- "Every choice of pin delays, each within its range and fixed separately per gate, puts the output within these two, and each end is reached by some
-- choice", of the arrivals that the timing lines say.
use Rattle.base.specs.{ℕ, zero, suc, ◌+◌, ◌≤◌, ◌<◌, le_refl, le_trans, le_of_eq, lt_of_not-le, dec_le, arith, ◌≡◌, refl, sym, ◌∙◌, ap, subst}
use Rattle.base.specs.{Bool, true, false, cond, List, [], ◌∷◌, ◌++◌, map, Memᴰ, Memᴰ-head, Memᴰ-tail, Memᴰ-cast}
use Rattle.base.specs.{head-eq_of_cons-eq, tail-eq_of_cons-eq, T, leb, length, take, get_or, and_yes, leb_yes}
use Rattle.model.specs.{from, below, same, join_delays, pair_delays, pair_of, var_of, cell_of, absent, chosen, output, Gate, gates_by, is_input_source}
use Rattle.model.specs.{net_name, out_name, no_lower, retimed, min_arrival_of, GateLine, TimingLine, named, drives, Delays, NetTimes, Distinct}
use Rattle.model.specs.{WithinRanges}
use Rattle.model.specs.Graph.{Graph}
use Rattle.model.specs.declared.Cell.{Cell}
use Rattle.theory_graph.proofs.{map_in, map_out, map-map, map_same, is_true, same-eq, same_refl, length-map, by_bool}
use Rattle.theory_graph.specs.AcceptedGraph.{Accepted}
use Rattle.theory_cover.proofs.{latest-below}
use Rattle.theory_text.proofs.{line_of, output_names, blif_of, timings_from}
use Rattle.theory_demands.proofs.RefusalRanks.{Fitting}
use Rattle.theory_demands.proofs.PhaseNets.{inner_cell, fed_pin, cell_gate, inner_gate, root_gate, gates_single, gates_double}
use Rattle.theory_demands.proofs.ChosenGates.{source_of, number_at, fed_at, NeedsOf, Gates, chosen_gates, by_feeding, gate_in_lem, gate_out}
use Rattle.theory_demands.proofs.ChosenGates.{of_gates_lem, own-source, own_value}
use Rattle.theory_demands.proofs.Wires.{at-outputs}
use Rattle.theory_demands.proofs.PairsFormed.{gates-once}
use Rattle.theory_demands.proofs.GateArrivals.{padded, phase_delays, delays_single, delays_double, phase-delays, Follows, time_on}
use Rattle.theory_demands.proofs.GateArrivals.{times-on, net-on, chosen-follows, retimed-follows}

-- no lowest delay is over its delay, place by place
pub no_lower_lem : (ls ds : List ℕ) → T (no_lower ls ds) → (j : ℕ) → get_or ls j 0 ≤ get_or ds j 0
unfolding no_lower
no_lower_lem [] ds h j = omega arith
no_lower_lem (l ∷ ls) (d ∷ ds) h zero = leb_yes (and_yes (leb l d) (no_lower ls ds) h).0
no_lower_lem (l ∷ ls) (d ∷ ds) h (suc j) = no_lower_lem ls ds (and_yes (leb l d) (no_lower ls ds) h).1 j
no_lower_lem (l ∷ ls) [] h j = elim h [ ]

-- ---- a list of delays, one for each of some nets

-- the delays of a net
entry : List (List ℕ) → List (List ℕ) → List ℕ → List ℕ
entry [] ds l = []
entry (k ∷ ks) [] l = []
entry (k ∷ ks) (d ∷ ds) l = cond (same k l) d (entry ks ds l)

entries : (ks : List (List ℕ)) (ds : List (List ℕ)) → Distinct ks → length ds ≡ length ks → map (entry ks ds) ks ≡ ds
unfolding entry
entries [] [] once e = refl
entries [] (d ∷ ds) once e = absurd (let q : suc (length ds) ≡ 0 = e in omega arith)
entries (k ∷ ks) [] once e = absurd (let q : 0 ≡ suc (length ks) = e in omega arith)
entries (k ∷ ks) (d ∷ ds) once e =
    cc (
      is_true (same k k) (same_refl k),
      map_same (λ (l : List ℕ). cond (same k l) d (entry ks ds l)) (entry ks ds) ks
          (λ l m. ap (λ (b : Bool). cond b d (entry ks ds l)) (other (same k l) (same-eq k l) (λ q. once.0 (Memᴰ-cast q m)))),
      entries ks ds
          once.1 (let q : suc (length ds) ≡ suc (length ks) = e in omega arith),
    )
  where
    other : {l : List ℕ} (b : Bool) → (T b → k ≡ l) → ¬ (k ≡ l) → b ≡ false
    other true y n = absurd (n (y tt))
    other false y n = refl

-- ---- delays that are no larger, place by place and equally many

data NoLarger : List ℕ → List ℕ → Type 0 where
  none : NoLarger [] []
  more : {a b : ℕ} {xs ys : List ℕ} → a ≤ b → NoLarger xs ys → NoLarger (a ∷ xs) (b ∷ ys)

larger-at : {xs ys : List ℕ} → NoLarger xs ys → (j : ℕ) → get_or xs j 0 ≤ get_or ys j 0
larger-at none j = le_refl 0
larger-at (more h r) zero = h
larger-at (more h r) (suc j) = larger-at r j

larger-padded : (ds es : List ℕ) → ((j : ℕ) → get_or ds j 0 ≤ get_or es j 0) → NoLarger (padded ds) (padded es)
unfolding padded
larger-padded ds es h = more (h 0) (more (h 1) (more (h 2) (more (h 3) none)))

larger-take : (n : ℕ) {xs ys : List ℕ} → NoLarger xs ys → NoLarger (take n xs) (take n ys)
larger-take zero r = none
larger-take (suc n) none = none
larger-take (suc n) (more h r) = more h (larger-take n r)

larger_append : {xs ys us vs : List ℕ} → NoLarger xs ys → NoLarger us vs → NoLarger (xs ++ us) (ys ++ vs)
larger_append none r = r
larger_append (more h q) r = more h (larger_append q r)

larger-add : (d e : ℕ) → d ≤ e → {xs ys : List ℕ} → NoLarger xs ys → NoLarger (map (λ (x : ℕ). d + x) xs) (map (λ (x : ℕ). e + x) ys)
larger-add d e h none = none
larger-add d e h (more {a = a} {b = b} q r) = more {a = d + a} {b = e + b} (omega arith) (larger-add d e h r)

larger-join : (p : ℕ) {ds ds' es es' : List ℕ} → NoLarger ds ds' → NoLarger es es' → NoLarger (join_delays p ds es) (join_delays p ds' es')
unfolding join_delays
larger-join p none r = none
larger-join zero (more {a = a} {b = b} h q) r = larger_append (larger-add a b h r) q
larger-join (suc p) (more h q) r = more h (larger-join p q r)

larger-pair : (p n : ℕ) {ds ds' es es' : List ℕ} → NoLarger ds ds' → NoLarger es es' → NoLarger (pair_delays p n ds es) (pair_delays p n ds' es')
unfolding pair_delays
larger-pair p n q r = larger-take 4 (larger-join p q (larger-take n r))

-- ---- what the timing lines say

module _ (low high : ℕ → ℕ) where
  saying_names : (k : ℕ) (ls : List ℕ) → map (λ (x : TimingLine). x.output) (timings_from low high k ls) ≡ map out_name (from k (length ls))
  unfolding timings_from from
  saying_names k [] = refl
  saying_names k (l ∷ ls) = ap (λ (ns : List (List ℕ)). out_name k ∷ ns) (saying_names (suc k) ls)

  saying_mins : (k : ℕ) (ls : List ℕ) → map (λ (x : TimingLine). x.low) (timings_from low high k ls) ≡ map low ls
  unfolding timings_from
  saying_mins k [] = refl
  saying_mins k (l ∷ ls) = ap (λ (ns : List ℕ). low l ∷ ns) (saying_mins (suc k) ls)

  saying_highs : (k : ℕ) (ls : List ℕ) → map (λ (x : TimingLine). x.high) (timings_from low high k ls) ≡ map high ls
  unfolding timings_from
  saying_highs k [] = refl
  saying_highs k (l ∷ ls) = ap (λ (ns : List ℕ). high l ∷ ns) (saying_highs (suc k) ls)

  -- an output between the two arrivals of its phase is between those of its line
  saying_within : (at : List ℕ → ℕ) (k : ℕ) (ls : List ℕ) → map at (map out_name (from k (length ls))) ≡ map (λ (l : ℕ). at (net_name l)) ls
      → ((l : ℕ) → Memᴰ l ls → (low l ≤ at (net_name l)) × (at (net_name l) ≤ high l))
      → (x : TimingLine) → Memᴰ x (timings_from low high k ls) → (x.low ≤ at x.output) × (at x.output ≤ x.high)
  unfolding timings_from from
  saying_within at k (l ∷ ls) e h x (Memᴰ-head q) = rw q (let s : at (out_name k) ≡ at (net_name l) = head-eq_of_cons-eq e in let b = h l
      (Memᴰ-head refl) in (le_trans b.0 (le_of_eq (sym s)), le_trans (le_of_eq s) b.1))
  saying_within at k (l ∷ ls) e h x (Memᴰ-tail m) = saying_within at (suc k) ls (tail-eq_of_cons-eq e) (λ y i. h y (Memᴰ-tail i)) x m
  saying_within at k [] e h x x5 = elim x5 [ ]

module _ (listed cells : List Cell) (fit : Fitting listed cells) (low-high : (c : Cell) → Memᴰ c listed → T (no_lower c.mins c.delays))
    (four-mins : (c : Cell) → Memᴰ c listed → length c.mins ≡ 4) (g : Graph) (ok : Accepted g) (present-outputs : (l : ℕ) → Memᴰ l g.outputs → absent (chosen cells g l).source ≡ false) where
  -- a phase's delays are no larger where those of its lines are not
  phase-below : (ds es : Delays) → ((t : GateLine) → Memᴰ t (map line_of (chosen_gates listed cells g)) → (j : ℕ) → get_or (ds t) j 0 ≤ get_or (es t) j 0)
      → (l : ℕ) → Gates listed cells fit g ok present-outputs l → (j : ℕ) → get_or (phase_delays listed cells g ds l) j 0 ≤ get_or (phase_delays listed cells g es l) j 0
  phase-below ds es le l q j = elim (dec_le (length listed) k) [
    | no lt ↦
        let b : k < length listed = lt_of_not-le lt in
        by_eq (delays_single listed cells fit g ok present-outputs ds l b) (delays_single listed cells fit g ok present-outputs es l b)
        (line (cell_gate listed k ins l) (at (cell_gate listed k ins l ∷ []) (gates_single listed k ins l b) (cell_gate listed k ins l) (Memᴰ-head refl)) j)
    | yes h ↦
        by_eq (delays_double listed cells fit g ok present-outputs ds l h) (delays_double listed cells fit g ok present-outputs es l h)
        (larger-at (larger-pair (fed_pin listed k ins l) (inner_cell listed k ins l).pins
        (larger-padded (ds (line_of (root_gate listed k ins l))) (es (line_of (root_gate listed k ins l)))
        (line (root_gate listed k ins l) (at (inner_gate listed k ins l ∷ root_gate listed k ins l ∷ []) (gates_double listed k ins l h) (root_gate listed k ins l) (Memᴰ-tail (Memᴰ-head refl)))))
        (larger-padded (ds (line_of (inner_gate listed k ins l))) (es (line_of (inner_gate listed k ins l)))
        (line (inner_gate listed k ins l) (at (inner_gate listed k ins l ∷ root_gate listed k ins l ∷ []) (gates_double listed k ins l h) (inner_gate listed k ins l) (Memᴰ-head refl))))) j)
  ]
    where
      k : ℕ
      k = number_at cells g l

      ins : List ℕ
      ins = fed_at cells g l

      at : (ts : List Gate) → gates_by listed k ins l ≡ ts → (t : Gate) → Memᴰ t ts → Memᴰ t (chosen_gates listed cells g)
      at ts e t m = gate_in_lem listed cells fit g ok present-outputs l q t (subst (λ (us : List Gate). Memᴰ t us) (sym e) m)

      line : (t : Gate) → Memᴰ t (chosen_gates listed cells g) → (i : ℕ) → get_or (ds (line_of t)) i 0 ≤ get_or (es (line_of t)) i 0
      line t m i = le (line_of t) (map_in line_of m) i

      by_eq : {xs ys us vs : List ℕ} → xs ≡ us → ys ≡ vs → get_or us j 0 ≤ get_or vs j 0 → get_or xs j 0 ≤ get_or ys j 0
      by_eq e f h = le_trans (le_of_eq (ap (λ (zs : List ℕ). get_or zs j 0) e)) (le_trans h (le_of_eq (ap (λ (zs : List ℕ). get_or zs j 0) (sym f))))

  -- arrivals under smaller delays are no later
  below_by : (ds es : Delays) (a b : ℕ → ℕ) → Follows listed cells g ds a → Follows listed cells g es b
      → ((t : GateLine) → Memᴰ t (map line_of (chosen_gates listed cells g)) → (j : ℕ) → get_or (ds t) j 0 ≤ get_or (es t) j 0)
      → (l : ℕ) → NeedsOf cells g l → a l ≤ b l
  below_by ds es a b f h le = by_feeding listed cells fit g ok present-outputs (λ l. a l ≤ b l) (λ l n ih. by_bool
      (is_input_source (source_of cells g l)) (λ e. let o = own-source listed cells fit g ok present-outputs l n e in
      let q = (own_value listed cells fit g ok present-outputs (λ u. false) l o).0 in le_of_eq
      (cc (f.at_input (var_of l) o.is_input, h.at_input (var_of l) o.is_input))) (λ q. le_trans (le_of_eq (f.at_gate l n q)) (le_trans
      (latest-below a b (fed_at cells g l) (phase_delays listed cells g ds l) (phase_delays listed cells g es l) ih
      (phase-below ds es le l (record { needs = n; not_input_source = q }))) (le_of_eq (sym (h.at_gate l n q))))))

  abbrev min_delays : Delays
  min_delays t = (named listed t.cell).mins

  abbrev high_delays : Delays
  high_delays t = (named listed t.cell).delays

  abbrev high : ℕ → ℕ
  high l = (chosen cells g l).arrival

  low-follows : Follows listed cells g min_delays (min_arrival_of cells g)
  unfolding min_arrival_of pair_of
  low-follows = retimed-follows listed cells fit g ok present-outputs (λ x. (cell_of cells (source_of cells g x)).mins) min_delays
      (λ l q. sym (phase-delays listed cells fit g ok present-outputs (λ (c : Cell). c.mins) four-mins (λ root inner pin. refl) l q))

  high-follows : Follows listed cells g high_delays high
  high-follows = chosen-follows listed cells fit g ok present-outputs

  -- any choice, by phase
  abbrev times_by : Delays → ℕ → ℕ
  times_by delays = retimed cells g (source_of cells g) (phase_delays listed cells g delays)

  any-follows : (delays : Delays) → Follows listed cells g delays (times_by delays)
  any-follows delays = retimed-follows listed cells fit g ok present-outputs (phase_delays listed cells g delays) delays (λ l q. refl)

  -- the ends are choices
  low_range : (t : GateLine) → Memᴰ t (map line_of (chosen_gates listed cells g)) → (j : ℕ) → get_or (min_delays t) j 0 ≤ get_or (high_delays t) j 0
  low_range t m =
      let o = map_out line_of (chosen_gates listed cells g) m in
      let r = gate_out listed cells fit g ok present-outputs o.0 o.1 in
      let b = of_gates_lem listed cells fit g ok present-outputs r.at r.gates o.0 r.is_gate in
      subst (λ (x : GateLine). (j : ℕ) → get_or (named listed x.cell).mins j 0 ≤ get_or (named listed x.cell).delays j 0) (sym o.2)
      (subst (λ (c : Cell). (j : ℕ) → get_or c.mins j 0 ≤ get_or c.delays j 0) (sym b.bound.is_cell)
      (no_lower_lem o.0.cell.mins o.0.cell.delays (low-high o.0.cell b.is_listed)))

  -- any delays, one list for each gate line, are a choice: each line is known by the net that it drives
  separately : (ds : List (List ℕ)) → length ds ≡ length (map line_of (chosen_gates listed cells g)) → (delays : Delays) × (map delays (map line_of (chosen_gates listed cells g)) ≡ ds)
  separately ds e =
      let nets = map drives (map line_of (chosen_gates listed cells g)) in (
        (λ t. entry nets ds (drives t)),
        sym (map-map (entry nets ds) drives (map line_of (chosen_gates listed cells g)))
            ∙ entries nets ds (gates-once listed cells fit g ok present-outputs) (e ∙ sym (length-map drives (map line_of (chosen_gates listed cells g)))),
      )

  -- the arrivals of all outputs are those of their phases
  all-outputs : (delays : Delays) (a : ℕ → ℕ) → Follows listed cells g delays a → (at : List ℕ → ℕ) → NetTimes listed delays (blif_of g (chosen_gates listed cells g)) (map g.input_arrival g.inputs) at
      → map at (output_names g) ≡ map a g.outputs
  unfolding blif_of
  all-outputs delays a f at h = cc (
    at-outputs at g.outputs h.at_wires,
    map_same (λ (l : ℕ). at (net_name l)) a g.outputs
        (λ l m. net-on listed cells fit g ok present-outputs delays a f at h l (output m)),
  )

  pub within-ranges : WithinRanges listed g (blif_of g (chosen_gates listed cells g)) (timings_from (min_arrival_of cells g) (λ l. (chosen cells g l).arrival) 0 g.outputs)
  unfolding blif_of below
  within-ranges = record {
    names = saying_names (min_arrival_of cells g) high 0 g.outputs;
    separate = separately;
    has_times = λ delays. (time_on listed cells fit g ok present-outputs delays (times_by delays) (any-follows delays), times-on listed cells fit g ok present-outputs delays (times_by delays) (any-follows delays));
    within = λ delays ranges at h.
        saying_within (min_arrival_of cells g) high at 0 g.outputs (at-outputs at g.outputs h.at_wires) (λ l m.
        let e : at (net_name l) ≡ times_by delays l = net-on listed cells fit g ok present-outputs delays (times_by delays) (any-follows delays) at h l (output m) in (
          le_trans (below_by min_delays delays (min_arrival_of cells g) (times_by delays) low-follows (any-follows delays) (λ t i j. (ranges t i j).0) l (output m)) (le_of_eq (sym e)),
          le_trans (le_of_eq e) (below_by delays high_delays (times_by delays) high (any-follows delays) high-follows (λ t i j. (ranges t i j).1) l (output m)),
        ));
    lowest = (
      min_delays,
      (λ t m j. (le_refl (get_or (min_delays t) j 0), low_range t m j)),
      (λ at h. all-outputs min_delays (min_arrival_of cells g) low-follows at h ∙ sym (saying_mins (min_arrival_of cells g) high 0 g.outputs)),
    );
    highest = (
      high_delays,
      (λ t m j. (low_range t m j, le_refl (get_or (high_delays t) j 0))),
      (λ at h. all-outputs high_delays high high-follows at h ∙ sym (saying_highs (min_arrival_of cells g) high 0 g.outputs)),
    );
  }
