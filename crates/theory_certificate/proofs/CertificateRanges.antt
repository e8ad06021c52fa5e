-- The `# timing` lines of a certificate's netlist: "Every choice of pin delays, each within its range and fixed separately per gate, puts the output within these
-- two, and each end is reached by some choice".
use Rattle.base.specs.{ℕ, suc, ◌≤◌, le_refl, le_trans, le_of_eq, arith, ◌≡◌, refl, sym, ◌∙◌, ap, subst, inl, inr, ⊎_elim, Bool, true, false, cond, Some}
use Rattle.base.specs.{List, [], ◌∷◌, ◌++◌, map, Memᴰ, Memᴰ-head, Memᴰ-tail, Memᴰ-not-nil, Memᴰ-cast, head-eq_of_cons-eq, tail-eq_of_cons-eq, T}
use Rattle.base.specs.{length, get_or}
use Rattle.model.specs.{from, below, same, latest, literal, no_lower, no_cell, label, net_name, out_name, netlist_text, timing_lines, GraphValues, GateLine, TimingLine}
use Rattle.model.specs.{named, drives, read_timings, Delays, NetTimes, Distinct, WithinRanges, cell_at}
use Rattle.model.specs.Graph.{Graph}
use Rattle.model.specs.declared.Cell.{Cell}
use Rattle.theory_graph.proofs.{get_or_in, is_true, length-map, map-distinct, map_in, map-map, map_out, map_same, same-eq, same_refl}
use Rattle.theory_graph.specs.{library_fits}
use Rattle.theory_cover.proofs.{latest-below}
use Rattle.theory_text.proofs.{blif_of, line_of, net-once, timings-back, timings_from}
use Rattle.theory_demands.proofs.{no_lower_lem}
use Rattle.theory_demands.proofs.Wires.{at-outputs}
use Rattle.certificate_model.specs.declared.Row.{Row}
use Rattle.certificate_model.specs.{Made, Move, Outcome, HasCapacity, figures_by, gate_of, timed_lines, wired}
use Rattle.theory_certificate.proofs.Sound.{Timed, cell_of, net_of, pins_of}
use Rattle.theory_certificate.proofs.Runs.{Certified, all_listed}
use Rattle.theory_certificate.proofs.Order.{Driven, Ordered, apart, certified_order, own_nets}
use Rattle.theory_certificate.proofs.PrintedNetlist.{bound, certified_times, gates_of, high_delays, input-at, its_cell, low_delays, named-gates, netlist_of, of_line, out_nets}
use Rattle.theory_certificate.proofs.Figures.{out_highs, out_mins, row-times}

-- ---- arrivals under smaller delays are no later

below_along : (cells : List Cell) (names : List ℕ) (xs : List Made) → Ordered cells names xs → (f h : ℕ → ℕ) (ds es : Made → List ℕ) → ((n : ℕ) → Memᴰ n names → f n ≤ h n)
    → ((x : Made) → Memᴰ x xs → f (net_of x) ≡ latest (map f (pins_of cells x)) (ds x)) → ((x : Made) → Memᴰ x xs → h (net_of x) ≡ latest (map h (pins_of cells x)) (es x))
    → ((x : Made) → Memᴰ x xs → (j : ℕ) → get_or (ds x) j 0 ≤ get_or (es x) j 0) → (n : ℕ) → Driven names xs n → f n ≤ h n
below_along cells names [] o f h ds es start a b le n (inl m) = start n m
below_along cells names [] o f h ds es start a b le n (inr m) = absurd (Memᴰ-not-nil m)
below_along cells names (x ∷ xs) o f h ds es start a b le n m =
    below_along cells (net_of x ∷ names) xs o.2 f h ds es more (λ y i. a y (Memᴰ-tail i)) (λ y i. b y (Memᴰ-tail i)) (λ y i. le y (Memᴰ-tail i)) n (⊎_elim (λ i. inl (Memᴰ-tail i)) at m)
  where
    here : f (net_of x) ≤ h (net_of x)
    here = le_trans (le_of_eq (a x (Memᴰ-head refl))) (le_trans (latest-below f h (pins_of cells x) (ds x) (es x) (λ p i. start p (o.0 p i)) (le x (Memᴰ-head refl)))
        (le_of_eq (sym (b x (Memᴰ-head refl)))))

    more : (p : ℕ) → Memᴰ p (net_of x ∷ names) → f p ≤ h p
    more p (Memᴰ-head e) = subst (λ (q : ℕ). f q ≤ h q) (sym e) here
    more p (Memᴰ-tail i) = start p i

    at : Memᴰ n (map net_of (x ∷ xs)) → Driven (net_of x ∷ names) xs n
    at (Memᴰ-head e) = inl (Memᴰ-head e)
    at (Memᴰ-tail i) = inr i

-- ---- a list of delays, one for each of some nets

-- the delays of a net
entry : List (List ℕ) → List (List ℕ) → List ℕ → List ℕ
entry [] ds l = []
entry (k ∷ ks) [] l = []
entry (k ∷ ks) (d ∷ ds) l = cond (same k l) d (entry ks ds l)

entries : (ks : List (List ℕ)) (ds : List (List ℕ)) → Distinct ks → length ds ≡ length ks → map (entry ks ds) ks ≡ ds
unfolding entry
entries [] [] once e = refl
entries [] (d ∷ ds) once e = absurd (let q : suc (length ds) ≡ 0 = e in omega arith)
entries (k ∷ ks) [] once e = absurd (let q : 0 ≡ suc (length ks) = e in omega arith)
entries (k ∷ ks) (d ∷ ds) once e =
    cc (
      is_true (same k k) (same_refl k),
      map_same (λ (l : List ℕ). cond (same k l) d (entry ks ds l)) (entry ks ds) ks
          (λ l m. ap (λ (b : Bool). cond b d (entry ks ds l)) (other (same k l) (same-eq k l) (λ q. once.0 (Memᴰ-cast q m)))),
      entries ks ds once.1 (let q : suc (length ds) ≡ suc (length ks) = e in omega arith),
    )
  where
    other : {l : List ℕ} (b : Bool) → (T b → k ≡ l) → ¬ (k ≡ l) → b ≡ false
    other true y n = absurd (n (y tt))
    other false y n = refl

-- gates in order drive each net once
nets-once : (cells : List Cell) (names : List ℕ) (xs : List Made) → Ordered cells names xs → Distinct (map net_of xs)
nets-once cells names [] o = tt
nets-once cells names (x ∷ xs) o = (apart cells (net_of x ∷ names) xs o.2 (net_of x) (Memᴰ-head refl), nets-once cells (net_of x ∷ names) xs o.2)

-- ---- what the timing lines say

module _ (low high : ℕ → ℕ) where
  -- the rows' lines are those of the nets' arrivals
  timed-lines : (k : ℕ) (es : List Row) → ((e : Row) → Memᴰ e es → Timed high low e) → timed_lines k es ≡ timing_lines low high k (map (λ (e : Row). e.a) es)
  unfolding timed_lines timing_lines
  timed-lines k [] so = refl
  timed-lines k (e ∷ es) so = cc ((so e (Memᴰ-head refl)).0, (so e (Memᴰ-head refl)).1, timed-lines (suc k) es (λ x m. so x (Memᴰ-tail m)))

  said_names : (k : ℕ) (ls : List ℕ) → map (λ (x : TimingLine). x.output) (timings_from low high k ls) ≡ map out_name (from k (length ls))
  unfolding timings_from from
  said_names k [] = refl
  said_names k (l ∷ ls) = ap (λ (ns : List (List ℕ)). out_name k ∷ ns) (said_names (suc k) ls)

  said_mins : (k : ℕ) (ls : List ℕ) → map (λ (x : TimingLine). x.low) (timings_from low high k ls) ≡ map low ls
  unfolding timings_from
  said_mins k [] = refl
  said_mins k (l ∷ ls) = ap (λ (ns : List ℕ). low l ∷ ns) (said_mins (suc k) ls)

  said_highs : (k : ℕ) (ls : List ℕ) → map (λ (x : TimingLine). x.high) (timings_from low high k ls) ≡ map high ls
  unfolding timings_from
  said_highs k [] = refl
  said_highs k (l ∷ ls) = ap (λ (ns : List ℕ). high l ∷ ns) (said_highs (suc k) ls)

  -- an output between the two arrivals of its net is between those of its line
  said_within : (at : List ℕ → ℕ) (k : ℕ) (ls : List ℕ) → map at (map out_name (from k (length ls))) ≡ map (λ (l : ℕ). at (net_name l)) ls
      → ((l : ℕ) → Memᴰ l ls → (low l ≤ at (net_name l)) × (at (net_name l) ≤ high l))
      → (x : TimingLine) → Memᴰ x (timings_from low high k ls) → (x.low ≤ at x.output) × (at x.output ≤ x.high)
  unfolding timings_from from
  said_within at k (l ∷ ls) e h x (Memᴰ-head q) =
      let s : at (out_name k) ≡ at (net_name l) = head-eq_of_cons-eq e in
      let b = h l (Memᴰ-head refl) in
      rw q (le_trans b.0 (le_of_eq (sym s)), le_trans (le_of_eq s) b.1)
  said_within at k (l ∷ ls) e h x (Memᴰ-tail m) = said_within at (suc k) ls (tail-eq_of_cons-eq e) (λ y i. h y (Memᴰ-tail i)) x m
  said_within at k [] e h x x5 = elim x5 [ ]

module _ {nets : ℕ} {capacity : HasCapacity} {cells : List Cell} {g : Graph} {ms : List Move} {is : List ℕ} {o : Outcome} (k : Certified nets capacity cells g ms is o) (fit : T (library_fits cells))
    (has : (assignment : ℕ → Bool) → (v : ℕ → Bool) × GraphValues g assignment v) (low-high : (c : Cell) → Memᴰ c cells → T (no_lower c.mins c.delays)) where
  abbrev Times : Delays → (List ℕ → ℕ) → Type 0
  Times delays at = NetTimes cells delays (netlist_of cells g o) (map g.input_arrival g.inputs) at

  abbrev high : ℕ → ℕ
  high n = (certified_times k fit (high_delays k fit)).0 (net_name n)

  abbrev low : ℕ → ℕ
  low n = (certified_times k fit (low_delays k fit)).0 (net_name n)

  abbrev lines : List TimingLine
  lines = timings_from low high 0 (out_nets o)

  rows-timed : (e : Row) → Memᴰ e o.outs → Timed high low e
  rows-timed = row-times k fit has (certified_times k fit (high_delays k fit)).0 (certified_times k fit (low_delays k fit)).0
      (certified_times k fit (high_delays k fit)).1 (certified_times k fit (low_delays k fit)).1

  -- the printed text says these lines
  pub says-times : read_timings (netlist_text (wired g (out_nets o)) (gates_of cells o) (figures_by cells o) ++ timed_lines 0 o.outs) ≡ Some lines
  says-times = ap (λ (t : List ℕ). read_timings (netlist_text (wired g (out_nets o)) (gates_of cells o) (figures_by cells o) ++ t)) (timed-lines low high 0 o.outs rows-timed)
      ∙ timings-back (wired g (out_nets o)) (gates_of cells o) (figures_by cells o) low high (named-gates k fit)

  -- a lowest delay is not over its delay
  low_range : (t : GateLine) → Memᴰ t (netlist_of cells g o).gates → (j : ℕ) → get_or (low_delays k fit t) j 0 ≤ get_or (high_delays k fit t) j 0
  unfolding blif_of cell_at
  low_range t m =
      let a = map_out line_of (gates_of cells o) m in
      let q = map_out (gate_of cells) o.gates a.1 in
      let c : Cell = cell_of cells q.0 in
      let is_in = get_or_in cells q.0.gate.b no_cell (all_listed k q.0 q.1) in
      subst (λ (y : GateLine). (j : ℕ) → get_or (named cells y.cell).mins j 0 ≤ get_or (named cells y.cell).delays j 0) (sym (a.2 ∙ ap line_of q.2))
      (subst (λ (x : Cell). (j : ℕ) → get_or x.mins j 0 ≤ get_or x.delays j 0) (sym (its_cell k fit q.0 q.1)) (no_lower_lem c.mins c.delays (low-high c is_in)))

  driven-at : (n : ℕ) → Memᴰ n (out_nets o) → Driven (own_nets g) o.gates n
  driven-at n m = let q = map_out (λ (e : Row). e.a) o.outs m in subst (Driven (own_nets g) o.gates) (sym q.2) ((certified_order k).1 q.0 q.1)

  -- arrivals by delays that are no larger line by line are no later
  no_later_lem : (ds es : Delays) (f h : List ℕ → ℕ) → Times ds f → Times es h
      → ((t : GateLine) → Memᴰ t (netlist_of cells g o).gates → (j : ℕ) → get_or (ds t) j 0 ≤ get_or (es t) j 0) → (n : ℕ) → Memᴰ n (out_nets o) → f (net_name n) ≤ h (net_name n)
  unfolding blif_of
  no_later_lem ds es f h isF is_h le n m =
      below_along cells (own_nets g) o.gates (certified_order k).0 (λ p. f (net_name p)) (λ p. h (net_name p)) (λ x. ds (line_of (gate_of cells x))) (λ x. es (line_of (gate_of cells x))) start
      (of_line k fit f (λ y ts. latest ts (ds y)) isF.at_gates) (of_line k fit h (λ y ts. latest ts (es y)) is_h.at_gates)
      (λ x i. le (line_of (gate_of cells x)) (map_in line_of (map_in (gate_of cells) i))) n (driven-at n m)
    where
      start : (p : ℕ) → Memᴰ p (own_nets g) → f (net_name p) ≤ h (net_name p)
      start p i =
          let q = map_out (literal false) g.inputs i in
          subst (λ (x : ℕ). f (net_name x) ≤ h (net_name x)) (sym q.2)
          (le_of_eq (input-at f g.input_arrival g.inputs isF.at_inputs q.0 q.1 ∙ sym (input-at h g.input_arrival g.inputs is_h.at_inputs q.0 q.1)))

  -- each line is known by the net that it drives
  lines-once : Distinct (map drives (netlist_of cells g o).gates)
  unfolding blif_of gate_of label
  lines-once =
      subst Distinct (sym (map-map drives line_of (gates_of cells o) ∙ map-map (λ x. drives (line_of x)) (gate_of cells) o.gates
      ∙ map_same (λ (x : Made). drives (line_of (gate_of cells x))) (λ (x : Made). net_name (net_of x)) o.gates (λ x m. (bound k fit x m).is_driven)
      ∙ sym (map-map net_name net_of o.gates))) (map-distinct net_name (map net_of o.gates) net-once (nets-once cells (own_nets g) o.gates (certified_order k).0))

  pub within-ranges : WithinRanges cells g (netlist_of cells g o) lines
  unfolding blif_of below
  within-ranges = record {
    names = said_names low high 0 (out_nets o);
    separate = λ ds e. (
      (λ t. entry (map drives (netlist_of cells g o).gates) ds (drives t)),
      sym (map-map (entry (map drives (netlist_of cells g o).gates) ds) drives (netlist_of cells g o).gates)
          ∙ entries (map drives (netlist_of cells g o).gates) ds lines-once (e ∙ sym (length-map drives (netlist_of cells g o).gates)),
    );
    has_times = certified_times k fit;
    within = λ delays ranges at h. said_within low high at 0 (out_nets o) (at-outputs at (out_nets o) h.at_wires) (λ n m. (
      no_later_lem (low_delays k fit) delays (certified_times k fit (low_delays k fit)).0 at (certified_times k fit (low_delays k fit)).1 h (λ t i j. (ranges t i j).0) n m,
      no_later_lem delays (high_delays k fit) at (certified_times k fit (high_delays k fit)).0 h (certified_times k fit (high_delays k fit)).1 (λ t i j. (ranges t i j).1) n m,
    ));
    lowest = (
      low_delays k fit,
      (λ t m j. (le_refl (get_or (low_delays k fit t) j 0), low_range t m j)),
      (λ at h. out_mins k fit has at h ∙ sym (map_same (λ (e : Row). low e.a) (λ (e : Row). e.d) o.outs (λ e m. sym (rows-timed e m).1))
          ∙ sym (map-map low (λ (e : Row). e.a) o.outs) ∙ sym (said_mins low high 0 (out_nets o))),
    );
    highest = (
      high_delays k fit,
      (λ t m j. (low_range t m j, le_refl (get_or (high_delays k fit t) j 0))),
      (λ at h. out_highs k fit has at h ∙ sym (map_same (λ (e : Row). high e.a) (λ (e : Row). e.c) o.outs (λ e m. sym (rows-timed e m).0))
          ∙ sym (map-map high (λ (e : Row). e.a) o.outs) ∙ sym (said_highs low high 0 (out_nets o))),
    );
  }
