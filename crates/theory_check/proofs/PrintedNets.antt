-- The printed netlist's lines drive each net once, use driven nets only and have no cycle; and values that follow them are values of the netlist that reads
-- back.
use Rattle.base.specs.{ℕ, zero, suc, ◌+◌, ◌*◌, ◌/◌, ◌%◌, ◌^◌, ◌≤◌, ◌<◌, pow-suc, arith, ◌≡◌, refl, sym, ◌∙◌, ap, ap₂, subst, ◌⊎◌, inl, inr}
use Rattle.base.specs.{⊎_elim, Bool, true, false, not, cond, ◌&&◌, ◌||◌, Option, None, Some, List, [], ◌∷◌, ◌++◌, map, Memᴰ}
use Rattle.base.specs.{Memᴰ-head, Memᴰ-tail, Memᴰ-not-nil, Memᴰ-append_cases, Memᴰ-append_left, Memᴰ-append_right}
use Rattle.base.specs.{Memᴰ-cast, T, ltb, ltb→lt, leb, nltb→le, le→leb, length, yes_and}
use Rattle.model.specs.{bit, one, all, any, from, below, digits, decimal, between, is_letter, holds, value, row_of, var_of, negated, absent}
use Rattle.model.specs.{chosen, output, fed, Net, of_phase, of_pair, Gate, net_name, label, out_name, Wire, drives, fed_by, NetValues, Driver}
use Rattle.model.specs.{is_net, among, driven_twice, undriven, first_line, on_cycle, unless_at, validate_nets, input_nets, assignment_of, DriverValues}
use Rattle.model.specs.{Distinct, driven_nets}
use Rattle.model.specs.Graph.{Graph}
use Rattle.model.specs.declared.Cell.{Cell}
use Rattle.theory_graph.specs.AcceptedGraph.{Accepted}
use Rattle.theory_graph.proofs.{map_in, map_out, each_in, map-map, map_same, length-map, by_bool, by_member}
use Rattle.theory_text.proofs.{label-free, Clear, line_of, wires_from, blif_of, label-once}
use Rattle.theory_demands.proofs.{Fitting, inside-apart, OfPhase, fed_at, NeedsOf, gates_at as phase_gates, chosen_gates, by_feeding, bound}
use Rattle.theory_demands.proofs.{gate_out, of_gates_lem, line-bound, gate-listed, out_label, wire-targets, key_of, few-key, few-at}
use Rattle.theory_demands.proofs.{needed-driven, well_formed}
use Rattle.theory_demands.proofs.ChosenGates.{Gates}
use Rattle.theory_check.proofs.DriverSort.{nets_of, FeedsNet, directly, through, NoCycle, join-feeds, among_in, among_out}
use Rattle.theory_check.proofs.Cycles.{found-cycle}
use Rattle.theory_check.proofs.PrintedLines.{AreNets, Shown, Fine, shown_line, driver_at, gates_at, wire_driver, behind_wire, names_at}

-- ---- a net's name is in its form

is_net_byte : ℕ → Bool
is_net_byte b = is_letter b || between 48 57 b

digit_byte : (n : ℕ) → n < 10 → T (is_net_byte (48 + n))
unfolding is_net_byte is_letter between
digit_byte n h = by_bool (is_letter (48 + n)) (λ e. rw e tt) (λ q. rw q (by_bool (leb 48 (48 + n))
    (λ p. rw p (le→leb (48 + n) 57 (omega arith))) (λ r. rw r (absurd (rw r at (le→leb 48 (48 + n) (omega arith)))))))

digits-bytes : (fuel n : ℕ) (after : List ℕ) → T (all is_net_byte after) → T (all is_net_byte (digits fuel n after))
unfolding digits all
digits-bytes zero n after t = t
digits-bytes (suc fuel) n after t =
    by_bool (ltb n 10) (λ e. rw e (yes_and (is_net_byte (48 + n)) (all is_net_byte after) (digit_byte n ((rw e at (ltb→lt n 10)) tt)) t)) (λ q.
    rw q (digits-bytes fuel (n / 10) ((48 + n % 10) ∷ after)
    (yes_and (is_net_byte (48 + n % 10)) (all is_net_byte after) (digit_byte (n % 10) (omega arith)) t)))

digits-short : (k fuel n : ℕ) (after : List ℕ) → n < 10 ^ suc k → length (digits fuel n after) ≤ suc k + length after
unfolding digits
digits-short k zero n after h = omega arith
digits-short zero (suc fuel) n after h = go (ltb n 10) (nltb→le n 10)
  where
    go : (b : Bool) → (T (not b) → 10 ≤ n) → length (cond b ((48 + n) ∷ after) (digits fuel (n / 10) ((48 + n % 10) ∷ after))) ≤ 1 + length after
    go true y = omega arith
    go false y = absurd (let z : 10 ≤ n = y tt in let q : n < 10 = h in omega arith)
digits-short (suc k) (suc fuel) n after h =
    by_bool (ltb n 10) (λ e. rw e (omega (
      arith,
      digits-short k fuel (n / 10) ((48 + n % 10) ∷ after)
          (let q : n < 10 ^ suc k * 10 = rw (← pow-suc 10 (suc k)) h in omega arith),
    ))) (λ p. rw p (omega (
      arith,
      digits-short k fuel (n / 10)
          ((48 + n % 10) ∷ after) (let q : n < 10 ^ suc k * 10 = rw (← pow-suc 10 (suc k)) h in omega arith),
    )))

-- a net of a variable up to 4,095 has a letter and at most four digits
net-bytes : (l : ℕ) → l < 8192 → (length (net_name l) ≤ 5) × T (all is_net_byte (net_name l))
unfolding net_name decimal is_net_byte is_letter between all var_of
net-bytes l h = (
  omega (arith, digits-short 3 (suc (l / 2)) (l / 2) [] (let q : l / 2 < 10000 = omega arith in q)),
  yes_and
      (is_net_byte (cond (negated l) 109 112)) (all is_net_byte (decimal (l / 2))) (by_bool (negated l) (λ e. rw e tt) (λ q. rw q tt))
      (digits-bytes (suc (l / 2)) (l / 2) [] tt),
)

-- so that it is a net's name, and with the `s` of a net inside a pair too
form_of : (w : List ℕ) → 1 ≤ length w → length w ≤ 8 → T (all is_net_byte w) → T (is_net w)
unfolding is_net is_net_byte
form_of w a b t = yes_and (leb 1 (length w)) (leb (length w) 8 && all is_net_byte w) (le→leb 1 (length w) a) (yes_and (leb (length w) 8) (all is_net_byte w) (le→leb (length w) 8 b) t)

pub label_form : (n : Net) → key_of n < 8192 → T (is_net (label n)) × Clear (label n)
unfolding label key_of net_name all is_net_byte is_letter between
label_form (of_phase l) h = let b = net-bytes l h in (form_of (net_name l) (omega arith) (omega (arith, b.0)) b.1, (λ s k. label-free s (of_phase l) k))
label_form (of_pair l) h =
    (form_of (115 ∷ net_name l) (omega arith) (omega (arith, (net-bytes l h).0)) (net-bytes l h).1, (λ s k. label-free s (of_pair l) k))

pub net_form : (l : ℕ) → l < 8192 → T (is_net (net_name l)) × Clear (net_name l)
unfolding label key_of
net_form l h = label_form (of_phase l) h

-- ---- the lines, one by one

gates_out : (at : ℕ) (xs : List Shown) (d : Driver) → Memᴰ d (gates_at at xs) → (x : Shown) × Memᴰ x xs × ((k : ℕ) × (d ≡ driver_at k x))
unfolding gates_at
gates_out at (x ∷ xs) d (Memᴰ-head e) = (x, Memᴰ-head refl, (at, e))
gates_out at (x ∷ xs) d (Memᴰ-tail m) = let r = gates_out (at + suc (length (shown_line x))) xs d m in (r.0, Memᴰ-tail r.1, r.2)
gates_out at [] d x' = elim x' [ ]

gates_have : (at : ℕ) (xs : List Shown) (x : Shown) → Memᴰ x xs → (k : ℕ) × Memᴰ (driver_at k x) (gates_at at xs)
unfolding gates_at
gates_have at (y ∷ xs) x (Memᴰ-head e) = (at, Memᴰ-head (ap (driver_at at) e))
gates_have at (y ∷ xs) x (Memᴰ-tail m) = let r = gates_have (at + suc (length (shown_line y))) xs x m in (r.0, Memᴰ-tail r.1)
gates_have at [] x x3 = elim x3 [ ]

names_out : (at k : ℕ) (ns : List (List ℕ)) (d : Driver) → Memᴰ d (names_at at k ns) → (n : List ℕ) × Memᴰ n ns × ((i j : ℕ) × (d ≡ wire_driver i j n))
unfolding names_at
names_out at k (n ∷ ns) d (Memᴰ-head e) = (n, Memᴰ-head refl, (at, k, e))
names_out at k (n ∷ ns) d (Memᴰ-tail m) = let r = names_out (behind_wire at k n) (suc k) ns d m in (r.0, Memᴰ-tail r.1, r.2)
names_out at k [] d x' = elim x' [ ]

gates-nets : (at : ℕ) (xs : List Shown) → nets_of (gates_at at xs) ≡ map (λ (x : Shown). x.net) xs
unfolding gates_at
gates-nets at [] = refl
gates-nets at (x ∷ xs) = ap (λ (ns : List (List ℕ)). x.net ∷ ns) (gates-nets (at + suc (length (shown_line x))) xs)

names-nets : (at k : ℕ) (ns : List (List ℕ)) → nets_of (names_at at k ns) ≡ map out_name (from k (length ns))
unfolding names_at from
names-nets at k [] = refl
names-nets at k (n ∷ ns) = ap (λ (xs : List (List ℕ)). out_name k ∷ xs) (names-nets (behind_wire at k n) (suc k) ns)

nets_append : (ds es : List Driver) → nets_of (ds ++ es) ≡ nets_of ds ++ nets_of es
nets_append [] es = refl
nets_append (d ∷ ds) es = ap (λ (xs : List (List ℕ)). d.net ∷ xs) (nets_append ds es)

-- a wire has its net's value
pub wire-value : (b : Bool) → value 2 (row_of (b ∷ [])) ≡ b
unfolding value row_of bit one
wire-value true = refl
wire-value false = refl

wires_hand : (w : List ℕ → Bool) (at k : ℕ) (ls : List ℕ) → ((d : Driver) → Memᴰ d (names_at at k (map net_name ls)) → w d.net ≡ value d.table (row_of (map w d.uses)))
    → (x : Wire) → Memᴰ x (wires_from k ls) → w x.target ≡ w x.source
unfolding names_at wires_from
wires_hand w at k (l ∷ ls) h x (Memᴰ-head e) =
    subst (λ (y : Wire). w y.target ≡ w y.source) (sym e) (h (wire_driver at k (net_name l)) (Memᴰ-head refl) ∙ wire-value (w (net_name l)))
wires_hand w at k (l ∷ ls) h x (Memᴰ-tail m) = wires_hand w (behind_wire at k (net_name l)) (suc k) ls (λ d i. h d (Memᴰ-tail i)) x m
wires_hand w at k [] h x x4 = elim x4 [ ]

-- ---- 33 finds nothing where each net is driven once, every net used is driven, and there is no cycle

front-apart : (ns ms : List (List ℕ)) → Distinct (ns ++ ms) → (n : List ℕ) → Memᴰ n ns → ¬ Memᴰ n ms
front-apart (x ∷ ns) ms d n (Memᴰ-head e) i = d.0 (Memᴰ-append_right ns (Memᴰ-cast (sym e) i))
front-apart (x ∷ ns) ms d n (Memᴰ-tail m) i = front-apart ns ms d.1 n m i
front-apart [] ms d n x3 i = elim x3 [ ]

back-distinct : (ns ms : List (List ℕ)) → Distinct (ns ++ ms) → Distinct ms
back-distinct [] ms d = d
back-distinct (x ∷ ns) ms d = back-distinct ns ms d.1

once-none : (known : List (List ℕ)) (ds : List Driver) → Distinct (nets_of ds) → ((n : List ℕ) → Memᴰ n known → ¬ Memᴰ n (nets_of ds)) → driven_twice known ds ≡ None
unfolding driven_twice
once-none known [] once apart = refl
once-none known (d ∷ ds) once apart = by_bool (among d.net known)
    (λ e. rw e (absurd (apart d.net (among_out d.net known (subst T (sym e) tt)) (Memᴰ-head refl))))
    (λ q. rw q (once-none (d.net ∷ known) ds once.1 more))
  where
    more : (n : List ℕ) → Memᴰ n (d.net ∷ known) → ¬ Memᴰ n (nets_of ds)
    more n (Memᴰ-head e) i = once.0 (Memᴰ-cast (sym e) i)
    more n (Memᴰ-tail m) i = apart n m (Memᴰ-tail i)

no_line_lem : (p : Driver → Bool) (ds : List Driver) → ((d : Driver) → Memᴰ d ds → p d ≡ false) → first_line p ds ≡ None
unfolding first_line
no_line_lem p [] h = refl
no_line_lem p (d ∷ ds) h = ap₂ (λ (b : Bool) (o : Option ℕ). cond b (Some d.offset) o) (h d (Memᴰ-head refl)) (no_line_lem p ds (λ e m. h e (Memᴰ-tail m)))

all_among : (nets us : List (List ℕ)) → ((n : List ℕ) → Memᴰ n us → Memᴰ n nets) → any (λ (n : List ℕ). not (among n nets)) us ≡ false
unfolding any
all_among nets [] h = refl
all_among nets (u ∷ us) h = ap₂ (λ (a b : Bool). not a || b) (among_in u nets (h u (Memᴰ-head refl))) (all_among nets us (λ n m. h n (Memᴰ-tail m)))

pub nets_pass : (inputs : List (List ℕ)) (ds : List Driver) → Distinct (inputs ++ nets_of ds)
    → ((d : Driver) → Memᴰ d ds → (n : List ℕ) → Memᴰ n d.uses → Memᴰ n (inputs ++ nets_of ds)) → NoCycle ds → validate_nets inputs ds ≡ holds ds
unfolding validate_nets undriven unless_at
nets_pass inputs ds once used cycle = cc (
  once-none inputs ds (back-distinct inputs (nets_of ds) once)
      (front-apart inputs (nets_of ds) once),
  no_line_lem (λ (d : Driver). any (λ (n : List ℕ). not (among n (inputs ++ nets_of ds))) d.uses) ds
      (λ d m. all_among (inputs ++ nets_of ds) d.uses (used d m)),
  no_line_lem (on_cycle ds) ds
      (λ d m. off (on_cycle ds d) refl (λ e. cycle d m (found-cycle ds d m e))),
)
  where
    off : (b : Bool) {c : Bool} → c ≡ b → (c ≡ true → ⊥) → c ≡ false
    off true e h = absurd (h e)
    off false e h = e

-- ---- the netlist of the choice

abbrev pub shown_of : Gate → Shown
shown_of t = record { cell = t.cell; pins = map label t.pins; net = label t.net }

-- a net that feeds another is used by a line
feeds-used : (ds : List Driver) (x y : List ℕ) → FeedsNet ds x y → (d : Driver) × Memᴰ d ds × Memᴰ x d.uses
feeds-used ds x y (directly d m u) = (d, m, u)
feeds-used ds x y (through {y = z} d f m u) = feeds-used ds x z f

-- what a net's line uses feeds itself where the net does
record Round (ds : List Driver) (y : List ℕ) : Type 0 where
  line : Driver
  is_line : Memᴰ line ds
  of_net : y ≡ line.net
  user : List ℕ
  is_used : Memᴰ user line.uses
  again : FeedsNet ds user user

round : (ds : List Driver) (x y : List ℕ) → x ≡ y → FeedsNet ds x y → Round ds y
round ds x y e (directly d m u) = record {
  line = d;
  is_line = m;
  of_net = refl;
  user = x;
  is_used = u;
  again = subst (λ (z : List ℕ). FeedsNet ds x z) (sym e) (directly d m u);
}
round ds x y e (through {y = z} d h m u) =
    record { line = d; is_line = m; of_net = refl; user = z; is_used = u; again = join-feeds ds z x z (rw e (directly d m u)) h }

module _ (listed cells : List Cell) (fit : Fitting listed cells) (g : Graph) (ok : Accepted g) (small : g.size ≤ 4095)
    (present-outputs : (l : ℕ) → Memᴰ l g.outputs → absent (chosen cells g l).source ≡ false) (at behind : ℕ) where
  abbrev pub printed_drivers : List Driver
  printed_drivers = gates_at at (map shown_of (chosen_gates listed cells g)) ++ names_at behind 0 (map net_name g.outputs)

  needed_form : (n : Net) → NeedsOf cells g (key_of n) → T (is_net (label n)) × Clear (label n)
  needed_form n h = label_form n (let b : key_of n < 2 * suc g.size = bound listed cells fit g ok present-outputs (key_of n) h in omega arith)

  labels_form : (ns : List Net) → ((n : Net) → Memᴰ n ns → NeedsOf cells g (key_of n)) → AreNets (map label ns)
  labels_form [] h = tt
  labels_form (n ∷ ns) h = (needed_form n (h n (Memᴰ-head refl)), labels_form ns (λ k m. h k (Memᴰ-tail m)))

  nets_form : (ls : List ℕ) → ((l : ℕ) → Memᴰ l ls → NeedsOf cells g l) → AreNets (map net_name ls)
  unfolding label key_of
  nets_form [] h = tt
  nets_form (l ∷ ls) h = (needed_form (of_phase l) (h l (Memᴰ-head refl)), nets_form ls (λ k m. h k (Memᴰ-tail m)))

  pub outputs_form : AreNets (map net_name g.outputs)
  outputs_form = nets_form g.outputs (λ l m. output m)

  -- a gate of a phase that becomes gates
  abbrev IsPhase : ℕ → Type 0
  IsPhase = Gates listed cells fit g ok present-outputs

  -- what feeds a gate of phase l is of a needed phase
  pin-needed : (l : ℕ) → IsPhase l → (t : Gate) → Memᴰ t (phase_gates listed cells g l) → (n : Net) → Memᴰ n t.pins → NeedsOf cells g (key_of n)
  unfolding key_of
  pin-needed l h t m n i = ⊎_elim (λ j. let x = map_out of_phase (fed_at cells g l) j in rw x.2 (fed h.needs x.1))
      (λ q. rw q.0 h.needs) ((of_gates_lem listed cells fit g ok present-outputs l h t m).pins n i)

  -- a gate's net is of its phase
  net-key : (l : ℕ) (t : Gate) → Memᴰ t (phase_gates listed cells g l) → key_of t.net ≡ l
  net-key l t m = few-key l (phase_gates listed cells g l) (few-at listed cells fit g ok present-outputs l) t.net (map_in (λ (u : Gate). u.net) m)

  pub gates_fine : (x : Shown) → Memᴰ x (map shown_of (chosen_gates listed cells g)) → Fine listed x
  gates_fine x m =
      let o = map_out shown_of (chosen_gates listed cells g) m in
      let r = gate_out listed cells fit g ok present-outputs o.0 o.1 in
      let c = gate-listed listed cells fit g ok present-outputs o.0 o.1 in
      subst (Fine listed) (sym o.2) (record {
        listed = c.0;
        count = length-map label o.0.pins ∙ c.1;
        nets = labels_form o.0.pins (pin-needed r.at r.gates o.0 r.is_gate);
        is_net_too = needed_form o.0.net (subst (NeedsOf cells g) (sym (net-key r.at o.0 r.is_gate)) r.gates.needs);
      })

  -- the nets that the lines drive are those of the netlist that reads back
  nets-driven : input_nets g ++ nets_of printed_drivers ≡ driven_nets (blif_of g (chosen_gates listed cells g))
  unfolding input_nets driven_nets blif_of below
  nets-driven =
      cc (
        nets_append (gates_at at (map shown_of (chosen_gates listed cells g))) (names_at behind 0 (map net_name g.outputs)),
        gates-nets at
            (map shown_of (chosen_gates listed cells g)),
        map-map (λ (x : Shown). x.net) shown_of (chosen_gates listed cells g),
        map_same
            (λ (u : Gate). label u.net) (λ (u : Gate). drives (line_of u)) (chosen_gates listed cells g)
            (λ u m. sym (line-bound listed cells fit g ok present-outputs u m).is_driven),
        map-map drives line_of
            (chosen_gates listed cells g),
        names-nets behind 0 (map net_name g.outputs),
        length-map net_name g.outputs,
        wire-targets
            g.outputs,
      )

  -- a line is a gate's of a phase, or an output's
  data IsLine (d : Driver) : Type 0 where
    of_gate : (l k : ℕ) (t : Gate) → IsPhase l → Memᴰ t (phase_gates listed cells g l) → Memᴰ t (chosen_gates listed cells g) → d ≡ driver_at k (shown_of t) → IsLine d
    of_output : (l i j : ℕ) → Memᴰ l g.outputs → d ≡ wire_driver i j (net_name l) → IsLine d

  line-is : (d : Driver) → Memᴰ d printed_drivers → IsLine d
  line-is d m = ⊎_elim (λ i. let x = gates_out at (map shown_of (chosen_gates listed cells g)) d i in let o = map_out shown_of
      (chosen_gates listed cells g) x.1 in let r = gate_out listed cells fit g ok present-outputs o.0 o.1 in of_gate r.at
      x.2.0 o.0 r.gates r.is_gate o.1 (cc (x.2.1, o.2))) (λ q. let x = names_out behind 0
      (map net_name g.outputs) d q in let o = map_out net_name g.outputs x.1 in of_output o.0 x.2.0 x.2.1 o.1
      (cc (x.2.2, o.2))) (Memᴰ-append_cases (gates_at at (map shown_of (chosen_gates listed cells g))) m)

  -- what a line uses is the net of a phase, or one inside a pair
  use_net : (d : Driver) → IsLine d → (n : List ℕ) → Memᴰ n d.uses → (m : Net) × NeedsOf cells g (key_of m) × (n ≡ label m)
  unfolding label key_of
  use_net d (of_gate l k t h i c e) n m = let o = map_out label t.pins (rw e at m) in (o.0, pin-needed l h t i o.0 o.1, o.2)
  use_net d (of_output l i j h e) n m = (of_phase l, output h, (by_member (rw e at m) (λ q. q) (λ p. absurd (Memᴰ-not-nil p))))

  used-driven : (d : Driver) → Memᴰ d printed_drivers → (n : List ℕ) → Memᴰ n d.uses → Memᴰ n (input_nets g ++ nets_of printed_drivers)
  used-driven d m n u = subst (λ (ns : List (List ℕ)). Memᴰ n ns) (sym nets-driven) (go (line-is d m))
    where
      go : IsLine d → Memᴰ n (driven_nets (blif_of g (chosen_gates listed cells g)))
      go (of_gate l k t h i c e) = (unfold blif_of in (well_formed listed cells fit g ok present-outputs
          (record { gates = 0; area = 0; arrival = 0 })).driven n (Memᴰ-append_right (map out_name (below (length g.outputs)))
          (Memᴰ-append_left (map (λ (x : Wire). x.source) (wires_from 0 g.outputs))
          (each_in (fed_by listed) (map_in line_of c) (rw (line-bound listed cells fit g ok present-outputs t c).is_fed (rw e at u))))))
      go (of_output l i j h e) = Memᴰ-cast (elim (rw e at u) [ Memᴰ-head q ↦ q | Memᴰ-tail p ↦ absurd (Memᴰ-not-nil p) ])
          (needed-driven listed cells fit g ok present-outputs l (output h))

  -- what the line of a net of phase l uses: what feeds the phase, or, at the phase's own net, the net inside
  data Used (l : ℕ) (m : Net) (u : List ℕ) : Type 0 where
    by_phase : (x : ℕ) → Memᴰ x (fed_at cells g l) → u ≡ label (of_phase x) → Used l m u
    by_inside : m ≡ of_phase l → u ≡ label (of_pair l) → Used l m u

  line-uses : (m : Net) (d : Driver) → label m ≡ d.net → IsLine d → (u : List ℕ) → Memᴰ u d.uses → Used (key_of m) m u
  line-uses m d e (of_output k i j h q) u n = absurd (out_label j m (sym (e ∙ ap (λ (y : Driver). y.net) q)))
  line-uses m d e (of_gate k i t h a c q) u n =
      let same-net = label-once m t.net (e ∙ ap (λ (y : Driver). y.net) q) in
      subst (λ (l : ℕ). Used l m u) (sym (net-key k t a) ∙ ap key_of (sym same-net)) (go m same-net o.0 o.2 (b.pins o.0 o.1))
    where
      o : (p : Net) × Memᴰ p t.pins × (u ≡ label p)
      o = map_out label t.pins (subst (λ (y : Driver). Memᴰ u y.uses) q n)

      b : OfPhase listed (fed_at cells g k) k (phase_gates listed cells g k) t
      b = of_gates_lem listed cells fit g ok present-outputs k h t a

      phase-is : (x : ℕ) → key_of (of_phase x) ≡ x
      phase-is x = unfold key_of in refl

      inner-is : (x : ℕ) → key_of (of_pair x) ≡ x
      inner-is x = unfold key_of in refl

      by_phase_lem : (m : Net) (p : Net) → u ≡ label p → Memᴰ p (map of_phase (fed_at cells g k)) → Used k m u
      by_phase_lem m p s i = let x = map_out of_phase (fed_at cells g k) i in by_phase x.0 x.1 (s ∙ ap label x.2)

      go : (m : Net) → m ≡ t.net → (p : Net) → u ≡ label p → Memᴰ p (map of_phase (fed_at cells g k)) ⊎ ((p ≡ of_pair k) × Memᴰ p (map (λ (v : Gate). v.net) (phase_gates listed cells g k)))
          → Used k m u
      go m r p s (inl i) = by_phase_lem m p s i
      go (of_phase x) r p s (inr i) = by_inside (ap of_phase (sym (phase-is x) ∙ ap key_of r ∙ net-key k t a)) (s ∙ ap label i.0)
      go (of_pair x) r p s (inr i) = by_phase_lem (of_pair x) o.0 o.2 (b.inside (cc (inner-is x, net-key k t a)) o.0 o.1)

  -- no net feeds itself: what feeds it would
  net-free_of_cycles : (l : ℕ) → NeedsOf cells g l → (m : Net) → key_of m ≡ l → ¬ FeedsNet printed_drivers (label m) (label m)
  net-free_of_cycles = by_feeding listed cells fit g ok present-outputs (λ l. (m : Net) → key_of m ≡ l → ¬ FeedsNet printed_drivers (label m) (label m)) step
    where
      step : (l : ℕ) → NeedsOf cells g l → ((x : ℕ) → Memᴰ x (fed_at cells g l) → (m : Net) → key_of m ≡ x → ¬ FeedsNet printed_drivers (label m) (label m))
          → (m : Net) → key_of m ≡ l → ¬ FeedsNet printed_drivers (label m) (label m)
      step l n ih = whole
        where
          around : (m : Net) → key_of m ≡ l → FeedsNet printed_drivers (label m) (label m) → (u : List ℕ) × FeedsNet printed_drivers u u × Used l m u
          around m k f =
              let r = round printed_drivers (label m) (label m) refl f in
              (r.user, r.again, subst (λ (x : ℕ). Used x m r.user) k (line-uses m r.line r.of_net (line-is r.line r.is_line) r.user r.is_used))

          of_phase_lem : (x : ℕ) (u : List ℕ) → Memᴰ x (fed_at cells g l) → u ≡ label (of_phase x) → FeedsNet printed_drivers u u → ⊥
          of_phase_lem x u m e f = ih x m (of_phase x) (unfold key_of in refl) (subst (λ (w : List ℕ). FeedsNet printed_drivers w w) e f)

          whole : (m : Net) → key_of m ≡ l → ¬ FeedsNet printed_drivers (label m) (label m)
          whole m k f = let r = around m k f in elim r.2 [
            | by_phase y i e ↦ of_phase_lem y r.0 i e r.1
            | by_inside q p ↦ (let r = around (of_pair l) (unfold key_of in refl)
                (subst (λ (w : List ℕ). FeedsNet printed_drivers w w) p r.1) in elim
                r.2 [ by_phase y i e ↦ of_phase_lem y r.0 i e r.1 | by_inside q p ↦ inside-apart l l (sym q) ])
          ]

  no_cycle_lem : NoCycle printed_drivers
  no_cycle_lem d m f = elim (line-is d m) [
    | of_gate l k t h i c e ↦ net-free_of_cycles l h.needs t.net (net-key l t i)
        (subst (λ (y : Driver). FeedsNet printed_drivers y.net y.net) e f)
    | of_output q p j r z ↦ let u = feeds-used printed_drivers d.net d.net f in let r = use_net u.0 (line-is u.0 u.1) d.net
        u.2 in out_label j r.0 (sym (ap (λ (y : Driver). y.net) z) ∙ r.2)
  ]

  -- 33 finds nothing
  pub drivers_pass : validate_nets (input_nets g) printed_drivers ≡ holds printed_drivers
  drivers_pass =
      nets_pass (input_nets g) printed_drivers (subst Distinct (sym nets-driven) (well_formed listed cells fit g ok present-outputs (record { gates = 0; area = 0; arrival = 0 })).once) used-driven no_cycle_lem

  -- values that follow the lines are values of the netlist that reads back
  pub drivers-values : (s : ℕ) (w : List ℕ → Bool) → DriverValues g printed_drivers s w → NetValues listed (blif_of g (chosen_gates listed cells g)) (map (assignment_of s 0 g.inputs) g.inputs) w
  unfolding blif_of input_nets
  drivers-values s w h = record {
    at_inputs = h.at_inputs;
    at_gates = λ t m. (let b = line-bound listed cells fit g ok present-outputs (map_out line_of (chosen_gates listed cells g) m).0
        (map_out line_of (chosen_gates listed cells g) m).1 in let k = gates_have at (map shown_of (chosen_gates listed cells g))
        (shown_of (map_out line_of (chosen_gates listed cells g) m).0)
        (map_in shown_of (map_out line_of (chosen_gates listed cells g) m).1) in rw (map_out line_of (chosen_gates listed cells g) m).2 (cc (
          b.is_driven,
          h.at_drivers (driver_at k.0 (shown_of (map_out line_of (chosen_gates listed cells g) m).0))
              (Memᴰ-append_left (names_at behind 0 (map net_name g.outputs)) k.1),
          b.is_cell,
          b.is_fed,
        )));
    at_wires = wires_hand w behind 0 g.outputs
        (λ d m. h.at_drivers d (Memᴰ-append_right (gates_at at (map shown_of (chosen_gates listed cells g))) m));
  }
