-- The form of the printed netlist: names in the file's order, listed cells with their pins bound, every net driven once and every used net
-- driven.
use Rattle.base.specs.{ℕ, suc, ◌*◌, ◌≤◌, ◌<◌, le_trans, le_of_eq, lt_of_not-le, dec_le, arith, ◌≡◌, refl, sym, ◌∙◌, ap, ap₂, subst, ◌⊎◌, inl}
use Rattle.base.specs.{inr, Bool, true, false, true≢false, List, [], ◌∷◌, ◌++◌, map, Memᴰ, Memᴰ-head, Memᴰ-tail, map-append}
use Rattle.base.specs.{Memᴰ-append_cases, Memᴰ-eq_of_singleton, Memᴰ-not-nil, Memᴰ-append_left, Memᴰ-append_right, Memᴰ-cast}
use Rattle.base.specs.{length, length-append}
use Rattle.model.specs.{below, each, name_of, And, var_of, literal, absent, chosen, output, fed, Net, of_phase, of_pair, Gate, is_input_source, gates_by}
use Rattle.model.specs.{net_name, label, out_name, GateLine, Binding, Wire, drives, fed_by, pin_names, output_name, Distinct, driven_nets, Formed}
use Rattle.model.specs.Graph.{Graph}
use Rattle.model.specs.declared.Cell.{Cell}
use Rattle.model.specs.declared.Source.TheVariants.{Input}
use Rattle.model.specs.declared.Figures.{Figures}
use Rattle.theory_graph.proofs.{map_in, map_out, each_out, map-map, map_same, lit_var, order-once, distinct-once, map-distinct}
use Rattle.theory_graph.proofs.{keep-distinct, below-distinct, append_distinct, length-keep, length_from, by_bool}
use Rattle.theory_graph.specs.AcceptedGraph.{Accepted}
use Rattle.theory_cover.proofs.{own-chosen}
use Rattle.theory_text.proofs.{line_of, input_names, output_names, wires_from, blif_of, net-once, label-once}
use Rattle.theory_demands.proofs.RefusalRanks.{Fitting}
use Rattle.theory_demands.proofs.PhaseNets.{cell_gate, inner_gate, root_gate, gates_single, gates_double}
use Rattle.theory_demands.proofs.ChosenGates.{source_of, number_at, fed_at, NeedsOf, gates_at, chosen_gates, gate_nets, gates_are, Gates}
use Rattle.theory_demands.proofs.ChosenGates.{net_out, gate_in_lem, gate_out, of_cell, of_gates_lem, line-bound, own_value, own-source, own-net}
use Rattle.theory_demands.proofs.Wires.{out_once, out_label, wire-targets, wire-sources}

-- ---- the nets of a phase's gates

-- the phase of a net
unfoldable pub key_of : Net → ℕ
key_of (of_phase l) = l
key_of (of_pair l) = l

is_phase : Net → Bool
is_phase (of_phase l) = true
is_phase (of_pair l) = false

-- the two cases of a phase's gates: one that drives it, or one inside and then one that drives it
pub data Few (l : ℕ) : List Gate → Type 0 where
  one : (t : Gate) → t.net ≡ of_phase l → Few l (t ∷ [])
  two : (s t : Gate) → s.net ≡ of_pair l → t.net ≡ of_phase l → Few l (s ∷ t ∷ [])

pub few-gates : (listed : List Cell) (k : ℕ) (ins : List ℕ) (l : ℕ) → Few l (gates_by listed k ins l)
few-gates listed k ins l = elim (dec_le (length listed) k) [
  | no lt ↦ rw (gates_single listed k ins l (lt_of_not-le lt))
      (one (cell_gate listed k ins l) refl)
  | yes le ↦ rw (gates_double listed k ins l le)
      (two (inner_gate listed k ins l) (root_gate listed k ins l) refl refl)
]

abbrev nets_of : List Gate → List Net
nets_of ts = map (λ (t : Gate). t.net) ts

few-length : (l : ℕ) (ts : List Gate) → Few l ts → length ts ≤ 2
few-length l ts (one t e) = omega arith
few-length l ts (two s t d e) = omega arith

pub few-key : (l : ℕ) (ts : List Gate) → Few l ts → (n : Net) → Memᴰ n (nets_of ts) → key_of n ≡ l
unfolding key_of
few-key l ts (one t e) n (Memᴰ-head q) = ap key_of (q ∙ e)
few-key l ts (one t e) n (Memᴰ-tail m) = absurd (Memᴰ-not-nil m)
few-key l ts (two s t d e) n (Memᴰ-head q) = ap key_of (q ∙ d)
few-key l ts (two s t d e) n (Memᴰ-tail (Memᴰ-head q)) = ap key_of (q ∙ e)
few-key l ts (two s t d e) n (Memᴰ-tail (Memᴰ-tail m)) = absurd (Memᴰ-not-nil m)

few-distinct : (l : ℕ) (ts : List Gate) → Few l ts → Distinct (nets_of ts)
unfolding is_phase
few-distinct l ts (one t e) = (Memᴰ-not-nil, tt)
few-distinct l ts (two s t d e) =
    ((λ m. let q : s.net ≡ t.net = Memᴰ-eq_of_singleton m in true≢false (sym (ap is_phase (sym d ∙ q ∙ e)))), (Memᴰ-not-nil, tt))

few-has : (l : ℕ) (ts : List Gate) → Few l ts → (t : Gate) × Memᴰ t ts × (t.net ≡ of_phase l)
few-has l ts (one t e) = (t, Memᴰ-head refl, e)
few-has l ts (two s t d e) = (t, Memᴰ-tail (Memᴰ-head refl), e)

-- nothing stands twice in the lists of different keys
each-distinct : (f : ℕ → List Net) → ((l : ℕ) → Distinct (f l)) → ((l : ℕ) (n : Net) → Memᴰ n (f l) → key_of n ≡ l) → (ls : List ℕ) → Distinct ls → Distinct (each f ls)
unfolding each
each-distinct f d key [] h = tt
each-distinct f d key (l ∷ ls) h = append_distinct (f l) (each f ls) (d l) (each-distinct f d key ls h.1)
    (λ n m i. let o = each_out f ls i in h.0 (Memᴰ-cast (sym (key l n m) ∙ key o.0 n o.2) o.1))

map_each : {A B : Type 0} (h : A → B) (f : ℕ → List A) (ls : List ℕ) → map h (each f ls) ≡ each (λ (l : ℕ). map h (f l)) ls
unfolding each
map_each h f [] = refl
map_each h f (l ∷ ls) = map-append h (f l) (each f ls) ∙ ap (λ (ys : List _). map h (f l) ++ ys) (map_each h f ls)

length-each : {A : Type 0} (f : ℕ → List A) → ((l : ℕ) → length (f l) ≤ 2) → (ls : List ℕ) → length (each f ls) ≤ 2 * length ls
unfolding each
length-each f h [] = omega arith
length-each f h (l ∷ ls) = let a = length-append (f l) (each f ls) in let b = h l in let c = length-each f h ls in omega (arith, a, b, c)

length-each-one : {A : Type 0} (f : ℕ → List A) (ls : List ℕ) → ((l : ℕ) → Memᴰ l ls → length (f l) ≤ 1) → length (each f ls) ≤ length ls
unfolding each
length-each-one f [] h = omega arith
length-each-one f (l ∷ ls) h =
    omega (arith, (length-append (f l) (each f ls)), (h l (Memᴰ-head refl)), (length-each-one f ls (λ k m. h k (Memᴰ-tail m))))

module _ (listed cells : List Cell) (fit : Fitting listed cells) (g : Graph) (ok : Accepted g)
    (present-outputs : (l : ℕ) → Memᴰ l g.outputs → absent (chosen cells g l).source ≡ false) where
  pub few-at : (l : ℕ) → Few l (gates_at listed cells g l)
  few-at l = few-gates listed (number_at cells g l) (fed_at cells g l) l

  -- "the gate bound becomes 4(M+1)"
  pub gate-count : length (chosen_gates listed cells g) ≤ 4 * suc g.size
  unfolding below
  gate-count =
      let a : length (chosen_gates listed cells g) ≤ 2 * length (gate_nets cells g) =
      le_trans (le_of_eq (ap length (gates_are listed cells g))) (length-each (gates_at listed cells g) (λ l. few-length l (gates_at listed cells g l) (few-at l)) (gate_nets cells g)) in
      let b : length (gate_nets cells g) ≤ 2 * suc g.size = le_trans (length-keep _ (below (2 * suc g.size))) (le_of_eq (length_from (2 * suc g.size) 0)) in
      omega arith

  -- "Gates number at most 2(M+1)": a listed cell is one gate
  pub gate-count-listed : cells ≡ listed → length (chosen_gates listed cells g) ≤ 2 * suc g.size
  unfolding below
  gate-count-listed e =
      let b : length (gate_nets cells g) ≤ 2 * suc g.size = le_trans (length-keep _ (below (2 * suc g.size)))
      (le_of_eq (length_from (2 * suc g.size) 0)) in
      omega (
        arith,
        le_trans (le_of_eq (ap length (gates_are listed cells g))) (length-each-one (gates_at listed cells g) (gate_nets cells g)
            (λ l m. let h : number_at cells g l < length cells = (of_cell listed cells fit g ok present-outputs l
            (net_out listed cells fit g ok present-outputs l m)).has_number in let q : length cells ≡ length listed = ap length e in le_of_eq
            (ap length (gates_single listed (number_at cells g l) (fed_at cells g l) l (omega arith))))),
      )

  -- what the lines drive
  unfoldable pub gate_labels : List (List ℕ)
  gate_labels = map label (each (λ (l : ℕ). nets_of (gates_at listed cells g l)) (gate_nets cells g))

  pub driven-nets : map drives (map line_of (chosen_gates listed cells g)) ≡ gate_labels
  unfolding gate_labels
  driven-nets = cc (
    map-map drives line_of (chosen_gates listed cells g),
    map_same (λ (u : Gate). drives (line_of u))
        (λ (u : Gate). label u.net) (chosen_gates listed cells g)
        (λ u m. (line-bound listed cells fit g ok present-outputs u m).is_driven),
    map-map label (λ (u : Gate). u.net)
        (chosen_gates listed cells g),
    gates_are listed cells g,
    map_each (λ (u : Gate). u.net) (gates_at listed cells g) (gate_nets cells g),
  )

  driven_are : driven_nets (blif_of g (chosen_gates listed cells g)) ≡ input_names g ++ (gate_labels ++ output_names g)
  unfolding driven_nets blif_of
  driven_are = ap₂ (λ (xs ys : List (List ℕ)). input_names g ++ (xs ++ ys)) driven-nets (wire-targets g.outputs)

  -- what a gate drives is driven
  pub gate-driven : (t : Gate) → Memᴰ t (chosen_gates listed cells g) → Memᴰ (label t.net) (map drives (map line_of (chosen_gates listed cells g)))
  gate-driven t m = Memᴰ-cast (sym (line-bound listed cells fit g ok present-outputs t m).is_driven) (map_in drives (map_in line_of m))

  pub phase-driven : (l : ℕ) → Gates listed cells fit g ok present-outputs l → Memᴰ (net_name l) (map drives (map line_of (chosen_gates listed cells g)))
  unfolding label
  phase-driven l h =
      let t = few-has l (gates_at listed cells g l) (few-at l) in
      Memᴰ-cast (ap label (sym t.2)) (gate-driven t.0 (gate_in_lem listed cells fit g ok present-outputs l h t.0 t.1))

  among-driven : (net : List ℕ) → Memᴰ net (map drives (map line_of (chosen_gates listed cells g))) → Memᴰ net (driven_nets (blif_of g (chosen_gates listed cells g)))
  unfolding driven_nets blif_of
  among-driven net m = Memᴰ-append_right (input_names g) (Memᴰ-append_left (map (λ (x : Wire). x.target) (wires_from 0 g.outputs)) m)

  -- a needed phase's net is driven
  pub needed-driven : (l : ℕ) → NeedsOf cells g l → Memᴰ (net_name l) (driven_nets (blif_of g (chosen_gates listed cells g)))
  unfolding driven_nets blif_of
  needed-driven l n = by_bool (is_input_source (source_of cells g l)) (λ e. let o = own-source listed cells fit g ok present-outputs l n e in
      Memᴰ-append_left (map drives (map line_of (chosen_gates listed cells g)) ++ map (λ (x : Wire). x.target) (wires_from 0 g.outputs))
      (Memᴰ-cast (ap net_name (sym (own_value listed cells fit g ok present-outputs (λ u. false) l o).0))
      (map_in (λ (v : ℕ). net_name (literal false v)) o.is_input)))
      (λ q. among-driven (net_name l) (phase-driven l (record { needs = n; not_input_source = q })))

  -- the phase of a net that a gate drives
  net-at : (n : Net) → Memᴰ n (each (λ (l : ℕ). nets_of (gates_at listed cells g l)) (gate_nets cells g)) → Gates listed cells fit g ok present-outputs (key_of n)
  net-at n m =
      let o = each_out (λ (l : ℕ). nets_of (gates_at listed cells g l)) (gate_nets cells g) m in
      subst (Gates listed cells fit g ok present-outputs) (sym (few-key o.0 (gates_at listed cells g o.0) (few-at o.0) n o.2))
      (net_out listed cells fit g ok present-outputs o.0 o.1)

  -- a phase whose net a gate drives becomes gates
  pub driven-phase : (l : ℕ) → Memᴰ (net_name l) (map drives (map line_of (chosen_gates listed cells g))) → Gates listed cells fit g ok present-outputs l
  unfolding gate_labels key_of label
  driven-phase l m =
      let o = map_out label (each (λ (x : ℕ). nets_of (gates_at listed cells g x)) (gate_nets cells g)) (subst (λ (xs : List (List ℕ)). Memᴰ (net_name l) xs) driven-nets m) in
      subst (Gates listed cells fit g ok present-outputs) (ap key_of (sym (label-once (of_phase l) o.0 o.2))) (net-at o.0 o.1)

  labels_once : Distinct gate_labels
  unfolding gate_labels
  labels_once =
      map-distinct label (each (λ (l : ℕ). nets_of (gates_at listed cells g l)) (gate_nets cells g)) label-once
      (each-distinct (λ (l : ℕ). nets_of (gates_at listed cells g l)) (λ l. few-distinct l (gates_at listed cells g l) (few-at l)) (λ l. few-key l (gates_at listed cells g l) (few-at l))
      (gate_nets cells g) (keep-distinct _ (below (2 * suc g.size)) (below-distinct (2 * suc g.size))))

  -- no two gates drive one net
  pub gates-once : Distinct (map drives (map line_of (chosen_gates listed cells g)))
  gates-once = subst Distinct (sym driven-nets) labels_once

  driven-once : Distinct (driven_nets (blif_of g (chosen_gates listed cells g)))
  unfolding gate_labels label key_of is_input_source
  driven-once =
      rw driven_are (append_distinct (input_names g) (gate_labels ++ output_names g) (map-distinct (λ (v : ℕ). net_name (literal false v))
      g.inputs (λ x y e. sym (lit_var false x) ∙ ap var_of (net-once (literal false x) (literal false y) e) ∙ lit_var false y)
      (distinct-once (0 ∷ g.inputs) (map (λ (a : And). a.var) g.ands) ok.defined).1) (append_distinct gate_labels
      (output_names g) labels_once (map-distinct out_name (below (length g.outputs)) out_once (below-distinct (length g.outputs)))
      (λ x m. no_output_lem x (net_of_lem (map_out label (each (λ (l : ℕ). nets_of (gates_at listed cells g l)) (gate_nets cells g)) m))))
      (λ x m n. both x m (Memᴰ-append_cases gate_labels n)))
    where
      net_of_lem : {x : List ℕ} → (n : Net) × Memᴰ n (each (λ (l : ℕ). nets_of (gates_at listed cells g l)) (gate_nets cells g)) × (x ≡ label n) → (n : Net) × (x ≡ label n)
      net_of_lem o = (o.0, o.2)

      no_output_lem : (x : List ℕ) → (n : Net) × (x ≡ label n) → ¬ Memᴰ x (output_names g)
      no_output_lem x o n = let k = map_out out_name (below (length g.outputs)) n in out_label k.0 o.0 (sym k.2 ∙ o.1)

      apart : (x : List ℕ) → Memᴰ x (input_names g) → ¬ Memᴰ x gate_labels
      apart x m n =
          let i = map_out (λ (v : ℕ). net_name (literal false v)) g.inputs m in
          let o = map_out label (each (λ (l : ℕ). nets_of (gates_at listed cells g l)) (gate_nets cells g)) n in
          let same-net : of_phase (literal false i.0) ≡ o.0 = label-once (of_phase (literal false i.0)) o.0 (sym i.2 ∙ o.2) in
          let is : source_of cells g (key_of o.0) ≡ Input = subst (λ (k : ℕ). source_of cells g k ≡ Input) (ap key_of same-net)
          (own-chosen cells g (order-once g ok) (literal false i.0) (own-net listed cells fit g ok present-outputs i.0 i.1)) in
          true≢false ((sym (ap is_input_source is)) ∙ (net-at o.0 o.1).not_input_source)

      both : (x : List ℕ) → Memᴰ x (input_names g) → ¬ (Memᴰ x gate_labels ⊎ Memᴰ x (output_names g))
      both x m (inl n) = apart x m n
      both x m (inr n) = let i = map_out (λ (v : ℕ). net_name (literal false v)) g.inputs m in no_output_lem x (of_phase (literal false i.0), i.2) n

  pub well_formed : (f : Figures) → Formed listed cells g f (blif_of g (chosen_gates listed cells g))
  unfolding blif_of gate_labels label
  well_formed f = record {
    inputs = refl;
    outputs = refl;
    targets = wire-targets g.outputs;
    sources = wire-sources g.outputs;
    of_cells = λ t m. of_line t (map_out line_of (chosen_gates listed cells g) m);
    nets = λ net m. is-net net (Memᴰ-append_cases (input_names g) (subst (λ (xs : List (List ℕ)). Memᴰ net (input_names g ++ xs)) driven-nets m));
    once = driven-once;
    driven = λ net m. used net (Memᴰ-append_cases (output_names g) m);
  }
    where
      of_line : (t : GateLine) → (u : Gate) × Memᴰ u (chosen_gates listed cells g) × (t ≡ line_of u)
          → (c : Cell) × Memᴰ c listed × (name_of c ≡ t.cell) × (map (λ (b : Binding). b.pin) t.bindings ≡ pin_names c.pins ++ (output_name ∷ []))
      of_line t o =
          let r = gate_out listed cells fit g ok present-outputs o.0 o.1 in
          let b = of_gates_lem listed cells fit g ok present-outputs r.at r.gates o.0 r.is_gate in (
            o.0.cell,
            b.is_listed,
            (unfold line_of in ap (λ (x : GateLine). x.cell) (sym o.2)),
            ap (λ (x : GateLine). map (λ (p : Binding). p.pin) x.bindings) o.2 ∙ b.bound.is_bound,
          )

      named-net : (net : List ℕ) (n : Net) → net ≡ label n → (l : ℕ) × ((net ≡ net_name l) ⊎ (net ≡ 115 ∷ net_name l))
      named-net net (of_phase l) e = (l, inl e)
      named-net net (of_pair l) e = (l, inr e)

      is-net : (net : List ℕ) → Memᴰ net (input_names g) ⊎ Memᴰ net gate_labels → (l : ℕ) × ((net ≡ net_name l) ⊎ (net ≡ 115 ∷ net_name l))
      is-net net (inl m) = let o = map_out (λ (v : ℕ). net_name (literal false v)) g.inputs m in (literal false o.0, inl o.2)
      is-net net (inr m) = let o = map_out label (each (λ (l : ℕ). nets_of (gates_at listed cells g l)) (gate_nets cells g)) m in named-net net o.0 o.2

      -- a net at a gate's pin is a fed phase's, or the one inside the pair, which the inner gate drives
      pin-driven : (l : ℕ) → Gates listed cells fit g ok present-outputs l → (n : Net) → Memᴰ n (map of_phase (fed_at cells g l)) ⊎ ((n ≡ of_pair l) × Memᴰ n (nets_of (gates_at listed cells g l)))
          → Memᴰ (label n) (driven_nets (blif_of g (chosen_gates listed cells g)))
      pin-driven l h n (inl m) =
          let x = map_out of_phase (fed_at cells g l) m in
          Memᴰ-cast (ap label x.2) (needed-driven x.0 (fed h.needs x.1))
      pin-driven l h n (inr m) =
          let t = map_out (λ (u : Gate). u.net) (gates_at listed cells g l) m.1 in
          Memᴰ-cast (ap label t.2) (among-driven (label t.0.net) (gate-driven t.0 (gate_in_lem listed cells fit g ok present-outputs l h t.0 t.1)))

      inner : (net : List ℕ) → Memᴰ net (each (fed_by listed) (map line_of (chosen_gates listed cells g))) ⊎ Memᴰ net (map (λ (x : Wire). x.source) (wires_from 0 g.outputs))
          → Memᴰ net (driven_nets (blif_of g (chosen_gates listed cells g)))
      inner net (inr m) =
          let o = map_out net_name g.outputs (subst (λ (xs : List (List ℕ)). Memᴰ net xs) (wire-sources g.outputs) m) in
          Memᴰ-cast o.2 (needed-driven o.0 (output o.1))
      inner net (inl m) =
          let t = each_out (fed_by listed) (map line_of (chosen_gates listed cells g)) m in
          let u = map_out line_of (chosen_gates listed cells g) t.1 in
          let r = gate_out listed cells fit g ok present-outputs u.0 u.1 in
          let b = of_gates_lem listed cells fit g ok present-outputs r.at r.gates u.0 r.is_gate in
          let x = map_out label u.0.pins (subst (λ (nets : List (List ℕ)). Memᴰ net nets) (ap (fed_by listed) u.2 ∙ b.bound.is_fed) t.2) in
          Memᴰ-cast x.2 (pin-driven r.at r.gates x.0 (b.pins x.0 x.1))

      used : (net : List ℕ) → Memᴰ net (output_names g) ⊎ Memᴰ net (each (fed_by listed) (map line_of (chosen_gates listed cells g)) ++ map (λ (x : Wire). x.source) (wires_from 0 g.outputs))
          → Memᴰ net (driven_nets (blif_of g (chosen_gates listed cells g)))
      used net (inl m) = rw driven_are (Memᴰ-append_right (input_names g) (Memᴰ-append_right gate_labels m))
      used net (inr m) = inner net (Memᴰ-append_cases (each (fed_by listed) (map line_of (chosen_gates listed cells g))) m)
