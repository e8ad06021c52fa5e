-- All moves of a certificate: its gates are of listed cells, and each output's net has the output's value and its own arrivals.
use Rattle.base.specs.{ℕ, ◌<◌, arith, ◌≡◌, refl, sym, ◌∙◌, ap, ap₂, subst, Bool, false, ◌&&◌, Some, List, [], ◌∷◌, ◌++◌, map, Memᴰ, Memᴰ-head}
use Rattle.base.specs.{Memᴰ-tail, ⊎_elim, Memᴰ-not-nil, Memᴰ-append_cases, Memᴰ-eq_of_singleton, Memᴰ-append_left, eqb, leb, eqb→eq}
use Rattle.base.specs.{length, get_or, set, and_yes}
use Rattle.model.specs.{and_then, only, literal, literal_value, GraphValues}
use Rattle.model.specs.Graph.{Graph}
use Rattle.model.specs.declared.Cell.{Cell}
use Rattle.theory_graph.proofs.{map-map, map_same}
use Rattle.theory_text.proofs.{only_out, then_out}
use Rattle.certificate_model.specs.declared.Row.{Row}
use Rattle.certificate_model.specs.{Made, Move, Outcome, HasCapacity, State, at, certify, made_of, move, out_row, out_rows, push_fact, row, run, start, started, with_gate}
use Rattle.certificate_model.specs.{with_input}
use Rattle.theory_certificate.proofs.Steps.{Step, added, aliased, at_in, fact_pushed, folded, joined, move_step, opened, pinned, repeated, some-once}
use Rattle.theory_certificate.proofs.Steps.{stated, with_facts}
use Rattle.theory_certificate.proofs.Sound.{Obeys, Right, Timed, all_snoc, step_right}

-- ---- the gates

abbrev pub Listed : List Cell → Made → Type 0
Listed cells x = x.gate.b < length cells

-- a move adds a gate, or none
data Gained (cells : List Cell) (s t : State) : Type 0 where
  nothing : s.gates ≡ t.gates → Gained cells s t
  gate : (x : Made) → Listed cells x → s.gates ++ (x ∷ []) ≡ t.gates → Gained cells s t

abbrev gates_of : State → List Made
gates_of s = s.gates

step_gains : (cells : List Cell) (g : Graph) (s t : State) → Step cells g s t → Gained cells s t
unfolding with_gate made_of row
step_gains cells g s t (opened x q) = nothing (ap gates_of q)
step_gains cells g s t (joined x a b m ta tb q) = nothing (ap gates_of q)
step_gains cells g s t (aliased e a m h q) = nothing (ap gates_of q)
step_gains cells g s t (pinned e a m h q) = nothing (ap gates_of q)
step_gains cells g s t (added line n f e listed new fed drives q) = gate (made_of n line f) listed (ap gates_of q)
step_gains cells g s t (repeated x f e m fed same drives q) = nothing (ap gates_of q)
step_gains cells g s t (stated e l a m h same q) = nothing (ap gates_of q)
step_gains cells g s t (folded e l a m h same q) = nothing (ap gates_of q)

gains_kept : (cells : List Cell) (s t : State) → Gained cells s t → (x : Made) → Memᴰ x s.gates → Memᴰ x t.gates
gains_kept cells s t (nothing e) x m = subst (λ (xs : List Made). Memᴰ x xs) e m
gains_kept cells s t (gate y h e) x m = subst (λ (xs : List Made). Memᴰ x xs) e (Memᴰ-append_left (y ∷ []) m)

gains_listed : (cells : List Cell) (s t : State) → Gained cells s t → ((x : Made) → Memᴰ x s.gates → Listed cells x) → (x : Made) → Memᴰ x t.gates → Listed cells x
gains_listed cells s t (nothing e) so x m = so x (subst (λ (xs : List Made). Memᴰ x xs) (sym e) m)
gains_listed cells s t (gate y h e) so x m =
    ⊎_elim (so x) (λ i. subst (Listed cells) (sym (Memᴰ-eq_of_singleton i)) h) (Memᴰ-append_cases s.gates (subst (λ (xs : List Made). Memᴰ x xs) (sym e) m))

-- ---- all moves

module _ (capacity : HasCapacity) (cells : List Cell) (g : Graph) where
  run-kept : (ms : List Move) (s t : State) → run capacity cells g s ms ≡ Some t → (x : Made) → Memᴰ x s.gates → Memᴰ x t.gates
  unfolding run
  run-kept [] s t e x m = subst (λ (y : State). Memᴰ x y.gates) (some-once e) m
  run-kept (k ∷ ms) s t e x m =
      let o = then_out (move capacity cells g s k) (λ y. run capacity cells g y ms) t e in
      run-kept ms o.0 t o.2 x (gains_kept cells s o.0 (step_gains cells g s o.0 (move_step capacity cells g s o.0 k o.1)) x m)

  pub run-listed : (ms : List Move) (s t : State) → run capacity cells g s ms ≡ Some t → ((x : Made) → Memᴰ x s.gates → Listed cells x)
      → (x : Made) → Memᴰ x t.gates → Listed cells x
  unfolding run
  run-listed [] s t e so x m = so x (subst (λ (y : State). Memᴰ x y.gates) (sym (some-once e)) m)
  run-listed (k ∷ ms) s t e so x m =
      let o = then_out (move capacity cells g s k) (λ y. run capacity cells g y ms) t e in
      run-listed ms o.0 t o.2 (gains_listed cells s o.0 (step_gains cells g s o.0 (move_step capacity cells g s o.0 k o.1)) so) x m

  run-right : (assignment v : ℕ → Bool) → GraphValues g assignment v → (w : ℕ → Bool) (high low : ℕ → ℕ) (ms : List Move) (s t : State) → Right v w high low s
      → run capacity cells g s ms ≡ Some t → ((x : Made) → Memᴰ x t.gates → Obeys cells w high low x) → Right v w high low t
  unfolding run
  run-right assignment v is_value w high low [] s t so e rules = subst (Right v w high low) (some-once e) so
  run-right assignment v is_value w high low (k ∷ ms) s t so e rules =
      let o = then_out (move capacity cells g s k) (λ y. run capacity cells g y ms) t e in
      run-right assignment v is_value w high low ms o.0 t (step_right g assignment v is_value w high low cells s o.0 so (move_step capacity cells g s o.0 k o.1)
      (λ x m. rules x (run-kept ms o.0 t o.2 x m))) o.2 rules

-- ---- the inputs

-- an input's own net was driven by nothing, and is now, and is known
abbrev pub input_state : (ℕ → ℕ) → State → ℕ → State
input_state input_arrival s u = record {
  vars = s.vars;
  nets = s.nets;
  facts = s.facts ++ (row (literal false u) (literal false u) (input_arrival u) (input_arrival u) ∷ []);
  equals = s.equals;
  gates = s.gates;
  driven = set s.driven (literal false u) 1;
}

pub input-step : (capacity : HasCapacity) (input_arrival : ℕ → ℕ) (s : State) (u : ℕ) (t : State) → with_input capacity input_arrival s u ≡ Some t
    → (get_or s.driven (literal false u) 1 ≡ 0) × (input_state input_arrival s u ≡ t)
unfolding with_input
input-step capacity input_arrival s u t q =
    let n : ℕ = literal false u in
    let e : Row = row n n (input_arrival u) (input_arrival u) in
    let r : State = record { vars = s.vars; nets = s.nets; facts = s.facts; equals = s.equals; gates = s.gates; driven = set s.driven n 1 } in
    let o = then_out (only (eqb (get_or s.driven n 1) 0 && leb (input_arrival u) 4294967295) e) (push_fact capacity r) t q in
    let h = only_out (eqb (get_or s.driven n 1) 0 && leb (input_arrival u) 4294967295) e o.0 o.1 in (
      eqb→eq (get_or s.driven n 1) 0 (and_yes (eqb (get_or s.driven n 1) 0) (leb (input_arrival u) 4294967295) h.0).0,
      ap (λ (x : Row). with_facts r (s.facts ++ (x ∷ []))) h.1 ∙ fact_pushed capacity r o.0 t o.2,
    )

-- an input's net has the input's value and arrivals
pub record Given (v w : ℕ → Bool) (input_arrival high low : ℕ → ℕ) (u : ℕ) : Type 0 where
  pub value : w (literal false u) ≡ literal_value v (literal false u)
  pub highest : input_arrival u ≡ high (literal false u)
  pub lowest : input_arrival u ≡ low (literal false u)

module _ (capacity : HasCapacity) (input_arrival : ℕ → ℕ) (v w : ℕ → Bool) (high low : ℕ → ℕ) where
  started-right : (us : List ℕ) (s t : State) → started capacity input_arrival s us ≡ Some t → ((u : ℕ) → Memᴰ u us → Given v w input_arrival high low u)
      → Right v w high low s → Right v w high low t
  unfolding started row
  started-right [] s t e h so = subst (Right v w high low) (some-once e) so
  started-right (u ∷ us) s t e h so =
      let o = then_out (with_input capacity input_arrival s u) (λ y. started capacity input_arrival y us) t e in
      started-right us o.0 t o.2 (λ x m. h x (Memᴰ-tail m)) (subst (Right v w high low) (input-step capacity input_arrival s u o.0 o.1).1 (now (h u (Memᴰ-head refl))))
    where
      now : Given v w input_arrival high low u → Right v w high low (input_state input_arrival s u)
      now q = record {
        at = so.at;
        small = so.small;
        vars = so.vars;
        nets = so.nets;
        facts = all_snoc (λ x. (w x.a ≡ literal_value v x.b) × Timed high low x) s.facts
            (row (literal false u) (literal false u) (input_arrival u) (input_arrival u)) so.facts (q.value, (q.highest, q.lowest));
        equals = so.equals;
      }

started-gates : (capacity : HasCapacity) (input_arrival : ℕ → ℕ) (us : List ℕ) (s t : State) → started capacity input_arrival s us ≡ Some t → s.gates ≡ t.gates
unfolding started
started-gates capacity input_arrival [] s t e = ap gates_of (some-once e)
started-gates capacity input_arrival (u ∷ us) s t e =
    let o = then_out (with_input capacity input_arrival s u) (λ y. started capacity input_arrival y us) t e in
    ap gates_of (input-step capacity input_arrival s u o.0 o.1).1 ∙ started-gates capacity input_arrival us o.0 t o.2

-- ---- the outputs

pub record OutRows (facts : List Row) (ls : List ℕ) (es : List Row) : Type 0 where
  pub known : (e : Row) → Memᴰ e es → Memᴰ e facts
  pub are : map (λ (e : Row). e.b) es ≡ ls

pub out_rows_lem : (facts : List Row) (is ls : List ℕ) (es : List Row) → out_rows facts is ls ≡ Some es → OutRows facts ls es
unfolding out_rows out_row
out_rows_lem facts [] [] es e = subst (OutRows facts []) (some-once e) (record { known = λ x m. absurd (Memᴰ-not-nil m); are = refl })
out_rows_lem facts [] (l ∷ ls) es e = absurd (let z : ◌≡◌ {A = ℕ} 0 1 = cc in omega arith)
out_rows_lem facts (i ∷ is) [] es e = absurd (let z : ◌≡◌ {A = ℕ} 0 1 = cc in omega arith)
out_rows_lem facts (i ∷ is) (l ∷ ls) es e =
    let o = then_out (out_row facts i l) (λ x. and_then (out_rows facts is ls) (λ xs. Some (x ∷ xs))) es e in
    let p = then_out (out_rows facts is ls) (λ xs. Some (o.0 ∷ xs)) es o.2 in
    let q = then_out (at facts i) (λ x. only (eqb x.b l) x) o.0 o.1 in
    let h = only_out (eqb q.0.b l) q.0 o.0 q.2 in
    let rest = out_rows_lem facts is ls p.0 p.1 in
    subst (OutRows facts (l ∷ ls)) (some-once p.2) (record {
      known = first (subst (λ (x : Row). Memᴰ x facts) h.1 (at_in facts i q.0 q.1)) rest.known;
      are = ap₂ (λ (n : ℕ) (ns : List ℕ). n ∷ ns) (ap (λ (x : Row). x.b) (sym h.1) ∙ eqb→eq q.0.b l h.0) rest.are;
    })
  where
    first : {x : Row} {xs : List Row} → Memᴰ x facts → ((y : Row) → Memᴰ y xs → Memᴰ y facts) → (y : Row) → Memᴰ y (x ∷ xs) → Memᴰ y facts
    first a later y (Memᴰ-head e) = subst (λ (z : Row). Memᴰ z facts) (sym e) a
    first a later y (Memᴰ-tail m) = later y m

-- ---- a certificate whole

-- what was made of a certificate, part by part
pub record Certified (nets : ℕ) (capacity : HasCapacity) (cells : List Cell) (g : Graph) (ms : List Move) (is : List ℕ) (o : Outcome) : Type 0 where
  pub first : State
  pub last : State
  pub starts : started capacity g.input_arrival (start nets) g.inputs ≡ Some first
  pub runs : run capacity cells g first ms ≡ Some last
  pub outs : OutRows last.facts g.outputs o.outs
  pub gates : last.gates ≡ o.gates

pub certified : (nets : ℕ) (capacity : HasCapacity) (cells : List Cell) (g : Graph) (ms : List Move) (is : List ℕ) (o : Outcome) → certify nets capacity cells g ms is ≡ Some o
    → Certified nets capacity cells g ms is o
unfolding certify
certified nets capacity cells g ms is o e =
    let a = then_out (started capacity g.input_arrival (start nets) g.inputs) (λ s. and_then (run capacity cells g s ms) (λ t. and_then (out_rows t.facts is g.outputs) (λ es. Some (record { gates = t.gates; outs = es })))) o e in
    let b = then_out (run capacity cells g a.0 ms) (λ t. and_then (out_rows t.facts is g.outputs) (λ es. Some (record { gates = t.gates; outs = es }))) o a.2 in
    let c = then_out (out_rows b.0.facts is g.outputs) (λ es. Some (record { gates = b.0.gates; outs = es })) o b.2 in
    let q : record { gates = b.0.gates; outs = c.0 } ≡ o = some-once c.2 in
    record {
      first = a.0;
      last = b.0;
      starts = a.1;
      runs = b.1;
      outs = subst (OutRows b.0.facts g.outputs) (ap (λ (x : Outcome). x.outs) q) (out_rows_lem b.0.facts is g.outputs c.0 c.1);
      gates = ap (λ (x : Outcome). x.gates) q;
    }

module _ {nets : ℕ} {capacity : HasCapacity} {cells : List Cell} {g : Graph} {ms : List Move} {is : List ℕ} {o : Outcome} (k : Certified nets capacity cells g ms is o) where
  -- every gate is of a listed cell
  pub all_listed : (x : Made) → Memᴰ x o.gates → Listed cells x
  unfolding start
  all_listed x m =
      run-listed capacity cells g ms k.first k.last k.runs (λ y i. absurd (Memᴰ-not-nil (subst (λ (ys : List Made). Memᴰ y ys) (sym (started-gates capacity g.input_arrival g.inputs (start nets) k.first k.starts)) i)))
      x (subst (λ (xs : List Made). Memᴰ x xs) (sym k.gates) m)

  -- of any values and arrivals of the nets that follow the gates
  module _ (assignment v : ℕ → Bool) (is_value : GraphValues g assignment v) (w : ℕ → Bool) (high low : ℕ → ℕ)
      (inputs : (u : ℕ) → Memᴰ u g.inputs → Given v w g.input_arrival high low u) (rules : (x : Made) → Memᴰ x o.gates → Obeys cells w high low x) where
    last-right : Right v w high low k.last
    unfolding start
    last-right = run-right capacity cells g assignment v is_value w high low ms k.first k.last
        (started-right capacity g.input_arrival v w high low g.inputs (start nets) k.first k.starts inputs (record {
          at = 0;
          small = omega arith;
          vars = λ e m. absurd (Memᴰ-not-nil m);
          nets = λ e m. absurd (Memᴰ-not-nil m);
          facts = λ e m. absurd (Memᴰ-not-nil m);
          equals = λ e m. absurd (Memᴰ-not-nil m);
        })) k.runs (λ x m. rules x (subst (λ (xs : List Made). Memᴰ x xs) k.gates m))

    -- each output's net has the output's value
    pub out_values : map w (map (λ (e : Row). e.a) o.outs) ≡ map (literal_value v) g.outputs
    out_values =
        map-map w (λ (e : Row). e.a) o.outs
        ∙ map_same (λ (e : Row). w e.a) (λ (e : Row). literal_value v e.b) o.outs (λ e m. (last-right.facts e (k.outs.known e m)).0)
        ∙ sym (map-map (literal_value v) (λ (e : Row). e.b) o.outs) ∙ ap (map (literal_value v)) k.outs.are

    -- and the arrivals of its row
    pub out_times : (e : Row) → Memᴰ e o.outs → Timed high low e
    out_times e m = (last-right.facts e (k.outs.known e m)).1
