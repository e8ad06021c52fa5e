-- The gates of a certificate stand in order: each pin's net is an input's or was driven before, and no net is driven twice.
use Rattle.base.specs.{ℕ, zero, suc, arith, ◌≡◌, refl, sym, ◌∙◌, ap, subst, ◌⊎◌, inl, inr, ⊎_elim, false, Some, List, [], ◌∷◌, ◌++◌, map, Memᴰ}
use Rattle.base.specs.{Memᴰ-head, Memᴰ-tail, Memᴰ-not-nil, Memᴰ-append_cases, Memᴰ-eq_of_singleton, Memᴰ-append_left, Memᴰ-append_right}
use Rattle.base.specs.{Memᴰ-cast, append_assoc, append-nil, get_or, set}
use Rattle.model.specs.{literal, cell_at}
use Rattle.model.specs.Graph.{Graph}
use Rattle.model.specs.declared.Cell.{Cell}
use Rattle.theory_graph.proofs.{map_in, map_out}
use Rattle.theory_text.proofs.{then_out}
use Rattle.certificate_model.specs.declared.Row.{Row}
use Rattle.certificate_model.specs.declared.Feed.{Feed}
use Rattle.certificate_model.specs.{Made, Move, Outcome, HasCapacity, State, feed_pins, made_of, move, pin_nets, row, run, start, started, with_gate, with_input}
use Rattle.theory_certificate.proofs.Steps.{Fed, Step, added, aliased, folded, joined, move_step, opened, pinned, pins-fed, repeated, rows_of, some-once}
use Rattle.theory_certificate.proofs.Steps.{stated, with_nets}
use Rattle.theory_certificate.proofs.Sound.{all_snoc, net_of, pins_of}
use Rattle.theory_certificate.proofs.Runs.{Certified, input-step, input_state}

-- gates in order behind nets that are driven already
abbrev pub Ordered : List Cell → List ℕ → List Made → Type 0
Ordered cells names [] = Unit {0}
Ordered cells names (x ∷ xs) = ((p : ℕ) → Memᴰ p (pins_of cells x) → Memᴰ p names) × (¬ Memᴰ (net_of x) names) × Ordered cells (net_of x ∷ names) xs

-- a net that is driven already is driven by none of them
pub apart : (cells : List Cell) (names : List ℕ) (xs : List Made) → Ordered cells names xs → (p : ℕ) → Memᴰ p names → ¬ Memᴰ p (map net_of xs)
apart cells names [] o p m i = Memᴰ-not-nil i
apart cells names (x ∷ xs) o p m (Memᴰ-head e) = o.1 (Memᴰ-cast (sym e) m)
apart cells names (x ∷ xs) o p m (Memᴰ-tail i) = apart cells (net_of x ∷ names) xs o.2 p (Memᴰ-tail m) i

-- one gate more at the end
ordered_snoc : (cells : List Cell) (names : List ℕ) (xs : List Made) (y : Made) → Ordered cells names xs
    → ((p : ℕ) → Memᴰ p (pins_of cells y) → Memᴰ p names ⊎ Memᴰ p (map net_of xs))
    → (¬ Memᴰ (net_of y) names) → (¬ Memᴰ (net_of y) (map net_of xs)) → Ordered cells names (xs ++ (y ∷ []))
ordered_snoc cells names [] y o pins a b = ((λ p m. ⊎_elim (λ i. i) (λ i. absurd (Memᴰ-not-nil i)) (pins p m)), a, tt)
ordered_snoc cells names (x ∷ xs) y o pins a b = (
  o.0,
  o.1,
  ordered_snoc cells (net_of x ∷ names) xs y o.2 (λ p m. ⊎_elim (λ i. inl (Memᴰ-tail i)) at (pins p m)) neither (λ i. b (Memᴰ-tail i)),
)
  where
    at : {p : ℕ} → Memᴰ p (map net_of (x ∷ xs)) → Memᴰ p (net_of x ∷ names) ⊎ Memᴰ p (map net_of xs)
    at (Memᴰ-head e) = inl (Memᴰ-head e)
    at (Memᴰ-tail i) = inr i

    neither : ¬ Memᴰ (net_of y) (net_of x ∷ names)
    neither (Memᴰ-head e) = b (Memᴰ-head e)
    neither (Memᴰ-tail m) = a m

-- the pins of gates in order are driven
pub pins_of_lem : (cells : List Cell) (names : List ℕ) (xs : List Made) → Ordered cells names xs → (x : Made) → Memᴰ x xs → (p : ℕ) → Memᴰ p (pins_of cells x)
    → Memᴰ p names ⊎ Memᴰ p (map net_of xs)
pins_of_lem cells names (y ∷ ys) o x (Memᴰ-head e) p m = inl (o.0 p (subst (λ (z : Made). Memᴰ p (pins_of cells z)) e m))
pins_of_lem cells names (y ∷ ys) o x (Memᴰ-tail i) p m = at (pins_of_lem cells (net_of y ∷ names) ys o.2 x i p m)
  where
    at : Memᴰ p (net_of y ∷ names) ⊎ Memᴰ p (map net_of ys) → Memᴰ p names ⊎ Memᴰ p (map net_of (y ∷ ys))
    at (inl (Memᴰ-head e)) = inr (Memᴰ-head e)
    at (inl (Memᴰ-tail j)) = inl j
    at (inr j) = inr (Memᴰ-tail j)
pins_of_lem cells names [] o x x5 p m = elim x5 [ ]

-- ---- marks

-- a net that is unmarked behind a mark was unmarked before, and is another
set_mark : (xs : List ℕ) (n m : ℕ) → get_or (set xs n 1) m 1 ≡ 0 → (get_or xs m 1 ≡ 0) × (¬ (m ≡ n))
set_mark [] n m e = absurd (let q : ◌≡◌ {A = ℕ} 1 0 = e in omega arith)
set_mark (x ∷ xs) zero zero e = absurd (let q : ◌≡◌ {A = ℕ} 1 0 = e in omega arith)
set_mark (x ∷ xs) zero (suc m) e = (e, (λ q. omega arith))
set_mark (x ∷ xs) (suc n) zero e = (e, (λ q. omega arith))
set_mark (x ∷ xs) (suc n) (suc m) e = let r = set_mark xs n m e in (r.0, (λ q. r.1 (let p : suc m ≡ suc n = q in omega arith)))

-- ---- in a state

abbrev pub Driven : List ℕ → List Made → ℕ → Type 0
Driven names xs n = Memᴰ n names ⊎ Memᴰ n (map net_of xs)

pub record Built (cells : List Cell) (names : List ℕ) (s : State) : Type 0 where
  pub order : Ordered cells names s.gates
  pub nets : (e : Row) → Memᴰ e s.nets → Driven names s.gates e.a
  pub facts : (e : Row) → Memᴰ e s.facts → Driven names s.gates e.a
  pub marks : (n : ℕ) → Driven names s.gates n → ¬ (get_or s.driven n 1 ≡ 0)

module _ (cells : List Cell) (g : Graph) (names : List ℕ) where
  abbrev Is : State → Type 0
  Is = Built cells names

  net-built : (s : State) → Is s → (e : Row) → Driven names s.gates e.a → Is (with_nets s (s.nets ++ (e ∷ [])))
  net-built s b e h = record { order = b.order; nets = all_snoc (λ x. Driven names s.gates x.a) s.nets e b.nets h; facts = b.facts; marks = b.marks }

  -- the nets of a gate's pins are driven
  fed-driven : (s : State) → Is s → (x : Made) (f : Feed) → feed_pins f ≡ x.fed → Fed s.nets (cell_at cells x.gate.b).pins f
      → (p : ℕ) → Memᴰ p (pins_of cells x) → Driven names s.gates p
  fed-driven s b x f same fed p m =
      let pins : ℕ = (cell_at cells x.gate.b).pins in
      let e : pin_nets pins x.fed ≡ map (λ (y : Row). y.a) (rows_of pins f) = ap (pin_nets pins) (sym same) ∙ sym (pins-fed pins f) in
      let o = map_out (λ (y : Row). y.a) (rows_of pins f) (subst (λ (ns : List ℕ). Memᴰ p ns) e m) in
      subst (Driven names s.gates) (sym o.2) (b.nets o.0 (fed o.0 o.1))

  gate-built : (s : State) → Is s → (x : Made) (f : Feed) (e : Row) → feed_pins f ≡ x.fed → Fed s.nets (cell_at cells x.gate.b).pins f → get_or s.driven (net_of x) 1 ≡ 0
      → net_of x ≡ e.a → Is (with_nets (with_gate s x) (s.nets ++ (e ∷ [])))
  unfolding with_gate
  gate-built s b x f e same fed new net = record {
    order = ordered_snoc cells names s.gates x b.order (fed-driven s b x f same fed) (λ m. b.marks (net_of x) (inl m) new) (λ m. b.marks (net_of x) (inr m) new);
    nets = all_snoc (λ y. More y.a) s.nets e (λ y m. kept y.a (b.nets y m)) (subst More net last);
    facts = λ y m. kept y.a (b.facts y m);
    marks = λ n d z. let r = set_mark s.driven (net_of x) n z in ⊎_elim (λ i. b.marks n i r.0) r.1 (before n d);
  }
    where
      More : ℕ → Type 0
      More = Driven names (s.gates ++ (x ∷ []))

      kept : (n : ℕ) → Driven names s.gates n → More n
      kept n (inl i) = inl i
      kept n (inr i) = inr (let o = map_out net_of s.gates i in Memᴰ-cast o.2 (map_in net_of (Memᴰ-append_left (x ∷ []) o.1)))

      last : More (net_of x)
      last = inr (map_in net_of (Memᴰ-append_right s.gates (Memᴰ-head {x = x} refl)))

      before : (n : ℕ) → More n → Driven names s.gates n ⊎ (n ≡ net_of x)
      before n (inl i) = inl (inl i)
      before n (inr i) =
          let o = map_out net_of (s.gates ++ (x ∷ [])) i in
          ⊎_elim (λ j. inl (inr (Memᴰ-cast o.2 (map_in net_of j)))) (λ j. inr (o.2 ∙ ap net_of (Memᴰ-eq_of_singleton j)))
          (Memᴰ-append_cases s.gates o.1)

  step-built : (s t : State) → Is s → Step cells g s t → Is t
  unfolding made_of row
  step-built s t b (opened x q) = subst Is q (record { order = b.order; nets = λ e m. absurd (Memᴰ-not-nil m); facts = b.facts; marks = b.marks })
  step-built s t b (joined x a c m ta tb q) = subst Is q (record { order = b.order; nets = b.nets; facts = b.facts; marks = b.marks })
  step-built s t b (aliased e a m h q) = subst Is q (record { order = b.order; nets = b.nets; facts = b.facts; marks = b.marks })
  step-built s t b (pinned e a m h q) = subst Is q (net-built s b (row e.a a e.c e.d) (b.facts e m))
  step-built s t b (added line n f e listed new fed drives q) = subst Is q (gate-built s b (made_of n line f) f e refl fed new drives.is_net)
  step-built s t b (repeated x f e m fed same drives q) = subst Is q (net-built s b e (inr (Memᴰ-cast (sym drives.is_net) (map_in net_of m))))
  step-built s t b (stated e l a m h same q) = subst Is q (record {
    order = b.order;
    nets = b.nets;
    facts = all_snoc (λ x. Driven names s.gates x.a) s.facts (row e.a l e.c e.d) b.facts (b.nets e m);
    marks = b.marks;
  })
  step-built s t b (folded e l a m h same q) = subst Is q (record { order = b.order; nets = b.nets; facts = b.facts; marks = b.marks })

  run-built : (capacity : HasCapacity) (ms : List Move) (s t : State) → Is s → run capacity cells g s ms ≡ Some t → Is t
  unfolding run
  run-built capacity [] s t b e = subst Is (some-once e) b
  run-built capacity (k ∷ ms) s t b e =
      let o = then_out (move capacity cells g s k) (λ y. run capacity cells g y ms) t e in
      run-built capacity ms o.0 t (step-built s o.0 b (move_step capacity cells g s o.0 k o.1)) o.2

-- ---- the start

-- only inputs' nets are driven yet
record Begun (names : List ℕ) (s : State) : Type 0 where
  gates : s.gates ≡ []
  nets : s.nets ≡ []
  facts : (e : Row) → Memᴰ e s.facts → Memᴰ e.a names
  marks : (n : ℕ) → Memᴰ n names → ¬ (get_or s.driven n 1 ≡ 0)

started-begun : (capacity : HasCapacity) (input_arrival : ℕ → ℕ) (us names : List ℕ) (s t : State) → Begun names s → started capacity input_arrival s us ≡ Some t → Begun (names ++ map (literal false) us) t
unfolding started row
started-begun capacity input_arrival [] names s t b e = subst (λ (ns : List ℕ). Begun ns t) (sym (append-nil names)) (subst (Begun names) (some-once e) b)
started-begun capacity input_arrival (u ∷ us) names s t b e =
    let o = then_out (with_input capacity input_arrival s u) (λ y. started capacity input_arrival y us) t e in
    subst (λ (ns : List ℕ). Begun ns t) (append_assoc names (literal false u ∷ []) (map (literal false) us))
    (started-begun capacity input_arrival us (names ++ (literal false u ∷ [])) o.0 t (subst (Begun (names ++ (literal false u ∷ []))) (input-step capacity input_arrival s u o.0 o.1).1 next) o.2)
  where
    n : ℕ
    n = literal false u

    next : Begun (names ++ (literal false u ∷ [])) (input_state input_arrival s u)
    next = record {
      gates = b.gates;
      nets = b.nets;
      facts = all_snoc (λ x. Memᴰ x.a (names ++ (literal false u ∷ []))) s.facts (row (literal false u) (literal false u) (input_arrival u) (input_arrival u))
          (λ x m. Memᴰ-append_left (literal false u ∷ []) (b.facts x m)) (Memᴰ-append_right names (Memᴰ-head refl));
      marks = λ k m z. let r = set_mark s.driven (literal false u) k z in
          ⊎_elim (λ i. b.marks k i r.0) (λ i. r.1 (Memᴰ-eq_of_singleton i)) (Memᴰ-append_cases names m);
    }

abbrev pub own_nets : Graph → List ℕ
own_nets g = map (literal false) g.inputs

-- the gates of a certificate stand in order, and the outputs' nets are driven
pub certified_order : {nets : ℕ} {capacity : HasCapacity} {cells : List Cell} {g : Graph} {ms : List Move} {is : List ℕ} {o : Outcome} → Certified nets capacity cells g ms is o
    → Ordered cells (own_nets g) o.gates × ((e : Row) → Memᴰ e o.outs → Driven (own_nets g) o.gates e.a)
unfolding start
certified_order {nets} {capacity} {cells} {g} {ms} {is} {o} k =
    let none : Begun [] (start nets) = record { gates = refl; nets = refl; facts = λ e m. absurd (Memᴰ-not-nil m); marks = λ n m. absurd (Memᴰ-not-nil m) } in
    let b = started-begun capacity g.input_arrival g.inputs [] (start nets) k.first none k.starts in
    let first : Built cells (own_nets g) k.first = record {
      order = subst (Ordered cells (own_nets g)) (sym b.gates) tt;
      nets = λ e m. absurd (Memᴰ-not-nil (subst (λ (xs : List Row). Memᴰ e xs) b.nets m));
      facts = λ e m. inl (b.facts e m);
      marks = λ n d. ⊎_elim (b.marks n) (λ i. absurd (Memᴰ-not-nil (subst (λ (xs : List Made). Memᴰ n (map net_of xs)) b.gates i))) d;
    } in
    let last = run-built cells g (own_nets g) capacity ms k.first k.last first k.runs in (
      subst (Ordered cells (own_nets g)) k.gates last.order,
      (λ e m. subst (λ (xs : List Made). Driven (own_nets g) xs e.a) k.gates (last.facts e (k.outs.known e m))),
    )
