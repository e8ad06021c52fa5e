-- What moves make known is so: of any values of the graph's variables, and of any values and arrivals of the nets, under any assignment of the inputs.
use Rattle.base.specs.{ℕ, zero, suc, ◌<◌, le_of_suc-le-suc, not-suc-le-zero, arith, ◌≡◌, refl, sym, ◌∙◌, ap, ap₂, subst, Bool, false, ◌&&◌}
use Rattle.base.specs.{List, [], ◌∷◌, ◌++◌, map, Memᴰ, Memᴰ-head, Memᴰ-tail, ⊎_elim, Memᴰ-not-nil, Memᴰ-append_cases}
use Rattle.base.specs.{Memᴰ-eq_of_singleton, Memᴰ-append_right, get_or}
use Rattle.model.specs.{bit, flip, value, row_of, negated, literal_value, tabulate, GraphValues, cell_at, latest}
use Rattle.model.specs.Graph.{Graph}
use Rattle.model.specs.declared.Cell.{Cell}
use Rattle.theory_graph.proofs.{bit_high, bit-low, bit-row, map-map, map_same, one_le}
use Rattle.certificate_model.specs.declared.Row.{Row}
use Rattle.certificate_model.specs.declared.Feed.{Feed}
use Rattle.certificate_model.specs.{Made, State, block_vars, conj, feed_pins, gate_table, leaf_table, made_of, phased, pin_nets, row}
use Rattle.certificate_model.specs.{at, with_gate}
use Rattle.theory_certificate.proofs.Steps.{Drives, Fed, Step, Tabled, added, aliased, folded, in_block, joined, opened}
use Rattle.theory_certificate.proofs.Steps.{pinned, pins-fed, repeated, rows_of, stated, with_facts, with_nets, with_vars}

-- ---- tables

bit-tabulate : (f : ℕ → Bool) (n r : ℕ) → r < n → bit (tabulate f n) r ≡ f r
unfolding tabulate
bit-tabulate f zero r h = absurd (not-suc-le-zero h)
bit-tabulate f (suc n) zero h = bit-low (f 0) (tabulate (λ q. f (suc q)) n)
bit-tabulate f (suc n) (suc r) h = bit_high (f 0) (tabulate (λ q. f (suc q)) n) r ∙ bit-tabulate (λ q. f (suc q)) n r (le_of_suc-le-suc h)

zero_bit : (r : ℕ) → bit 0 r ≡ false
unfolding bit
zero_bit zero = refl
zero_bit (suc r) = zero_bit r

row_small : (a b c d : Bool) → row_of (a ∷ b ∷ c ∷ d ∷ []) < 16
unfolding row_of
row_small a b c d = omega (arith, one_le a, one_le b, one_le c, one_le d)

-- ---- lists

pub all_snoc : (P : Row → Type 0) (rows : List Row) (e : Row) → ((x : Row) → Memᴰ x rows → P x) → P e → (x : Row) → Memᴰ x (rows ++ (e ∷ [])) → P x
all_snoc P rows e all last x m = ⊎_elim (all x) (λ i. subst P (sym (Memᴰ-eq_of_singleton i)) last) (Memᴰ-append_cases rows m)

-- ---- what is right

-- a gate's net, and the nets of its pins
abbrev pub net_of : Made → ℕ
net_of x = x.gate.a

abbrev pub cell_of : List Cell → Made → Cell
cell_of cells x = cell_at cells x.gate.b

abbrev pub pins_of : List Cell → Made → List ℕ
pins_of cells x = pin_nets (cell_of cells x).pins x.fed

-- the arrivals in a net's row are the net's
abbrev pub Timed : (ℕ → ℕ) → (ℕ → ℕ) → Row → Type 0
Timed high low e = (e.c ≡ high e.a) × (e.d ≡ low e.a)

-- values and arrivals of the nets follow a gate
pub record Obeys (cells : List Cell) (w : ℕ → Bool) (high low : ℕ → ℕ) (x : Made) : Type 0 where
  pub value : w (net_of x) ≡ Rattle.model.specs.value (cell_of cells x).table (row_of (map w (pins_of cells x)))
  pub highest : high (net_of x) ≡ latest (map high (pins_of cells x)) (cell_of cells x).delays
  pub lowest : low (net_of x) ≡ latest (map low (pins_of cells x)) (cell_of cells x).mins

-- the state of the check is right: there is a row of the tables in which they have the values
pub record Right (v w : ℕ → Bool) (high low : ℕ → ℕ) (s : State) : Type 0 where
  pub at : ℕ
  pub small : at < 16
  pub vars : (e : Row) → Memᴰ e s.vars → v e.a ≡ bit e.b at
  pub nets : (e : Row) → Memᴰ e s.nets → (w e.a ≡ bit e.b at) × Timed high low e
  pub facts : (e : Row) → Memᴰ e s.facts → (w e.a ≡ literal_value v e.b) × Timed high low e
  pub equals : (e : Row) → Memᴰ e s.equals → v e.a ≡ literal_value v e.b

module _ (g : Graph) (assignment v : ℕ → Bool) (is_value : GraphValues g assignment v) (w : ℕ → Bool) (high low : ℕ → ℕ) (cells : List Cell) where
  abbrev Is : State → Type 0
  Is = Right v w high low

  -- a literal has its table's value
  lit_value : (s : State) (so : Is s) (l t : ℕ) → Tabled s.vars l t → literal_value v l ≡ bit t so.at
  unfolding literal_value phased
  lit_value s so l t h =
      ap (λ (x : ℕ). flip (negated l) (v x)) (sym h.is_var) ∙ ap (flip (negated l)) (so.vars h.by h.is_in)
      ∙ sym (bit-tabulate (λ r. flip (negated l) (bit h.by.b r)) 16 so.at so.small) ∙ ap (λ (x : ℕ). bit x so.at) h.is_table

  -- the leaves have their tables' values in the row of their values
  block-right : (s : State) → Is s → (x : Row) → Is (in_block s x)
  unfolding block_vars leaf_table row
  block-right s so x = record {
    at = r;
    small = row_small (v x.a) (v x.b) (v x.c) (v x.d);
    vars = leaves;
    nets = λ e m. absurd (Memᴰ-not-nil m);
    facts = so.facts;
    equals = so.equals;
  }
    where
      bs : List Bool
      bs = v x.a ∷ v x.b ∷ v x.c ∷ v x.d ∷ []

      r : ℕ
      r = row_of bs

      leaf : (i : ℕ) → i < 4 → get_or bs i false ≡ bit (leaf_table i) r
      leaf i h = sym (bit-row bs i false h) ∙ sym (bit-tabulate (λ q. bit q i) 16 (row_of bs) (row_small (v x.a) (v x.b) (v x.c) (v x.d)))

      leaves : (e : Row) → Memᴰ e (block_vars x) → v e.a ≡ bit e.b r
      leaves e (Memᴰ-head q) = subst (λ (y : Row). v y.a ≡ bit y.b r) (sym q) (is_value.at_constant ∙ sym (zero_bit r))
      leaves e (Memᴰ-tail (Memᴰ-head q)) = subst (λ (y : Row). v y.a ≡ bit y.b r) (sym q) (leaf 0 (omega arith))
      leaves e (Memᴰ-tail (Memᴰ-tail (Memᴰ-head q))) = subst (λ (y : Row). v y.a ≡ bit y.b r) (sym q) (leaf 1 (omega arith))
      leaves e (Memᴰ-tail (Memᴰ-tail (Memᴰ-tail (Memᴰ-head q)))) = subst (λ (y : Row). v y.a ≡ bit y.b r) (sym q) (leaf 2 (omega arith))
      leaves e (Memᴰ-tail (Memᴰ-tail (Memᴰ-tail (Memᴰ-tail (Memᴰ-head q))))) =
          subst (λ (y : Row). v y.a ≡ bit y.b r) (sym q) (leaf 3 (omega arith))
      leaves e (Memᴰ-tail (Memᴰ-tail (Memᴰ-tail (Memᴰ-tail (Memᴰ-tail m))))) = absurd (Memᴰ-not-nil m)

  var-right : (s : State) (so : Is s) (u t : ℕ) → v u ≡ bit t so.at → Is (with_vars s (s.vars ++ (row u t 0 0 ∷ [])))
  unfolding row
  var-right s so u t h = record {
    at = so.at;
    small = so.small;
    vars = all_snoc (λ e. v e.a ≡ bit e.b so.at) s.vars (row u t 0 0) so.vars h;
    nets = so.nets;
    facts = so.facts;
    equals = so.equals;
  }

  net-right : (s : State) (so : Is s) (e : Row) → w e.a ≡ bit e.b so.at → Timed high low e → Is (with_nets s (s.nets ++ (e ∷ [])))
  net-right s so e h times = record {
    at = so.at;
    small = so.small;
    vars = so.vars;
    nets = all_snoc (λ x. (w x.a ≡ bit x.b so.at) × Timed high low x) s.nets e so.nets (h, times);
    facts = so.facts;
    equals = so.equals;
  }

  fact_right : (s : State) → Is s → (e : Row) → w e.a ≡ literal_value v e.b → Timed high low e → Is (with_facts s (s.facts ++ (e ∷ [])))
  fact_right s so e h times = record {
    at = so.at;
    small = so.small;
    vars = so.vars;
    nets = so.nets;
    facts = all_snoc (λ x. (w x.a ≡ literal_value v x.b) × Timed high low x) s.facts e so.facts (h, times);
    equals = so.equals;
  }

  -- a gate's net has its row's value and arrivals where its pins' nets have theirs
  gate-right : (s : State) (so : Is s) (x : Made) (f : Feed) (e : Row) → Obeys cells w high low x → feed_pins f ≡ x.fed → Fed s.nets (cell_of cells x).pins f
      → Drives (cell_of cells x) (net_of x) f e → (w e.a ≡ bit e.b so.at) × Timed high low e
  unfolding gate_table
  gate-right s so x f e rule same fed drives = (
    ap w (sym drives.is_net) ∙ rule.value
        ∙ ap (λ (bs : List Bool). value c.table (row_of bs)) (by_rows w (λ y. bit y.b so.at) (λ y m. (so.nets y (fed y m)).0) ∙ sym (map-map (λ (t : ℕ). bit t so.at) (λ (y : Row). y.b) rows))
        ∙ sym (bit-tabulate (λ r. value c.table (row_of (map (λ (t : ℕ). bit t r) (map (λ (y : Row). y.b) rows)))) 16 so.at so.small)
        ∙ ap (λ (t : ℕ). bit t so.at) drives.is_table,
    (
      sym (ap high (sym drives.is_net) ∙ rule.highest ∙ ap (λ (ts : List ℕ). latest ts c.delays) (by_rows high (λ y. y.c) (λ y m. sym (so.nets y (fed y m)).1.0)) ∙ drives.is_high),
      sym (ap low (sym drives.is_net) ∙ rule.lowest ∙ ap (λ (ts : List ℕ). latest ts c.mins) (by_rows low (λ y. y.d) (λ y m. sym (so.nets y (fed y m)).1.1)) ∙ drives.is_low),
    ),
  )
    where
      c : Cell
      c = cell_of cells x

      rows : List Row
      rows = rows_of c.pins f

      by_rows : {X : Type 0} (h : ℕ → X) (k : Row → X) → ((y : Row) → Memᴰ y rows → h y.a ≡ k y) → map h (pins_of cells x) ≡ map k rows
      by_rows h k so = ap (λ (y : Row). map h (pin_nets c.pins y)) (sym same) ∙ ap (map h) (sym (pins-fed c.pins f)) ∙ map-map h (λ (y : Row). y.a) rows
          ∙ map_same (λ (y : Row). h y.a) k rows so

  -- a gate that was added changes no row
  kept-right : (s : State) → Is s → (x : Made) → Is (with_gate s x)
  unfolding with_gate
  kept-right s so x = record { at = so.at; small = so.small; vars = so.vars; nets = so.nets; facts = so.facts; equals = so.equals }

  last_made : (s : State) (x : Made) (rows : List Row) → Memᴰ x (with_nets (with_gate s x) rows).gates
  unfolding with_gate
  last_made s x rows = Memᴰ-append_right s.gates (Memᴰ-head refl)

  -- what a move makes known is so
  pub step_right : (s t : State) → Is s → Step cells g s t → ((x : Made) → Memᴰ x t.gates → Obeys cells w high low x) → Is t
  unfolding made_of row with_gate conj kept-right
  step_right s t so (opened x q) rules = subst Is q (block-right s so x)
  step_right s t so (joined x a b m ta tb q) rules =
      subst Is q (var-right s so x.var (conj a b) (is_value.at_ands x m ∙ ap₂ ◌&&◌ (lit_value s so x.left a ta) (lit_value s so x.right b tb) ∙ sym (and-bit a b)))
    where
      and-bit : (a b : ℕ) → bit (conj a b) so.at ≡ (bit a so.at && bit b so.at)
      and-bit a b = bit-tabulate (λ r. bit a r && bit b r) 16 so.at so.small
  step_right s t so (aliased e a m h q) rules = subst Is q (var-right s so e.a a (so.equals e m ∙ lit_value s so e.b a h))
  step_right s t so (pinned e a m h q) rules =
      let f = so.facts e m in
      subst Is q (net-right s so (row e.a a e.c e.d) (f.0 ∙ lit_value s so e.b a h) f.1)
  step_right s t so (added line n f e listed new fed drives q) rules =
      let x : Made = made_of n line f in
      let rule = rules x (subst (λ (y : State). Memᴰ x y.gates) q (last_made s x (s.nets ++ (e ∷ [])))) in
      let h = gate-right s so x f e rule refl fed drives in
      subst Is q (net-right (with_gate s x) (kept-right s so x) e h.0 h.1)
  step_right s t so (repeated x f e m fed same drives q) rules =
      let h = gate-right s so x f e (rules x (subst (λ (y : State). Memᴰ x y.gates) q m)) same fed drives in
      subst Is q (net-right s so e h.0 h.1)
  step_right s t so (stated e l a m h same q) rules =
      let f = so.nets e m in
      subst Is q (fact_right s so (row e.a l e.c e.d) (f.0 ∙ ap (λ (x : ℕ). bit x so.at) same ∙ sym (lit_value s so l a h)) f.1)
  step_right s t so (folded e l a m h same q) rules =
      subst Is q (record {
        at = so.at;
        small = so.small;
        vars = so.vars;
        nets = so.nets;
        facts = so.facts;
        equals = all_snoc (λ x. v x.a ≡ literal_value v x.b) s.equals (row e.a l 0 0) so.equals
            (so.vars e m ∙ ap (λ (x : ℕ). bit x so.at) same ∙ sym (lit_value s so l a h));
      })
