-- A gate computes its phase: a cell matched on a cut has, at the values of its pins' nets, the AIGER value of the phase; so has an inverter.
use Rattle.base.specs.{ℕ, zero, suc, ◌+◌, ◌-◌, ◌*◌, ◌/◌, ◌%◌, ◌^◌, ◌≤◌, ◌<◌, compare, le_refl, le_of_suc-le-suc, not-suc-le-zero, add-zero}
use Rattle.base.specs.{zero-add, suc-add, add-suc, pow-suc, arith, ◌≡◌, refl, sym, ◌∙◌, ap, ap₂, subst, ⊎_elim, Bool, true, false, not}
use Rattle.base.specs.{◌&&◌, beq, List, [], ◌∷◌, map, Memᴰ, Memᴰ-not-nil, Memᴰ-cases_cons, Memᴰ-eq_of_singleton, T}
use Rattle.base.specs.{eqb, eqb→eq, leb, leb→le, ltb, ltb→lt, length, take, get_or, length-map, get_or-map, pow_pos, and_yes, eqb_no}
use Rattle.model.specs.{all, bit, one, flip, below, each, union, find, value, row_of, orders, pin_row, cell_at, is_inverter, Node, constant}
use Rattle.model.specs.{input, undefined, both, node, topological_order, var_of, negated, opposite, literal_value, tabulate, walk, cut_table}
use Rattle.model.specs.{cuts_of, node_cuts, unions, compare_cuts, phase_table, places_fit, rows_agree, fed_nets, match_nets, feeds, IsMatch}
use Rattle.model.specs.{Distinct}
use Rattle.model.specs.Graph.{Graph, span}
use Rattle.model.specs.declared.Cell.{Cell}
use Rattle.model.specs.declared.Match.{Match}
use Rattle.model.specs.declared.Source.TheVariants.{Cell as Matched}
use Rattle.theory_graph.proofs.{all_of, below_in, keep_out, union-only, lit_var, lit_neg, opposite-var, opposite_neg, bit-low, bit_high}
use Rattle.theory_graph.proofs.{one_le, bit-row, along, Valuation, Carry, cuts_known, cuts_entry, cuts-none, cut-value, by_bool}
use Rattle.theory_cover.proofs.Matches.{fits-places, fits-rows, cut_for, cut-listed}

-- ---- bits

-- a table has the values that it is made of
pub bit-tabulate : (f : ℕ → Bool) (n r : ℕ) → r < n → bit (tabulate f n) r ≡ f r
unfolding tabulate
bit-tabulate f zero r h = absurd (not-suc-le-zero h)
bit-tabulate f (suc n) zero h = bit-low (f 0) (tabulate (λ r. f (suc r)) n)
bit-tabulate f (suc n) (suc r) h = bit_high (f 0) (tabulate (λ q. f (suc q)) n) r ∙ bit-tabulate (λ q. f (suc q)) n r (le_of_suc-le-suc h)

pub two_pow : (n : ℕ) → 2 ^ suc n ≡ 2 * 2 ^ n
two_pow n = pow-suc 2 n ∙ (let e : 2 ^ n * 2 ≡ 2 * 2 ^ n = omega arith in e)

pub tabulate-lt : (f : ℕ → Bool) (n : ℕ) → tabulate f n < 2 ^ n
unfolding tabulate
tabulate-lt f zero = le_refl 1
tabulate-lt f (suc n) = omega (arith, one_le (f 0), tabulate-lt (λ r. f (suc r)) n, two_pow n)

-- the complement's bits
bit_complement : (n t r : ℕ) → t < 2 ^ n → r < n → bit (2 ^ n - 1 - t) r ≡ not (bit t r)
unfolding bit
bit_complement zero t r h k = absurd (not-suc-le-zero k)
bit_complement (suc n) t zero h k = go (eqb (t % 2) 1) (eqb→eq (t % 2) 1) eqb_no
  where
    odd : t % 2 ≡ 1 → (2 ^ suc n - 1 - t) % 2 ≡ 0
    odd e = omega (arith, two_pow n)

    even : ¬ (t % 2 ≡ 1) → (2 ^ suc n - 1 - t) % 2 ≡ 1
    even e = omega (arith, two_pow n)

    go : (b : Bool) → (T b → t % 2 ≡ 1) → (T (not b) → ¬ (t % 2 ≡ 1)) → eqb ((2 ^ suc n - 1 - t) % 2) 1 ≡ not b
    go true y m = ap (λ (x : ℕ). eqb x 1) (odd (y tt))
    go false y m = ap (λ (x : ℕ). eqb x 1) (even (m tt))
bit_complement (suc n) t (suc r) h k =
    let small : t / 2 < 2 ^ n = omega (arith, two_pow n) in
    ap (λ (x : ℕ). bit x r) (omega (arith, two_pow n)) ∙ bit_complement n (t / 2) r small (le_of_suc-le-suc k)

-- ---- rows

-- the leaves' values, as a row, are carried
carry_row : (w : ℕ → Bool) (xs : List ℕ) (r i : ℕ) → ((k : ℕ) → k < length xs → bit r (i + k) ≡ w (get_or xs k 0)) → Carry w r i xs
carry_row w [] r i h = tt
carry_row w (x ∷ xs) r i h = (
  ap (bit r) (sym (add-zero i)) ∙ h 0 (omega arith),
  carry_row w xs r (suc i) (λ k q. ap (bit r) (suc-add i k ∙ sym (add-suc i k)) ∙ h (suc k) (omega arith)),
)

pub row_lt : (bs : List Bool) (n : ℕ) → length bs ≤ n → row_of bs < 2 ^ n
unfolding row_of
row_lt [] n h = pow_pos n
row_lt (b ∷ bs) zero h = absurd (not-suc-le-zero h)
row_lt (b ∷ bs) (suc n) h = omega (arith, one_le b, row_lt bs n (le_of_suc-le-suc h), two_pow n)

-- the pins' row is that of the values of their nets
pins-row : (w : ℕ → Bool) (n : ℕ) (places : List ℕ) (mask : ℕ) (cut : List ℕ) (r : ℕ) → ((k : ℕ) → k < length cut → bit r k ≡ w (get_or cut k 0))
    → T (all (λ (p : ℕ). ltb p (length cut)) (take n places)) → row_of (map (literal_value w) (fed_nets n places mask cut)) ≡ pin_row n places mask r
unfolding fed_nets pin_row row_of all literal_value
pins-row w zero places mask cut r h t = refl
pins-row w (suc n) [] mask cut r h t = refl
pins-row w (suc n) (p ∷ ps) mask cut r h t =
    let q = and_yes (ltb p (length cut)) (all (λ (x : ℕ). ltb x (length cut)) (take n ps)) t in
    cc (
      lit_neg (bit mask 0) (get_or cut p 0),
      lit_var (bit mask 0) (get_or cut p 0),
      h p (ltb→lt p (length cut) q.0),
      pins-row w n ps
          (mask / 2) cut r h q.1,
    )

pub beq-eq : (a b : Bool) → T (beq a b) → a ≡ b
beq-eq true true t = refl
beq-eq true false t = absurd t
beq-eq false true t = absurd t
beq-eq false false t = refl

-- ---- a cut has at most four leaves

cut_small : (look : ℕ → List (List ℕ)) (v : ℕ) (k : Node) (c : List ℕ) → Memᴰ c (node_cuts look v k) → length c ≤ 4
unfolding node_cuts unions
cut_small look v constant c m = subst (λ (d : List ℕ). length d ≤ 4) (sym (Memᴰ-eq_of_singleton m)) (omega arith)
cut_small look v input c m = subst (λ (d : List ℕ). length d ≤ 4) (sym (Memᴰ-eq_of_singleton m)) (omega arith)
cut_small look v undefined c m = absurd (Memᴰ-not-nil m)
cut_small look v (both l r) c m = ⊎_elim (λ n. ⊎_elim (λ e. rw e (omega arith)) (λ q. leb→le (length c) 4
    (keep_out (λ (d : List ℕ). leb (length d) 4) (each (λ (d : List ℕ). map (union compare d) (look (var_of r))) (look (var_of l))) q).1)
    (Memᴰ-cases_cons n)) (λ q. absurd (Memᴰ-not-nil q))
    (union-only compare_cuts c ((v ∷ []) ∷ unions (look (var_of l)) (look (var_of r))) [] m)

pub cut-length : (g : Graph) → Distinct (topological_order g) → (v : ℕ) (c : List ℕ) → Memᴰ c (cuts_of g v) → length c ≤ 4
cut-length g once = along (λ v. (c : List ℕ) → Memᴰ c (cuts_of g v) → length c ≤ 4) (topological_order g)
    (λ u h c m. absurd (Memᴰ-not-nil (rw (cuts-none g u h) at m)))
    (λ pre v post e ih c m. cut_small (λ u. find [] u (cuts_known g pre)) v (node g v) c (rw (cuts_entry g pre v post e once) at m))

-- ---- the gate

pub phase-bit : (neg : Bool) (t r : ℕ) → t < 2 ^ 16 → r < 16 → bit (phase_table neg t) r ≡ flip neg (bit t r)
unfolding phase_table flip
phase-bit true t r h k = bit_complement 16 t r h k
phase-bit false t r h k = refl

-- a matched cell computes its phase, whatever its number of pins
pub gate-value : (cells : List Cell) (g : Graph) → Distinct (topological_order g) → (assignment w : ℕ → Bool) → Valuation g assignment w → (l : ℕ) (m : Match) → IsMatch cells g l m
    → value (cell_at cells m.cell).table (row_of (map (literal_value w) (feeds cells (cuts_of g) l (Matched m)))) ≡ literal_value w l
unfolding value feeds match_nets rows_agree places_fit cut_table literal_value
gate-value cells g once assignment w is_value l m k =
    let c = cell_at cells m.cell in
    let places = get_or orders m.order [] in
    let cut = cut_for g l m in
    let f = phase_table (negated l) (cut_table g cut (var_of l)) in
    let r = row_of (map w cut) in
    let r_small = row_lt (map w cut) 4 (omega (arith, length-map cut w, cut-length g once (var_of l) cut (cut-listed cells g l m k))) in
    let carries : (i : ℕ) → i < length cut → bit r i ≡ w (get_or cut i 0) = λ i h.
    (bit-row (map w cut) i (w 0) (omega (arith, length-map cut w)) ∙ get_or-map w cut i 0) in
    cc (
      pins-row w c.pins places m.mask cut r carries
          (fits-places c places m.mask (length cut) f k.agrees),
      beq-eq (bit f r) (bit c.table (pin_row c.pins places m.mask r))
          (all_of (λ (q : ℕ). beq (bit f q) (bit c.table (pin_row c.pins places m.mask q))) (below 16)
          (fits-rows c places m.mask (length cut) f k.agrees) r (below_in 16 r r_small)),
      phase-bit (negated l) (cut_table g cut (var_of l)) r
          (tabulate-lt (λ q. walk (span g) g cut q (var_of l)) 16) r_small,
      bit-tabulate
          (λ q. walk (span g) g cut q (var_of l)) 16 r r_small,
      cut-value g once assignment w is_value (var_of l) cut (cut-listed cells g l m k) r
          (carry_row w cut r 0 (λ i h. ap (bit r) (zero-add i) ∙ carries i h)),
    )

-- "a one-pin cell with table 0001"
pub inverter-pins : (c : Cell) → T (is_inverter c) → c.pins ≡ 1
unfolding is_inverter
inverter-pins c t = eqb→eq c.pins 1 (and_yes (eqb c.pins 1) (eqb c.table 1 && ltb 0 c.len) t).0

inverter-table : (c : Cell) → T (is_inverter c) → c.table ≡ 1
unfolding is_inverter
inverter-table c t = eqb→eq c.table 1 (and_yes (eqb c.table 1) (ltb 0 c.len) (and_yes (eqb c.pins 1) (eqb c.table 1 && ltb 0 c.len) t).1).0

-- an inverter computes its phase
pub inverter-value : (c : Cell) (w : ℕ → Bool) (l : ℕ) → T (is_inverter c) → value c.table (row_of (literal_value w (opposite l) ∷ [])) ≡ literal_value w l
unfolding value bit row_of one flip literal_value
inverter-value c w l t = ap (λ (x : ℕ). bit x (row_of (literal_value w (opposite l) ∷ []))) (inverter-table c t)
    ∙ ap (λ (b : Bool). bit 1 (row_of (b ∷ []))) (ap₂ flip (opposite_neg l) (ap w (opposite-var l))) ∙ by_bool (negated l)
    (λ e. rw e (by_bool (w (var_of l)) (λ q. rw q) (λ p. rw p))) (λ r. rw r (by_bool (w (var_of l)) (λ z. rw z) (λ u. rw u)))
