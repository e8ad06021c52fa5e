-- Names: the library finds a cell by its name again, a gate line of a listed cell binds its nets, and no two nets share a name.
use Rattle.base.specs.{ℕ, zero, suc, ◌+◌, ◌-◌, ◌*◌, ◌/◌, ◌%◌, ◌^◌, ◌≤◌, ◌<◌, le_refl, not-suc-le-zero, arith, ◌≡◌, refl, sym, ◌∙◌, ap, ap₂}
use Rattle.base.specs.{subst, Bool, true, false, not, cond, ◌&&◌, List, [], ◌∷◌, ◌++◌, map, Memᴰ, Memᴰ-head, Memᴰ-tail}
use Rattle.base.specs.{head-eq_of_cons-eq, tail-eq_of_cons-eq, T, eqb, leb, ltb, nltb→le, length, and_yes, ltb_yes, leb_yes, eqb_yes}
use Rattle.model.specs.{all, same, digits, decimal, as_digits, is_name, name_of, var_of, negated, literal, Net, of_phase, of_pair, Gate, net_name}
use Rattle.model.specs.{label, Binding, named, drives, fed_by, pin_names, output_name}
use Rattle.model.specs.declared.Cell.{Cell}
use Rattle.theory_graph.proofs.{same_refl, all_of, lit_whole, by_bool}
use Rattle.theory_graph.specs.{cell_fits, library_fits}
use Rattle.theory_text.proofs.ReadBack.{line_of, line-drives, line-fed, line-pins}

-- ---- the library finds a cell by its name

-- the parts of a library that fits
pub library-first : (c : Cell) (cs : List Cell) → T (library_fits (c ∷ cs)) → T (cell_fits c)
unfolding library_fits
library-first c cs t = (and_yes (cell_fits c) (all (λ (d : Cell). not (same (name_of c) (name_of d))) cs && library_fits cs) t).0

pub library-rest : (c : Cell) (cs : List Cell) → T (library_fits (c ∷ cs)) → T (all (λ (d : Cell). not (same (name_of c) (name_of d))) cs) × T (library_fits cs)
unfolding library_fits
library-rest c cs t = and_yes (all (λ (d : Cell). not (same (name_of c) (name_of d))) cs) (library_fits cs)
    (and_yes (cell_fits c) (all (λ (d : Cell). not (same (name_of c) (name_of d))) cs && library_fits cs) t).1

-- each cell of a library that fits is of the form
pub library-cell : (cells : List Cell) → T (library_fits cells) → (c : Cell) → Memᴰ c cells → T (cell_fits c)
library-cell (d ∷ cs) t c (Memᴰ-head e) = subst (λ (x : Cell). T (cell_fits x)) (sym e) (library-first d cs t)
library-cell (d ∷ cs) t c (Memᴰ-tail m) = library-cell cs (library-rest d cs t).1 c m
library-cell [] t c x'' = elim x'' [ ]

-- what a cell's form says
pub record CellForm (c : Cell) : Type 0 where
  pub is_named : T (is_name (name_of c))
  pub few_pins : c.pins ≤ 4
  pub in_table : c.table < 2 ^ 2 ^ c.pins
  pub four_delays : length c.delays ≡ 4

pub cell_form : (c : Cell) → T (cell_fits c) → CellForm c
unfolding cell_fits
cell_form c t =
    let p = and_yes (is_name (name_of c)) (leb c.pins 4 && (ltb c.table (2 ^ 2 ^ c.pins) && eqb (length c.delays) 4)) t in
    let q = and_yes (leb c.pins 4) (ltb c.table (2 ^ 2 ^ c.pins) && eqb (length c.delays) 4) p.1 in
    let r = and_yes (ltb c.table (2 ^ 2 ^ c.pins)) (eqb (length c.delays) 4) q.1 in
    record { is_named = p.0; few_pins = leb_yes q.0; in_table = ltb_yes r.0; four_delays = eqb_yes r.1 }

-- the library finds a cell by its name
pub named-cell : (cells : List Cell) → T (library_fits cells) → (c : Cell) → Memᴰ c cells → named cells (name_of c) ≡ c
unfolding named
named-cell (d ∷ cs) t c (Memᴰ-head e) = by_bool (same (name_of d) (name_of c)) (λ q. rw q (sym e))
    (λ p. rw p (absurd (rw p at (subst (λ (x : Cell). T (same (name_of d) (name_of x))) (sym e) (same_refl (name_of d))))))
named-cell (d ∷ cs) t c (Memᴰ-tail m) = by_bool (same (name_of d) (name_of c))
    (λ e. rw e (absurd (rw e at (all_of (λ (x : Cell). not (same (name_of d) (name_of x))) cs (library-rest d cs t).0 c m))))
    (λ q. rw q (named-cell cs (library-rest d cs t).1 c m))
named-cell [] t c x'' = elim x'' [ ]

-- ---- the line of a gate whose cell is listed, with as many nets as the cell has pins

pub record Bound (cells : List Cell) (t : Gate) : Type 0 where
  pub is_named : T (is_name (name_of t.cell))
  pub is_cell : named cells (line_of t).cell ≡ t.cell
  pub is_driven : drives (line_of t) ≡ label t.net
  pub is_fed : fed_by cells (line_of t) ≡ map label t.pins
  pub is_bound : map (λ (p : Binding). p.pin) (line_of t).bindings ≡ pin_names t.cell.pins ++ (output_name ∷ [])

pub gate-bound : (cells : List Cell) → T (library_fits cells) → (t : Gate) → Memᴰ t.cell cells → length t.pins ≡ t.cell.pins → Bound cells t
unfolding line_of
gate-bound cells fit t m n =
    let form = cell_form t.cell (library-cell cells fit t.cell m) in
    let found = named-cell cells fit t.cell m in
    record {
      is_named = form.is_named;
      is_cell = found;
      is_driven = line-drives t (omega (arith, form.few_pins));
      is_fed = line-fed cells t found (sym n);
      is_bound = line-pins t ∙ ap (λ (k : ℕ). pin_names k ++ (output_name ∷ [])) n;
    }

-- ---- a net's name

-- the number that digits stand for
digits_value : (fuel n : ℕ) (after : List ℕ) → n < fuel → as_digits 0 (digits fuel n after) ≡ as_digits n after
unfolding digits as_digits
digits_value zero n after h = absurd (not-suc-le-zero h)
digits_value (suc fuel) n after h = go (ltb n 10) (nltb→le n 10) (digits_value fuel (n / 10) ((48 + n % 10) ∷ after))
  where
    small : 0 * 10 + (48 + n - 48) ≡ n
    small = omega arith

    go : (b : Bool) → (T (not b) → 10 ≤ n) → (n / 10 < fuel → as_digits 0 (digits fuel (n / 10) ((48 + n % 10) ∷ after)) ≡ as_digits (n / 10) ((48 + n % 10) ∷ after))
        → as_digits 0 (cond b ((48 + n) ∷ after) (digits fuel (n / 10) ((48 + n % 10) ∷ after))) ≡ as_digits n after
    go true u more = ap (λ (k : ℕ). as_digits k after) small
    go false u more = more (let q : 10 ≤ n = u tt in omega arith) ∙ ap (λ (k : ℕ). as_digits k after) (omega arith)

-- a number written in decimal reads as itself
pub decimal-value : (n : ℕ) → as_digits 0 (decimal n) ≡ n
unfolding decimal as_digits
decimal-value n = digits_value (suc n) n [] (le_refl (suc n))

-- no two nets share a name
pub net-once : (l k : ℕ) → net_name l ≡ net_name k → l ≡ k
unfolding net_name
net-once l k e = sym (lit_whole l) ∙ ap₂ literal (phase (negated l) (negated k) (head-eq_of_cons-eq e))
    (cc (decimal-value (var_of l), tail-eq_of_cons-eq e, decimal-value (var_of k))) ∙ lit_whole k
  where
    phase : (a b : Bool) → ◌≡◌ {A = ℕ} (cond a 109 112) (cond b 109 112) → a ≡ b
    phase true true h = refl
    phase true false h = let z : ⊥ = omega arith in absurd z
    phase false true h = let z : ⊥ = omega arith in absurd z
    phase false false h = refl

-- the letter of a phase is no `s`
net-plain : (l k : ℕ) → ¬ (net_name l ≡ 115 ∷ net_name k)
unfolding net_name
net-plain l k e = go (negated l) (head-eq_of_cons-eq e)
  where
    go : (b : Bool) → ¬ (◌≡◌ {A = ℕ} (cond b 109 112) 115)
    go true q = omega arith
    go false q = omega arith

-- and no two nets of gates share one
pub label-once : (m n : Net) → label m ≡ label n → m ≡ n
unfolding label
label-once (of_phase l) (of_phase k) e = ap of_phase (net-once l k e)
label-once (of_phase l) (of_pair k) e = absurd (net-plain l k e)
label-once (of_pair l) (of_phase k) e = absurd (net-plain k l (sym e))
label-once (of_pair l) (of_pair k) e = ap of_pair (net-once l k (tail-eq_of_cons-eq e))
