-- Laws of what a cell line must not say: a table bit or a delay too many, a name that is there already.
use Rattle.base.specs.{ℕ, zero, suc, ◌+◌, ◌*◌, ◌%◌, ◌^◌, ◌≤◌, ◌<◌, one-mul, mod-eq_of_lt, pow-le-pow_right, add-one, arith, ◌≡◌, refl, sym}
use Rattle.base.specs.{ap, ◌∙◌, subst, Bool, true, false, ◌&&◌, ◌||◌, List, [], eqb, leb, eqb-zero-suc, eqb-suc-zero, lit<}
use Rattle.base.specs.{drop, get_or, drop-nil, lt-ltb, le-ltb, eqb-true, eqb-false}
use Rattle.model.specs.{all, any, same, name_of, no_cell, is_clean, no_lower}
use Rattle.model.specs.declared.Cell.{Cell}
use Rattle.base_text.proofs.{or-true, and-true}
use Rattle.cells_reader.specs.declared.Delays.{Delays}
use Rattle.cells_reader.specs.declared.Figures.{Figures}
use Rattle.cells_reader.specs.{delays_ok, listed, line_cell, before, is_repeated}

-- ---- the limit of a table of p pins

module _ (p : ℕ) (few : p ≤ 4) where
  rows : 2 ^ p ≤ 16
  rows = pow-le-pow_right (lit< tt) few

  inner : (1 * 2 ^ p) % 4294967296 ≡ 2 ^ p
  inner = rw (one-mul (2 ^ p)) (mod-eq_of_lt (omega (arith, rows)))

  pub shift_fits : (1 * 2 ^ p) % 4294967296 < 32
  shift_fits = rw inner (omega (arith, rows))

  tables : 2 ^ 2 ^ p ≤ 65536
  tables = pow-le-pow_right (lit< tt) rows

  pub limit_is : (1 * 2 ^ ((1 * 2 ^ p) % 4294967296)) % 4294967296 ≡ 2 ^ 2 ^ p
  limit_is = rw (inner, one-mul (2 ^ 2 ^ p)) (mod-eq_of_lt (omega (arith, tables)))

-- ---- figures

eqb_swap : (d : ℕ) → eqb 0 d ≡ eqb d 0
eqb_swap zero = refl
eqb_swap (suc d) = eqb-zero-suc d ∙ sym (eqb-suc-zero d)

-- the delays of absent pins, one by one
delays-all : (p : ℕ) (d : Delays) → all (eqb 0) (drop p (listed d)) ≡ delays_ok p d
unfolding all delays_ok
delays-all zero d = rw (eqb_swap d.d0, eqb_swap d.d1, eqb_swap d.d2, eqb_swap d.d3, and-true (eqb d.d3 0))
delays-all (suc zero) d = rw (eqb_swap d.d1, eqb_swap d.d2, eqb_swap d.d3, and-true (eqb d.d3 0))
delays-all (suc (suc zero)) d = rw (eqb_swap d.d2, eqb_swap d.d3, and-true (eqb d.d3 0))
delays-all (suc (suc (suc zero))) d = rw (eqb_swap d.d3, and-true (eqb d.d3 0))
delays-all (suc (suc (suc (suc p)))) d =
    rw (lt-ltb 0 (suc (suc (suc (suc p)))) (omega arith), lt-ltb 1 (suc (suc (suc (suc p)))) (omega arith), lt-ltb 2 (suc (suc (suc (suc p)))) (omega arith), lt-ltb 3 (suc (suc (suc (suc p)))) (omega arith), drop-nil p)

module _ (f : Figures) where
  pub clean_table : 2 ^ 2 ^ f.pins ≤ f.table → is_clean (line_cell [] f) ≡ false
  unfolding is_clean line_cell
  clean_table h = rw (le-ltb f.table (2 ^ 2 ^ f.pins) h)

  pub clean_delays : f.table < 2 ^ 2 ^ f.pins → is_clean (line_cell [] f) ≡ (delays_ok f.pins f.delays && delays_ok f.pins f.mins)
  unfolding is_clean line_cell
  clean_delays h =
      rw (lt-ltb f.table (2 ^ 2 ^ f.pins) h, delays-all f.pins f.delays, delays-all f.pins f.mins)

  -- the lowest delays, one by one
  pub range_is : no_lower (line_cell [] f).mins (line_cell [] f).delays
      ≡ (leb f.mins.d0 f.delays.d0 && (leb f.mins.d1 f.delays.d1 && (leb f.mins.d2 f.delays.d2 && leb f.mins.d3 f.delays.d3)))
  unfolding no_lower line_cell
  range_is = rw (and-true (leb f.mins.d3 f.delays.d3))

-- ---- names

module _ (w : List ℕ) (cells : List Cell) where
  pub repeated_none : is_repeated w cells 0 ≡ false
  unfolding is_repeated before any
  repeated_none = refl

  pub repeated_step : (i : ℕ) → is_repeated w cells (i + 1) ≡ (same w (name_of (get_or cells i no_cell)) || is_repeated w cells i)
  unfolding is_repeated before any
  repeated_step i = rw (add-one i)

  -- a name that is there stays there
  pub repeated_more : (i n : ℕ) → i ≤ n → is_repeated w cells i ≡ true → is_repeated w cells n ≡ true
  repeated_more i zero h e = let z : i ≡ 0 = omega arith in subst (λ (k : ℕ). is_repeated w cells k ≡ true) z e
  repeated_more i (suc n) h e = go (eqb i (suc n)) refl (repeated_more i n)
    where
      go : (t : Bool) → eqb i (suc n) ≡ t → (i ≤ n → is_repeated w cells i ≡ true → is_repeated w cells n ≡ true) → is_repeated w cells (suc n) ≡ true
      go true q more = subst (λ (k : ℕ). is_repeated w cells k ≡ true) (eqb-true i (suc n) q) e
      go false q more =
          let ne : (i ≡ suc n) → ⊥ = eqb-false i (suc n) q in
          let r : is_repeated w cells n ≡ true = more (omega arith) e in
          ap (is_repeated w cells) (sym (add-one n)) ∙ repeated_step n ∙ rw (r, or-true)
