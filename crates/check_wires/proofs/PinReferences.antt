-- The numbers at pins, one by one.
use Rattle.base.specs.{ℕ, ◌+◌, ◌-◌, ◌*◌, ◌/◌, ◌%◌, ◌≤◌, ◌<◌, lt_of_not-le, dec_le, arith, ◌≡◌, refl, sym, subst, ◌∙◌, inl, inr, List}
use Rattle.base.specs.{length, get_or, set, length-set, get_or-set_same, get_or-set_other}
use Rattle.theory_graph.proofs.{by_eqb}
use Rattle.check_wires.specs.{pins_at, use_at, Driven, Looked, Pin, PinLooked, Row}

-- what is found drives the net
pub driven : (ws ins : List ℕ) (count i x r : ℕ) → Looked ws ins count i x r → (r ≡ 12 + i → ⊥) → Driven ws ins count i x
driven ws ins count i x r l ne =
    let m : r ≤ 12 + i = l.most in
    elim (dec_le 12 r) [
      | yes h ↦ inr (r - 12, omega arith, l.driver h (omega arith))
      | no h ↦ let p = l.input (lt_of_not-le h) in inl (r, p.0, p.1)
    ]

pub pin_looked : (ws ins : List ℕ) (count n i j r : ℕ) → j < pins_at ws i → Looked ws ins count n (use_at ws i j) r → PinLooked ws ins count n i j r
pin_looked ws ins count n i j r lt l = record {
  most = l.most;
  pin = λ h. record { most = h; input = λ p q. l.input q; driver = λ p q. l.driver q h; past = λ p. absurd (omega arith) };
  used = λ e. lt;
  none = l.none;
}

-- the first `at` pins are written, and what is behind them is as it was
pub record Filled (ws ins : List ℕ) (count n at : ℕ) (before after : List ℕ) : Type 0 where
  pub long : length after ≡ length before
  pub pins : (a : ℕ) → a < at → Pin ws ins count n (a / 4) (a % 4) (get_or after a 0)
  pub behind : (a : ℕ) → at ≤ a → get_or after a 0 ≡ get_or before a 0

module _ (ws ins : List ℕ) (count n : ℕ) (before : List ℕ) where
  pub filled_none : Filled ws ins count n 0 before before
  filled_none = record { long = refl; pins = λ a h. absurd (omega arith); behind = λ a h. refl }

  pub filled_next : (at r : ℕ) (now : List ℕ) → at < length before → Filled ws ins count n at before now → Pin ws ins count n (at / 4) (at % 4) r
      → Filled ws ins count n (at + 1) before (set now at r)
  filled_next at r now inside f p = record {
    long = length-set now at r ∙ f.long;
    pins = λ a h. by_eqb a at
        (λ e. subst (λ (m : ℕ). Pin ws ins count n (m / 4) (m % 4) (get_or (set now at r) m 0)) (sym e)
        (subst (Pin ws ins count n (at / 4) (at % 4)) (sym (get_or-set_same now at r 0 (omega (arith, f.long)))) p))
        (λ ne. subst (Pin ws ins count n (a / 4) (a % 4)) (sym (get_or-set_other now at a r 0 (λ e. ne (omega arith)))) (f.pins a (omega (arith, ne))));
    behind = λ a h. get_or-set_other now at a r 0 (λ e. omega arith) ∙ f.behind a (omega arith);
  }

  -- a driver's four pins are its row
  pub filled_row : (at : ℕ) (now : List ℕ) → Filled ws ins count n at before now → (i : ℕ) → 4 * i + 4 ≤ at → Row ws ins count n now i
  filled_row at now f i h j lt =
      let whole : (4 * i + j) / 4 ≡ i = omega arith in
      let rest : (4 * i + j) % 4 ≡ j = omega arith in
      subst (λ (x : ℕ). Pin ws ins count n i x (get_or now (4 * i + j) 0)) rest (subst (λ (x : ℕ). Pin ws ins count n x ((4 * i + j) % 4) (get_or now (4 * i + j) 0)) whole (f.pins (4 * i + j) (omega arith)))
