-- The walk over the gates: where it comes to, and that the phases it passes over add no gate.
--     gate-here, gate-later, gate-end     the first gate from phase l on, by whether l is one
--     comes                               it lies at l or later, not past the end, and the gates from l on are those from it on
--     gates-on, lines-on                  the gates from l on are those of what drives l, and those after l
use Rattle.base.specs.{◌≡◌, refl, sym, ap, ◌∙◌, Bool, true, false, cond, true≢false, List, [], ◌++◌, ℕ, zero, suc, ◌+◌, ◌-◌, ◌*◌, ◌≤◌, ◌<◌}
use Rattle.base.specs.{add-one, arith}
use Rattle.model.specs.{from, each, Gate, gate_line}
use Rattle.model.specs.declared.Source.{Source}
use Rattle.model.specs.declared.Source.TheVariants.{Input, Cell as Matched, Inverter as Inverted, Nothing}
use Rattle.base_words.specs.{phase_at, is_needed, makes_gate}
use Rattle.net_gates.specs.{gates_of, Drives}
use Rattle.net_gates.specs.declared.Driver.{Driver}
use Rattle.net_writer.specs.{gate_by, gate_at, is_gate_at, gate_from, gates_from}
use Rattle.net_writer.proofs.NetlistLength.{gate-needed, gate_idle, gates-next, each_append}

-- ---- one phase

module _ (w : List ℕ) (m l : ℕ) where
  pub is-gate-needed : is_needed w m l ≡ true → is_gate_at w m l ≡ makes_gate (phase_at w m l).source
  unfolding is_gate_at
  is-gate-needed e = ap (λ (b : Bool). cond b (makes_gate (phase_at w m l).source) false) e

  pub is-gate_idle : is_needed w m l ≡ false → is_gate_at w m l ≡ false
  unfolding is_gate_at
  is-gate_idle e = ap (λ (b : Bool). cond b (makes_gate (phase_at w m l).source) false) e

-- a source that makes no gate
none_by : (w records : List ℕ) (m l : ℕ) (s : Source) → makes_gate s ≡ false → gate_by w records m l s ≡ []
unfolding makes_gate gate_by
none_by w records m l Input e = refl
none_by w records m l Nothing e = refl
none_by w records m l (Matched x) e = absurd (true≢false e)
none_by w records m l (Inverted c) e = absurd (true≢false e)

-- a phase that is no gate
pub gate-none : (w records : List ℕ) (m l : ℕ) → is_gate_at w m l ≡ false → gate_at w records m l ≡ []
gate-none w records m l e = go (is_needed w m l) refl
  where
    go : (b : Bool) → is_needed w m l ≡ b → gate_at w records m l ≡ []
    go true n = gate-needed w records m l n ∙ none_by w records m l (phase_at w m l).source (sym (is-gate-needed w m l n) ∙ e)
    go false n = gate_idle w records m l n

-- ---- the first gate

module _ (w : List ℕ) (m : ℕ) where
  first-here : (l n : ℕ) → is_gate_at w m l ≡ true → gate_from w m l (suc n) ≡ l
  unfolding gate_from
  first-here l n e = ap (λ (b : Bool). cond b l (gate_from w m (suc l) n)) e

  first-later : (l n : ℕ) → is_gate_at w m l ≡ false → gate_from w m l (suc n) ≡ gate_from w m (suc l) n
  unfolding gate_from
  first-later l n e = ap (λ (b : Bool). cond b l (gate_from w m (suc l) n)) e

  pub gate-here : (l end : ℕ) → l < end → is_gate_at w m l ≡ true → gate_from w m l (end - l) ≡ l
  gate-here l end h e = let k : end - l ≡ suc (end - (l + 1)) = omega arith in ap (gate_from w m l) k ∙ first-here l (end - (l + 1)) e

  pub gate-later : (l end : ℕ) → l < end → is_gate_at w m l ≡ false → gate_from w m l (end - l) ≡ gate_from w m (l + 1) (end - (l + 1))
  gate-later l end h e =
      let k : end - l ≡ suc (end - (l + 1)) = omega arith in
      ap (gate_from w m l) k ∙ first-later l (end - (l + 1)) e ∙ ap (λ (i : ℕ). gate_from w m i (end - (l + 1))) (sym (add-one l))

  pub gate-end : (l end : ℕ) → end ≤ l → gate_from w m l (end - l) ≡ l
  unfolding gate_from
  gate-end l end h = let k : end - l ≡ 0 = omega arith in ap (gate_from w m l) k

  low : (n l : ℕ) → l ≤ gate_from w m l n
  unfolding gate_from
  low zero l = omega arith
  low (suc n) l = go (is_gate_at w m l) refl (low n (suc l))
    where
      go : (b : Bool) → is_gate_at w m l ≡ b → suc l ≤ gate_from w m (suc l) n → l ≤ gate_from w m l (suc n)
      go true e more = omega (arith, first-here l n e)
      go false e more = omega (arith, first-later l n e)

  high : (n l : ℕ) → gate_from w m l n ≤ l + n
  unfolding gate_from
  high zero l = omega arith
  high (suc n) l = go (is_gate_at w m l) refl (high n (suc l))
    where
      go : (b : Bool) → is_gate_at w m l ≡ b → gate_from w m (suc l) n ≤ suc l + n → gate_from w m l (suc n) ≤ l + suc n
      go true e more = omega (arith, first-here l n e)
      go false e more = omega (arith, first-later l n e)

-- ---- the phases passed over

module _ (w records : List ℕ) (m : ℕ) where
  skip : (n l : ℕ) → gates_from w records m l n ≡ gates_from w records m (gate_from w m l n) (l + n - gate_from w m l n)
  unfolding gates_from gate_from from each
  skip zero l = let k : 0 ≡ l + 0 - l = omega arith in ap (gates_from w records m l) k
  skip (suc n) l = go (is_gate_at w m l) refl (skip n (suc l))
    where
      go : (b : Bool) → is_gate_at w m l ≡ b → gates_from w records m (suc l) n ≡ gates_from w records m (gate_from w m (suc l) n) (suc l + n - gate_from w m (suc l) n)
          → gates_from w records m l (suc n) ≡ gates_from w records m (gate_from w m l (suc n)) (l + suc n - gate_from w m l (suc n))
      go true e more =
          let k : suc n ≡ l + suc n - l = omega arith in
          ap (gates_from w records m l) k ∙ ap (λ (g : ℕ). gates_from w records m g (l + suc n - g)) (sym (first-here w m l n e))
      go false e more =
          let k : suc l + n ≡ l + suc n = omega arith in
          ap (λ (ts : List Gate). ts ++ gates_from w records m (suc l) n) (gate-none w records m l e)
          ∙ more
          ∙ ap (λ (end : ℕ). gates_from w records m (gate_from w m (suc l) n) (end - gate_from w m (suc l) n)) k
          ∙ ap (λ (g : ℕ). gates_from w records m g (l + suc n - g)) (sym (first-later w m l n e))

-- ---- a loop along the gates

-- the gates of phase l and those after it
abbrev pub gates_left : List ℕ → List ℕ → ℕ → ℕ → List Gate
gates_left w records m l = gates_from w records m l (2 * (m + 1) - l)

-- the first gate of phase l and those after it is g: the phases between add none
pub record Comes (w : List ℕ) (m l g : ℕ) : Type 0 where
  pub low : l ≤ g
  pub high : g ≤ 2 * (m + 1)
  pub same : (records : List ℕ) → gates_left w records m l ≡ gates_left w records m g

pub comes : {w : List ℕ} {m l g : ℕ} → l ≤ 2 * (m + 1) → g ≡ gate_from w m l (2 * (m + 1) - l) → Comes w m l g
comes {w} {m} {l} {g} h e =
    let k : l + (2 * (m + 1) - l) ≡ 2 * (m + 1) = omega arith in
    record {
      low = omega (arith, low w m (2 * (m + 1) - l) l);
      high = omega (arith, high w m (2 * (m + 1) - l) l);
      same = λ records. skip w records m (2 * (m + 1) - l) l ∙ rw (k, ← e);
    }

-- what drives phase l, and what is left
module _ (w records : List ℕ) (m l : ℕ) {d : Driver} (h : l < 2 * (m + 1)) (drives : Drives d (gate_at w records m l)) where
  pub gates-on : gates_left w records m l ≡ gates_of d ++ gates_left w records m (l + 1)
  gates-on = rw drives.is_gate (gates-next w records m (2 * (m + 1)) l h)

  pub lines-on : each gate_line (gates_left w records m l) ≡ each gate_line (gates_of d) ++ each gate_line (gates_left w records m (l + 1))
  lines-on = ap (each gate_line) gates-on ∙ each_append gate_line (gates_of d) (gates_left w records m (l + 1))
