-- The passes over inputs, output lines and ANDs are the crate model's reading of them:
--     Sound            the words hold the graph of the lines so far, and no variable from here on is defined
--     Step             the line at a place is refused by both, or read by both
--     pass_law         so a pass is: it answers what is read, and the words hold the graph with what was read
--     input-step, output-step, gate-step     the three passes
use Rattle.std.specs.Prelude.{Ok}
use Rattle.base.specs.{◌≡◌, refl, sym, ap, ◌∙◌, subst, true, false, not, ◌||◌, List, [], ◌∷◌, map, ℕ, zero, suc, ◌+◌, ◌-◌, ◌*◌, ◌/◌, ◌≤◌}
use Rattle.base.specs.{◌<◌, min, add-one, arith, eqb, ne_eqb, lt-ltb, le-ltb, le-leb}
use Rattle.model.specs.{from, elem, any, Read, holds, fault, next, verdict_of, var_of, Kind, an_input, an_output, an_and, Item, read_ands}
use Rattle.model.specs.{defined_by, refused_with}
use Rattle.model.specs.Graph.{Graph}
use Rattle.model.specs.declared.Header.{Header}
use Rattle.base_words.specs.{undefined_kind, kind_at}
use Rattle.base_text.proofs.{and-false}
use Rattle.graph_order.specs.{Fit}
use Rattle.graph_loading.specs.declared.Literals.{Literals}
use Rattle.graph_loading.specs.{LineResult, expected_code, expected_count, literals_fit, is_already_defined, stored_line}
use Rattle.graph_loading.proofs.{fit-right, expected_kind_value, expected-input, expected-output, expected-and, item_of, grown, more, State, state_more, fault-holds}
use Rattle.graph_loading.proofs.{verdict-next, next-holds, joined, defined_more, Stored, stored-none, stored_more}
use Rattle.graph_binary.specs.{pass_step, pass_words, as_verdict, input_literals, input_step, input_left, gate_step, gate_left}
use Rattle.graph_binary.proofs.BinaryGates.{GateView, stops as gate-stops, goes as gate-goes, gate_view}
use Rattle.graph_binary.proofs.BinaryPasses.{step-gate, step-refused, pass_on, pass_stop, pass_end}

-- ---- the words so far

-- the variable that is defined next: behind the inputs and the ANDs of k expected lines
abbrev pub next_var : Header → ℕ → ℕ
next_var h k = suc (min k h.inputs + (k - (h.inputs + h.outputs)))

pub record Sound (h : Header) (w₀ : List ℕ) (k : ℕ) (w before : List ℕ) (g : Graph) : Type 0 where
  pub state : State h w₀ k w before g
  pub above : (v : ℕ) → next_var h k ≤ v → elem v before ≡ false

fit-made : (m : ℕ) (l : Literals) → l.first ≤ 2 * m + 1 → l.left ≤ 2 * m + 1 → l.right ≤ 2 * m + 1 → literals_fit m l ≡ true
fit-made m l a b c = fit-right m l a b ∙ le-leb l.right (2 * m + 1) c

-- a line whose variable is the next
not_taken : (m : ℕ) (w before : List ℕ) (kind first : ℕ) → ((v : ℕ) → v ≤ m → (v ≡ 0 → ⊥) → elem v before ≡ not (eqb (kind_at w m v) undefined_kind))
    → first / 2 ≤ m → (first / 2 ≡ 0 → ⊥) → elem (first / 2) before ≡ false → is_already_defined w m kind first ≡ false
unfolding is_already_defined
not_taken m w before kind first known small nonzero out = rw (sym (known (first / 2) small nonzero), out, and-false)

above_more : (v : ℕ) (before : List ℕ) (low : ℕ) → ((u : ℕ) → v ≤ u → elem u before ≡ false) → v < low → (u : ℕ) → low ≤ u → elem u (v ∷ before) ≡ false
unfolding elem any
above_more v before low above l u b = rw (ne_eqb u v (λ e. omega arith)) (above u (omega arith))

module _ (h : Header) (w₀ : List ℕ) (fit : Fit h w₀) (k : ℕ) (w before : List ℕ) (g : Graph) (s : Sound h w₀ k w before g) (l : Literals)
    (fits : literals_fit h.size l ≡ true) where
  -- an input, or an AND
  sound_more : (kind : Kind) → expected_kind_value h k ≡ kind → more kind before l ≡ var_of l.first ∷ before → k < expected_count h → l.first / 2 ≡ next_var h k → next_var h k ≤ h.size → next_var h k < next_var h (k + 1)
      → Sound h w₀ (k + 1) (stored_line w h k l) (more (expected_kind_value h k) before l) (grown (expected_kind_value h k) g l)
  unfolding var_of
  sound_more kind e m b v small low = record {
    state = state_more h w₀ fit k w before g s.state l b fits
        (not_taken h.size w before (expected_code h k) l.first s.state.known (omega arith) (λ z. omega arith) (s.above (l.first / 2) (omega arith)));
    above = λ u c. ap (elem u) (ap (λ (x : Kind). more x before l) e ∙ m)
        ∙ above_more (l.first / 2) before (next_var h (k + 1)) (λ x y. s.above x (omega arith)) (omega arith) u c;
  }

  pub sound-output : h.inputs ≤ k → k < h.inputs + h.outputs → Sound h w₀ (k + 1) (stored_line w h k l) (more (expected_kind_value h k) before l) (grown (expected_kind_value h k) g l)
  unfolding is_already_defined
  sound-output a b =
      let e : expected_kind_value h k ≡ an_output = expected-output h k a b in
      record {
        state = state_more h w₀ fit k w before g s.state l (omega arith) fits (free a b);
        above = λ u c. ap (λ (x : Kind). elem u (more x before l)) e ∙ s.above u (omega arith);
      }
    where
      free : h.inputs ≤ k → k < h.inputs + h.outputs → is_already_defined w h.size (expected_code h k) l.first ≡ false
      free a b = rw (le-ltb k h.inputs a, lt-ltb k (h.inputs + h.outputs) b)

-- ---- a pass

pub data Step (h : Header) (w₀ : List ℕ) (advance : ℕ → ℕ → List ℕ → LineResult) (left : ℕ → ℕ → List ℕ → List ℕ) (later : ℕ → ℕ → ℕ → Read (List Item))
    (n k at : ℕ) (w before : List ℕ) (g : Graph) : Type 0 where
  stops : (a b : ℕ) → advance k at w ≡ refused_with a b → later (suc n) k at ≡ fault a b → Step h w₀ advance left later n k at w before g
  goes : (l : Literals) → advance k at w ≡ Ok l.next → left k at w ≡ stored_line w h k l
      → later (suc n) k at ≡ next (later n (k + 1) l.next) (λ is. holds (item_of (expected_kind_value h k) at l ∷ is))
      → Sound h w₀ (k + 1) (stored_line w h k l) (more (expected_kind_value h k) before l) (grown (expected_kind_value h k) g l) → Step h w₀ advance left later n k at w before g

pub record Taken (h : Header) (w₀ : List ℕ) (n k : ℕ) (x before : List ℕ) (g : Graph) (is : List Item) : Type 0 where
  pub stored : Stored h w₀ n k x before g is
  pub above : (v : ℕ) → next_var h (k + n) ≤ v → (elem v (defined_by is) || elem v before) ≡ false

pub record Outcome (h : Header) (w₀ : List ℕ) (advance : ℕ → ℕ → List ℕ → LineResult) (left : ℕ → ℕ → List ℕ → List ℕ) (later : ℕ → ℕ → ℕ → Read (List Item))
    (n k at : ℕ) (w before : List ℕ) (g : Graph) : Type 0 where
  pub verdict : as_verdict (pass_step advance left n k at w) ≡ verdict_of (later n k at)
  pub taken : (is : List Item) → later n k at ≡ holds is → Taken h w₀ n k (pass_words advance left n k at w) before g is

-- the expected lines from `low` on and before `high` are this pass's
module _ (h : Header) (w₀ : List ℕ) (advance : ℕ → ℕ → List ℕ → LineResult) (left : ℕ → ℕ → List ℕ → List ℕ) (later : ℕ → ℕ → ℕ → Read (List Item)) (low high : ℕ)
    (none_left : (k at : ℕ) → later 0 k at ≡ holds [])
    (step : (n k at : ℕ) (w before : List ℕ) (g : Graph) → Sound h w₀ k w before g → low ≤ k → k + suc n ≡ high → Step h w₀ advance left later n k at w before g) where
  taken_none : (k : ℕ) (w before : List ℕ) (g : Graph) → Sound h w₀ k w before g → Taken h w₀ 0 k w before g []
  unfolding defined_by elem any
  taken_none k w before g s = record {
    stored = stored-none h w₀ k w before g s.state;
    above = λ v b. s.above v (omega arith);
  }

  taken_more : (n k at : ℕ) (x before : List ℕ) (g : Graph) (l : Literals) (js : List Item)
      → Taken h w₀ n (k + 1) x (more (expected_kind_value h k) before l) (grown (expected_kind_value h k) g l) js → Taken h w₀ (suc n) k x before g (item_of (expected_kind_value h k) at l ∷ js)
  taken_more n k at x before g l js t = record {
    stored = stored_more h w₀ n k at x before g l js t.stored;
    above = λ v b. sym (defined_more (expected_kind_value h k) at l before js v) ∙ t.above v (omega arith);
  }

  pass_none : (k at : ℕ) (w before : List ℕ) (g : Graph) → Sound h w₀ k w before g → Outcome h w₀ advance left later 0 k at w before g
  unfolding verdict_of
  pass_none k at w before g s =
      let p = pass_end advance left k at w 0 refl in
      record {
        verdict = ap as_verdict p.0 ∙ ap verdict_of (sym (none_left k at));
        taken = λ is q.
            let i : [] ≡ is = cc (none_left k at) in
            subst (λ (x : List ℕ). Taken h w₀ 0 k x before g is) (sym p.1) (subst (Taken h w₀ 0 k w before g) i (taken_none k w before g s));
      }

  pass_more : (n k at : ℕ) (w before : List ℕ) (g : Graph) → Step h w₀ advance left later n k at w before g
      → ((at' : ℕ) (w' before' : List ℕ) (g' : Graph) → Sound h w₀ (k + 1) w' before' g' → Outcome h w₀ advance left later n (k + 1) at' w' before' g')
      → Outcome h w₀ advance left later (suc n) k at w before g
  unfolding verdict_of
  pass_more n k at w before g (stops a b t m) more_of = record {
    verdict = ap as_verdict (pass_stop advance left n k at w (suc n) _ refl t).0 ∙ ap verdict_of (sym m);
    taken = λ is q. absurd (fault-holds (sym m ∙ q));
  }
  pass_more n k at w before g (goes l t u m s) more_of =
      let p = pass_on advance left n k at w (suc n) l.next refl t in
      let o = more_of l.next (stored_line w h k l) (more (expected_kind_value h k) before l) (grown (expected_kind_value h k) g l) s in
      let e : pass_step advance left (suc n) k at w ≡ pass_step advance left n (k + 1) l.next (stored_line w h k l) = p.0 ∙ ap (pass_step advance left n (k + 1) l.next) u in
      let f : pass_words advance left (suc n) k at w ≡ pass_words advance left n (k + 1) l.next (stored_line w h k l) = p.1 ∙ ap (pass_words advance left n (k + 1) l.next) u in
      record {
        verdict = ap as_verdict e ∙ o.verdict ∙ sym (verdict-next (later n (k + 1) l.next) (λ is. item_of (expected_kind_value h k) at l ∷ is)) ∙ ap verdict_of (sym m);
        taken = λ is q.
            let j = next-holds (later n (k + 1) l.next) (λ js. item_of (expected_kind_value h k) at l ∷ js) is (sym m ∙ q) in
            subst (λ (x : List ℕ). Taken h w₀ (suc n) k x before g is) (sym f)
            (subst (Taken h w₀ (suc n) k (pass_words advance left n (k + 1) l.next (stored_line w h k l)) before g) (sym j.2)
            (taken_more n k at (pass_words advance left n (k + 1) l.next (stored_line w h k l)) before g l j.0 (o.taken j.0 j.1)));
      }

  pub pass_law : (n k at : ℕ) (w before : List ℕ) (g : Graph) → Sound h w₀ k w before g → low ≤ k → k + n ≡ high → Outcome h w₀ advance left later n k at w before g
  pass_law zero k at w before g s l e = pass_none k at w before g s
  pass_law (suc n) k at w before g s l e =
      pass_more n k at w before g (step n k at w before g s l e)
      (λ at' w' before' g' s'. pass_law n (k + 1) at' w' before' g' s' (omega arith) (omega arith))

-- what was taken is sound
pub taken_sound : (h : Header) (w₀ : List ℕ) (n k : ℕ) (x before : List ℕ) (g : Graph) (is : List Item) (t : Taken h w₀ n k x before g is)
    → Sound h w₀ (k + n) x t.stored.defined (joined g is)
taken_sound h w₀ n k x before g is t = record { state = t.stored.state; above = λ v b. t.stored.knows v ∙ t.above v b }

-- ---- "Inputs are variables 1 to I"

abbrev pub input_item : ℕ → ℕ → Item
input_item at v = record { kind = an_input; offset = at; literals = 2 * v ∷ [] }

abbrev pub inputs_from : ℕ → ℕ → ℕ → Read (List Item)
inputs_from n k at = holds (map (input_item at) (from (suc k) n))

module _ (h : Header) (w₀ : List ℕ) (fit : Fit h w₀) where
  pub input_none : (k at : ℕ) → inputs_from 0 k at ≡ holds []
  unfolding from
  input_none k at = refl

  input-later : (n k at : ℕ) → k < h.inputs → inputs_from (suc n) k at ≡ next (inputs_from n (k + 1) at) (λ is. holds (item_of (expected_kind_value h k) at (input_literals at k) ∷ is))
  unfolding from next
  input-later n k at b = rw (expected-input h k b, add-one k)

  pub input-step : (n k at : ℕ) (w before : List ℕ) (g : Graph) → Sound h w₀ k w before g → 0 ≤ k → k + suc n ≡ h.inputs
      → Step h w₀ input_step (input_left h) inputs_from n k at w before g
  unfolding input_left
  input-step n k at w before g s low e =
      let v : 2 * (k + 1) / 2 ≡ next_var h k = omega arith in
      goes (input_literals at k) refl refl (input-later n k at (omega arith))
      (sound_more h w₀ fit k w before g s (input_literals at k) (fit-made h.size (input_literals at k) (omega (arith, fit.lines)) (omega arith) (omega arith))
      an_input (expected-input h k (omega arith)) refl (omega arith) v (omega (arith, fit.lines)) (omega arith))

-- ---- "ANDs follow in sequence"

abbrev pub gates_from : List ℕ → Header → ℕ → ℕ → ℕ → Read (List Item)
gates_from s h n k at = read_ands s at (2 * (k - h.outputs + 1)) n

module _ (s : List ℕ) (h : Header) (w₀ : List ℕ) (fit : Fit h w₀) where
  pub gate-none : (k at : ℕ) → gates_from s h 0 k at ≡ holds []
  unfolding read_ands
  gate-none k at = refl

  pub gate-step : (n k at : ℕ) (w before : List ℕ) (g : Graph) → Sound h w₀ k w before g → h.inputs + h.outputs ≤ k → k + suc n ≡ expected_count h
      → Step h w₀ (gate_step s h) (gate_left s h) (gates_from s h) n k at w before g
  gate-step n k at w before g z low e = go (gate_view s at (2 * (k - h.outputs + 1)))
    where
      go : GateView s at (2 * (k - h.outputs + 1)) → Step h w₀ (gate_step s h) (gate_left s h) (gates_from s h) n k at w before g
      go (gate-stops a b f m) = stops a b (step-refused s h k at w _ f).0 (m n)
      go (gate-goes l f first left right m) =
          let t = step-gate s h k at w l f in let v : l.first / 2 ≡ next_var h k = omega arith in
          let i : 2 * (k - h.outputs + 1) + 2 ≡ 2 * (k + 1 - h.outputs + 1) = omega arith in
          let o : k - h.outputs + 1 ≤ h.size = omega (arith, fit.lines) in
          goes l t.0 t.1
          (m n ∙ ap (λ (x : ℕ). next (read_ands s l.next x n) (λ is. holds (item_of an_and at l ∷ is))) i
          ∙ ap (λ (x : Kind). next (read_ands s l.next (2 * (k + 1 - h.outputs + 1)) n) (λ is. holds (item_of x at l ∷ is))) (sym (expected-and h k low)))
          (sound_more h w₀ fit k w before g z l (fit-made h.size l (omega arith) (omega arith) (omega arith))
          an_and (expected-and h k low) refl (omega arith) v (omega arith) (omega arith))
