-- The gates of a phase, one or two, taken as one: what each of them makes of its pins' nets makes the phase out of the phases that feed it, and the other
-- way round. Of values and of arrivals alike: `out` is what a gate makes of what stands at its pins.
use Rattle.base.specs.{ℕ, zero, suc, ◌+◌, ◌-◌, ◌≤◌, ◌<◌, not-suc-le-zero, le_of_suc-le-suc, lt_of_not-le, dec_le, arith, ◌≡◌, refl, sym, ◌∙◌}
use Rattle.base.specs.{ap, ap₂, subst, ◌⊎◌, inl, inr, ⊎_elim, Bool, true, false, cond, true≢false, List, [], ◌∷◌, ◌++◌, map, Memᴰ}
use Rattle.base.specs.{Memᴰ-head, Memᴰ-tail, Memᴰ-not-nil, Memᴰ-cases_cons, ltb, length, take, drop, length-take}
use Rattle.base.specs.{length-drop, yes_ltb, no_ltb}
use Rattle.model.specs.{cell_at, no_cell, splice, pair_pins, pair_of, cell_of_pair, pair_at, Net, of_phase, of_pair, Gate, one_gate, two_gates}
use Rattle.model.specs.{gates_by}
use Rattle.model.specs.declared.Cell.{Cell}
use Rattle.theory_graph.proofs.{map-map, get_or_in, is_true, is_false, length-map, by_member}
use Rattle.theory_text.proofs.{Bound, gate-bound}
use Rattle.theory_demands.proofs.RefusalRanks.{OfPair, Numbered, single, double, Fitting}

-- ---- a run of elements as one

pub map-take : {A B : Type 0} (w : A → B) (n : ℕ) (xs : List A) → map w (take n xs) ≡ take n (map w xs)
map-take w zero xs = refl
map-take w (suc n) [] = refl
map-take w (suc n) (x ∷ xs) = ap (λ (ys : List _). w x ∷ ys) (map-take w n xs)

pub map-drop : {A B : Type 0} (w : A → B) (n : ℕ) (xs : List A) → map w (drop n xs) ≡ drop n (map w xs)
map-drop w zero xs = refl
map-drop w (suc n) [] = refl
map-drop w (suc n) (x ∷ xs) = map-drop w n xs

pub map-run : {A B : Type 0} (w : A → B) (p n : ℕ) (xs : List A) → map w (take n (drop p xs)) ≡ take n (drop p (map w xs))
map-run w p n xs = map-take w n (drop p xs) ∙ ap (take n) (map-drop w p xs)

-- where w takes s to what f makes of the run, it takes s in the run's place to f's
splice-map : {A B : Type 0} (w : A → B) (s : A) (f : List B → B) (p n : ℕ) (xs : List A) → w s ≡ f (take n (drop p (map w xs)))
    → map w (splice p n (λ (_ : List A). s) xs) ≡ splice p n f (map w xs)
unfolding splice
splice-map w s f zero n xs e = ap₂ (λ (y : _) (ys : List _). y ∷ ys) e (map-drop w n xs)
splice-map w s f (suc p) n [] e = refl
splice-map w s f (suc p) n (x ∷ xs) e = ap (λ (ys : List _). w x ∷ ys) (splice-map w s f p n xs e)

pub splice-length : {A : Type 0} (p n : ℕ) (f : List A → A) (xs : List A) → p + n ≤ length xs → length (splice p n f xs) ≡ suc (length xs - n)
unfolding splice
splice-length zero n f xs h = ap suc (length-drop n xs)
splice-length (suc p) n f [] h = absurd (let z : suc (p + n) ≤ 0 = omega arith in not-suc-le-zero z)
splice-length (suc p) n f (x ∷ xs) h = let r = splice-length p n f xs (omega arith) in omega (arith, r)

-- the run's place, between what stands before it and behind it
pub splice-parts : {A : Type 0} (p n : ℕ) (f : List A → A) (xs : List A) → p ≤ length xs → splice p n f xs ≡ take p xs ++ (f (take n (drop p xs)) ∷ drop (p + n) xs)
unfolding splice
splice-parts zero n f xs h = ap (λ (k : ℕ). f (take n xs) ∷ drop k xs) (let e : n ≡ 0 + n = omega arith in e)
splice-parts (suc p) n f [] h = absurd (not-suc-le-zero h)
splice-parts (suc p) n f (x ∷ xs) h = cc (splice-parts p n f xs (le_of_suc-le-suc h), let e : suc (p + n) ≡ suc p + n = omega arith in e)

take_out : {A : Type 0} (n : ℕ) (xs : List A) (x : A) → Memᴰ x (take n xs) → Memᴰ x xs
take_out zero xs x m = absurd (Memᴰ-not-nil m)
take_out (suc n) [] x m = absurd (Memᴰ-not-nil m)
take_out (suc n) (y ∷ ys) x (Memᴰ-head e) = Memᴰ-head e
take_out (suc n) (y ∷ ys) x (Memᴰ-tail m) = Memᴰ-tail (take_out n ys x m)

drop_out : {A : Type 0} (n : ℕ) (xs : List A) (x : A) → Memᴰ x (drop n xs) → Memᴰ x xs
drop_out zero xs x m = m
drop_out (suc n) [] x m = m
drop_out (suc n) (y ∷ ys) x m = Memᴰ-tail (drop_out n ys x m)

-- an element of it is s, or was there
splice_out : {A : Type 0} (p n : ℕ) (s : A) (xs : List A) (x : A) → Memᴰ x (splice p n (λ (_ : List A). s) xs) → Memᴰ x xs ⊎ (x ≡ s)
unfolding splice
splice_out zero n s xs x m = ⊎_elim inr (λ i. inl (drop_out n xs x i)) (Memᴰ-cases_cons m)
splice_out (suc p) n s [] x m = absurd (Memᴰ-not-nil m)
splice_out (suc p) n s (y ∷ xs) x m = ⊎_elim (λ e. inl (Memᴰ-head e)) (λ i. later (splice_out p n s xs x i)) (Memᴰ-cases_cons m)
  where
    later : Memᴰ x xs ⊎ (x ≡ s) → Memᴰ x (y ∷ xs) ⊎ (x ≡ s)
    later (inl i) = inl (Memᴰ-tail i)
    later (inr e) = inr e

-- ---- the gates

module _ (listed : List Cell) (k : ℕ) (fed : List ℕ) (l : ℕ) where
  abbrev pub root_cell : Cell
  root_cell = cell_at listed (pair_at listed k).root

  abbrev pub inner_cell : Cell
  inner_cell = cell_at listed (pair_at listed k).inner

  abbrev pub fed_pin : ℕ
  fed_pin = (pair_at listed k).pin

  abbrev pub cell_gate : Gate
  cell_gate = record { cell = cell_at listed k; pins = map of_phase fed; net = of_phase l }

  abbrev pub inner_gate : Gate
  inner_gate = record { cell = inner_cell; pins = take inner_cell.pins (drop fed_pin (map of_phase fed)); net = of_pair l }

  abbrev pub root_gate : Gate
  root_gate = record { cell = root_cell; pins = splice fed_pin inner_cell.pins (λ (_ : List Net). of_pair l) (map of_phase fed); net = of_phase l }

  pub gates_single : k < length listed → gates_by listed k fed l ≡ cell_gate ∷ []
  unfolding gates_by one_gate
  gates_single h = cc (is_true (ltb k (length listed)) (yes_ltb h))

  pub gates_double : length listed ≤ k → gates_by listed k fed l ≡ inner_gate ∷ root_gate ∷ []
  unfolding gates_by two_gates
  gates_double h = cc (is_false (ltb k (length listed)) (no_ltb h))

  -- ---- as one

  module _ {X : Type 0} (out : Gate → List X → X) where
    -- what nets have is by the rule
    abbrev pub Refusal : (Net → X) → List Gate → Type 0
    Refusal v ts = (t : Gate) → Memᴰ t ts → v t.net ≡ out t (map v t.pins)

    -- what the inner gate makes of what the fed phases have
    pub inside : List X → X
    inside xs = out inner_gate (take inner_cell.pins (drop fed_pin xs))

    -- what all the gates make of it
    unfoldable pub whole : List X → X
    whole xs = cond (ltb k (length listed)) (out cell_gate xs) (out root_gate (splice fed_pin inner_cell.pins (out inner_gate) xs))

    pub whole_single : k < length listed → (xs : List X) → whole xs ≡ out cell_gate xs
    unfolding whole
    whole_single h xs = ap (λ (b : Bool). cond b (out cell_gate xs) (out root_gate (splice fed_pin inner_cell.pins (out inner_gate) xs))) (is_true (ltb k (length listed)) (yes_ltb h))

    pub whole_double : length listed ≤ k → (xs : List X) → whole xs ≡ out root_gate (splice fed_pin inner_cell.pins (out inner_gate) xs)
    unfolding whole
    whole_double h xs = ap (λ (b : Bool). cond b (out cell_gate xs) (out root_gate (splice fed_pin inner_cell.pins (out inner_gate) xs))) (is_false (ltb k (length listed)) (no_ltb h))

    module _ (v : Net → X) where
      abbrev Rule : Gate → Type 0
      Rule t = v t.net ≡ out t (map v t.pins)

      phases_have : map v (map of_phase fed) ≡ map (λ (x : ℕ). v (of_phase x)) fed
      phases_have = map-map v of_phase fed

      -- the root's pins have what the fed phases have, but for the run that the inner makes one of
      at-root : v (of_pair l) ≡ inside (map (λ (x : ℕ). v (of_phase x)) fed)
          → map v root_gate.pins ≡ splice fed_pin inner_cell.pins (out inner_gate) (map (λ (x : ℕ). v (of_phase x)) fed)
      unfolding inside
      at-root e =
          splice-map v (of_pair l) (out inner_gate) fed_pin inner_cell.pins (map of_phase fed)
          (e ∙ ap (λ (xs : List X). out inner_gate (take inner_cell.pins (drop fed_pin xs))) (sym phases_have))
          ∙ ap (splice fed_pin inner_cell.pins (out inner_gate)) phases_have

      at_inner : map v inner_gate.pins ≡ take inner_cell.pins (drop fed_pin (map (λ (x : ℕ). v (of_phase x)) fed))
      at_inner = map-run v fed_pin inner_cell.pins (map of_phase fed) ∙ ap (λ (xs : List X). take inner_cell.pins (drop fed_pin xs)) phases_have

      -- from the gates to the phase
      pub to_phase : Refusal v (gates_by listed k fed l) → v (of_phase l) ≡ whole (map (λ (x : ℕ). v (of_phase x)) fed)
      unfolding inside
      to_phase r = elim (dec_le (length listed) k) [
        | no lt ↦
            let b : k < length listed = lt_of_not-le lt in
            subst (Refusal v) (gates_single b) r cell_gate (Memᴰ-head refl) ∙ ap (out cell_gate) phases_have
            ∙ sym (whole_single b (map (λ (x : ℕ). v (of_phase x)) fed))
        | yes le ↦
            let two : Refusal v (inner_gate ∷ root_gate ∷ []) = subst (Refusal v) (gates_double le) r in
            two root_gate (Memᴰ-tail (Memᴰ-head refl))
            ∙ ap (out root_gate) (at-root (two inner_gate (Memᴰ-head refl) ∙ ap (out inner_gate) at_inner))
            ∙ sym (whole_double le (map (λ (x : ℕ). v (of_phase x)) fed))
      ]

      -- and back
      pub from-phase : v (of_phase l) ≡ whole (map (λ (x : ℕ). v (of_phase x)) fed) → v (of_pair l) ≡ inside (map (λ (x : ℕ). v (of_phase x)) fed)
          → Refusal v (gates_by listed k fed l)
      unfolding inside
      from-phase e i = elim (dec_le (length listed) k) [
        | no lt ↦
            let b : k < length listed = lt_of_not-le lt in
            subst (Refusal v) (sym (gates_single b)) (only (e ∙ whole_single b (map (λ (x : ℕ). v (of_phase x)) fed) ∙ ap (out cell_gate) (sym phases_have)))
        | yes le ↦
            subst (Refusal v) (sym (gates_double le))
            (both (i ∙ ap (out inner_gate) (sym at_inner)) (e ∙ whole_double le (map (λ (x : ℕ). v (of_phase x)) fed) ∙ ap (out root_gate) (sym (at-root i))))
      ]
        where
          only : Rule cell_gate → Refusal v (cell_gate ∷ [])
          only h t (Memᴰ-head q) = subst Rule (sym q) h
          only h t (Memᴰ-tail m) = absurd (Memᴰ-not-nil m)

          both : Rule inner_gate → Rule root_gate → Refusal v (inner_gate ∷ root_gate ∷ [])
          both h j t (Memᴰ-head q) = subst Rule (sym q) h
          both h j t (Memᴰ-tail (Memᴰ-head q)) = subst Rule (sym q) j
          both h j t (Memᴰ-tail (Memᴰ-tail m)) = absurd (Memᴰ-not-nil m)

-- ---- what a gate of a phase is

-- the net inside is no phase's
pub inside-apart : (l k : ℕ) → ¬ (of_phase l ≡ of_pair k)
inside-apart l k e = true≢false (ap is_phase e)
  where
    is_phase : Net → Bool
    is_phase (of_phase n) = true
    is_phase (of_pair n) = false

-- one of the gates ts is of a listed cell, fed by the phases that feed the phase, and by the net inside where one of ts drives it; the gate inside is fed by
-- phases alone
pub record OfPhase (listed : List Cell) (fed : List ℕ) (l : ℕ) (ts : List Gate) (t : Gate) : Type 0 where
  pub is_listed : Memᴰ t.cell listed
  pub count : length t.pins ≡ t.cell.pins
  pub bound : Bound listed t
  pub pins : (n : Net) → Memᴰ n t.pins → Memᴰ n (map of_phase fed) ⊎ ((n ≡ of_pair l) × Memᴰ n (map (λ (u : Gate). u.net) ts))
  pub inside : t.net ≡ of_pair l → (n : Net) → Memᴰ n t.pins → Memᴰ n (map of_phase fed)

module _ (listed cells : List Cell) (fit : Fitting listed cells) (k : ℕ) (fed : List ℕ) (l : ℕ) (pins : length fed ≡ (cell_at cells k).pins) where
  long : length (map of_phase fed) ≡ (cell_at cells k).pins
  long = length-map of_phase fed ∙ pins

  pub single_bound : k < length listed → cell_at cells k ≡ cell_at listed k → OfPhase listed fed l (cell_gate listed k fed l ∷ []) (cell_gate listed k fed l)
  unfolding cell_at
  single_bound h e =
      let m = get_or_in listed k no_cell h in
      let n : length (cell_gate listed k fed l).pins ≡ (cell_gate listed k fed l).cell.pins = long ∙ ap (λ (c : Cell). c.pins) e in
      record { is_listed = m; count = n; bound = gate-bound listed fit.fits (cell_gate listed k fed l) m n; pins = λ n i. inl i; inside = λ q. absurd (inside-apart l l q) }

  module _ (p : OfPair listed (pair_at listed k)) (e : cell_at cells k ≡ cell_of_pair listed (pair_at listed k)) where
    pub double_long : length (map of_phase fed) ≡ (root_cell listed k fed l).pins + (inner_cell listed k fed l).pins - 1
    unfolding cell_of_pair pair_of pair_pins
    double_long = long ∙ ap (λ (c : Cell). c.pins) e

    pub inner_bound : OfPhase listed fed l (inner_gate listed k fed l ∷ root_gate listed k fed l ∷ []) (inner_gate listed k fed l)
    inner_bound =
        let within : (n : Net) → Memᴰ n (inner_gate listed k fed l).pins → Memᴰ n (map of_phase fed) = λ n i. drop_out
        (fed_pin listed k fed l) (map of_phase fed) n
        (take_out (inner_cell listed k fed l).pins (drop (fed_pin listed k fed l) (map of_phase fed)) n i) in
        let count : length (inner_gate listed k fed l).pins ≡ (inner_cell listed k fed l).pins = (let a = length-take
        (inner_cell listed k fed l).pins (drop (fed_pin listed k fed l) (map of_phase fed)) in let b = length-drop (fed_pin listed k fed l)
        (map of_phase fed) in let c = double_long in let h = p.has_pin in let s = p.some_pin in omega (arith, a, b, c, h, s)) in
        record {
          is_listed = p.has_inner;
          count = count;
          bound = gate-bound listed fit.fits (inner_gate listed k fed l) p.has_inner count;
          pins = λ n i. inl (within n i);
          inside = λ q n i. within n i;
        }

    pub root-bound : OfPhase listed fed l (inner_gate listed k fed l ∷ root_gate listed k fed l ∷ []) (root_gate listed k fed l)
    root-bound = record {
      is_listed = p.has_root;
      count = count;
      bound = gate-bound listed fit.fits (root_gate listed k fed l) p.has_root count;
      pins = λ n i. (⊎_elim inl (λ e. inr (e, Memᴰ-head e))
          (splice_out (fed_pin listed k fed l) (inner_cell listed k fed l).pins (of_pair l) (map of_phase fed) n i));
      inside = λ q. absurd (inside-apart l l q);
    }
      where
        count : length (root_gate listed k fed l).pins ≡ (root_cell listed k fed l).pins
        count = omega (
          arith,
          (splice-length (fed_pin listed k fed l) (inner_cell listed k fed l).pins (λ (_ : List Net). of_pair l)
              (map of_phase fed) (omega (arith, double_long, p.has_pin, p.some_pin))),
          double_long,
          p.has_pin,
          p.some_pin,
        )

  pub of_phase_lem : Numbered listed cells k → (t : Gate) → Memᴰ t (gates_by listed k fed l) → OfPhase listed fed l (gates_by listed k fed l) t
  of_phase_lem (single h e) = subst (λ (ts : List Gate). (t : Gate) → Memᴰ t ts → OfPhase listed fed l ts t) (sym (gates_single listed k fed l h))
      (λ x y. by_member y (λ q. subst (OfPhase listed fed l (cell_gate listed k fed l ∷ [])) (sym q) (single_bound h e))
      (λ i. absurd (Memᴰ-not-nil i)))
  of_phase_lem (double h p e) = subst (λ (ts : List Gate). (t : Gate) → Memᴰ t ts → OfPhase listed fed l ts t) (sym (gates_double listed k fed l h)) two
    where
      two : (t : Gate) → Memᴰ t (inner_gate listed k fed l ∷ root_gate listed k fed l ∷ []) → OfPhase listed fed l (inner_gate listed k fed l ∷ root_gate listed k fed l ∷ []) t
      two t (Memᴰ-head q) = subst (OfPhase listed fed l (inner_gate listed k fed l ∷ root_gate listed k fed l ∷ [])) (sym q) (inner_bound p e)
      two t (Memᴰ-tail (Memᴰ-head q)) = subst (OfPhase listed fed l (inner_gate listed k fed l ∷ root_gate listed k fed l ∷ [])) (sym q) (root-bound p e)
      two t (Memᴰ-tail (Memᴰ-tail i)) = absurd (Memᴰ-not-nil i)
