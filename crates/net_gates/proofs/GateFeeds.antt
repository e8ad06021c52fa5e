-- The nets that feed a match, pin by pin, and the gates of its driver.
--     four_taken          the first of four nets are those that feed so many pins
--     root_before, ..     which net a root's pin has
--     drives_by           what drives a phase by the cell of a number are its gates
--     nothing_drives      of no driver there are no gates
--     number-pins         a number's pins are at most four
use Rattle.base.specs.{◌≡◌, refl, sym, ap, ◌∙◌, Bool, true, false, cond, List, [], ◌∷◌, map, ℕ, zero, suc, ◌+◌, ◌-◌, ◌*◌, ◌/◌, ◌%◌, ◌≤◌}
use Rattle.base.specs.{◌<◌, not-suc-le-zero, arith, eqb, ltb, length, get_or, take, drop, get_or-map, lt-ltb, le-ltb, ltb-true, ltb-false}
use Rattle.model.specs.{bit, splice, pair_pins, fed_nets, Net, of_phase, of_pair, one_gate, two_gates}
use Rattle.model.specs.declared.Cell.{Cell}
use Rattle.theory_graph.proofs.{length-map}
use Rattle.theory_demands.proofs.{map-take}
use Rattle.base_truth.specs.{places_of}
use Rattle.base_truth.proofs.{places-four}
use Rattle.cells_pairs.specs.{count_in, line_cell, id_in}
use Rattle.net_gates.specs.{net_of, phase_net, inside_net, four_nets, inner_four, root_pick, root_four, gate_of, gates_of, one_driver}
use Rattle.net_gates.specs.{two_driver, pair_driver, driver_by, pins_by, gates_under, root_in, inner_in, NumberReady, Drives, no_driver}

-- the first of the four nets are those that feed so many pins
four-places : (places : List ℕ) → length places ≡ 4 → (mask : ℕ) (leaves : List ℕ) (n : ℕ) → n ≤ 4 → take n (four_nets places mask leaves) ≡ fed_nets n places mask leaves
unfolding fed_nets bit
four-places [] e mask leaves n h = absurd (omega arith)
four-places (a ∷ []) e mask leaves n h = absurd (omega arith)
four-places (a ∷ b ∷ []) e mask leaves n h = absurd (omega arith)
four-places (a ∷ b ∷ c ∷ []) e mask leaves n h = absurd (omega arith)
four-places (a ∷ b ∷ c ∷ d ∷ x ∷ xs) e mask leaves n h = absurd (omega arith)
four-places (a ∷ b ∷ c ∷ d ∷ []) e mask leaves zero h = refl
four-places (a ∷ b ∷ c ∷ d ∷ []) e mask leaves (suc zero) h = refl
four-places (a ∷ b ∷ c ∷ d ∷ []) e mask leaves (suc (suc zero)) h = refl
four-places (a ∷ b ∷ c ∷ d ∷ []) e mask leaves (suc (suc (suc zero))) h = refl
four-places (a ∷ b ∷ c ∷ d ∷ []) e mask leaves (suc (suc (suc (suc zero)))) h = refl
four-places (a ∷ b ∷ c ∷ d ∷ []) e mask leaves (suc (suc (suc (suc (suc n))))) h = absurd (omega arith)

pub four_taken : (k : ℕ) → k < 24 → (mask : ℕ) (leaves : List ℕ) (n : ℕ) → n ≤ 4 → take n (four_nets (places_of k) mask leaves) ≡ fed_nets n (places_of k) mask leaves
four_taken k h = four-places (places_of k) (places-four k h)

-- ---- nets by their numbers

net-phase : (l : ℕ) → net_of (phase_net l) ≡ of_phase l
unfolding net_of
net-phase l =
    let e : 2 * l % 2 ≡ 0 = omega arith in
    let h : 2 * l / 2 ≡ l = omega arith in
    (λ i. cond (eqb (e i) 1) (of_pair (2 * l / 2)) (of_phase (2 * l / 2))) ∙ ap of_phase h

net-inside : (l : ℕ) → net_of (inside_net l) ≡ of_pair l
unfolding net_of
net-inside l =
    let e : (2 * l + 1) % 2 ≡ 1 = omega arith in
    let h : (2 * l + 1) / 2 ≡ l = omega arith in
    (λ i. cond (eqb (e i) 1) (of_pair ((2 * l + 1) / 2)) (of_phase ((2 * l + 1) / 2))) ∙ ap of_pair h

nets-phase : (ps : List ℕ) → map net_of (map phase_net ps) ≡ map of_phase ps
nets-phase [] = refl
nets-phase (p ∷ ps) = λ i. net-phase p i ∷ nets-phase ps i

-- ---- the root's nets

module _ {A : Type 0} (at : ℕ → A) (s : A) (pin n j : ℕ) where
  pub root_before : j < pin → root_pick at s pin n j ≡ at j
  unfolding root_pick
  root_before h = ap (λ (b : Bool). cond b (at j) (cond (ltb pin j) (at (j + n - 1)) s)) (lt-ltb j pin h)

  pub root-behind : pin < j → root_pick at s pin n j ≡ at (j + n - 1)
  unfolding root_pick
  root-behind h = (λ i. cond (le-ltb j pin (let l : pin ≤ j = omega arith in l) i) (at j) (cond (ltb pin j) (at (j + n - 1)) s)) ∙ ap (λ (b : Bool). cond b (at (j + n - 1)) s) (lt-ltb pin j h)

  pub root-fed : pin ≤ j → j ≤ pin → root_pick at s pin n j ≡ s
  unfolding root_pick
  root-fed h g = (λ i. cond (le-ltb j pin h i) (at j) (cond (ltb pin j) (at (j + n - 1)) s)) ∙ ap (λ (b : Bool). cond b (at (j + n - 1)) s) (le-ltb pin j g)

-- a net of them under a function
module _ {A B : Type 0} (f : A → B) (at : ℕ → A) (s : A) (pin n : ℕ) where
  under : (b : Bool) (x y : A) → f (cond b x y) ≡ cond b (f x) (f y)
  under true x y = refl
  under false x y = refl

  pick_map : (j : ℕ) → f (root_pick at s pin n j) ≡ root_pick (λ (k : ℕ). f (at k)) (f s) pin n j
  unfolding root_pick
  pick_map j = under (ltb j pin) (at j) (cond (ltb pin j) (at (j + n - 1)) s) ∙ ap (cond (ltb j pin) (f (at j))) (under (ltb pin j) (at (j + n - 1)) s)

  four-map : map f (root_four at s pin n) ≡ root_four (λ (k : ℕ). f (at k)) (f s) pin n
  four-map = λ i. pick_map 0 i ∷ pick_map 1 i ∷ pick_map 2 i ∷ pick_map 3 i ∷ []

-- of four nets: the inner's are those from the fed pin's place on, the root's are those with the inner's as one. r pins of the root, n of the inner
pair-nets : {A : Type 0} (a b c d x e : A) (r n pin : ℕ) → pin < r → 1 ≤ n → r + n ≤ 5
    → let q = a ∷ b ∷ c ∷ d ∷ [] in
    (take n (inner_four (λ (j : ℕ). get_or q j e) pin) ≡ take n (drop pin (take (r + n - 1) q)))
    × (take r (root_four (λ (j : ℕ). get_or q j e) x pin n) ≡ splice pin n (λ (_ : List A). x) (take (r + n - 1) q))
unfolding root_pick splice
pair-nets a b c d x e zero n pin f g h = absurd (not-suc-le-zero f)
pair-nets a b c d x e (suc zero) zero pin f g h = absurd (not-suc-le-zero g)
pair-nets a b c d x e (suc zero) (suc zero) zero f g h = (refl, refl)
pair-nets a b c d x e (suc zero) (suc zero) (suc pin) f g h = absurd (omega arith)
pair-nets a b c d x e (suc zero) (suc (suc zero)) zero f g h = (refl, refl)
pair-nets a b c d x e (suc zero) (suc (suc zero)) (suc pin) f g h = absurd (omega arith)
pair-nets a b c d x e (suc zero) (suc (suc (suc zero))) zero f g h = (refl, refl)
pair-nets a b c d x e (suc zero) (suc (suc (suc zero))) (suc pin) f g h = absurd (omega arith)
pair-nets a b c d x e (suc zero) (suc (suc (suc (suc zero)))) zero f g h = (refl, refl)
pair-nets a b c d x e (suc zero) (suc (suc (suc (suc zero)))) (suc pin) f g h = absurd (omega arith)
pair-nets a b c d x e (suc zero) (suc (suc (suc (suc (suc n))))) pin f g h = absurd (omega arith)
pair-nets a b c d x e (suc (suc zero)) zero pin f g h = absurd (not-suc-le-zero g)
pair-nets a b c d x e (suc (suc zero)) (suc zero) zero f g h = (refl, refl)
pair-nets a b c d x e (suc (suc zero)) (suc zero) (suc zero) f g h = (refl, refl)
pair-nets a b c d x e (suc (suc zero)) (suc zero) (suc (suc pin)) f g h = absurd (omega arith)
pair-nets a b c d x e (suc (suc zero)) (suc (suc zero)) zero f g h = (refl, refl)
pair-nets a b c d x e (suc (suc zero)) (suc (suc zero)) (suc zero) f g h = (refl, refl)
pair-nets a b c d x e (suc (suc zero)) (suc (suc zero)) (suc (suc pin)) f g h = absurd (omega arith)
pair-nets a b c d x e (suc (suc zero)) (suc (suc (suc zero))) zero f g h = (refl, refl)
pair-nets a b c d x e (suc (suc zero)) (suc (suc (suc zero))) (suc zero) f g h = (refl, refl)
pair-nets a b c d x e (suc (suc zero)) (suc (suc (suc zero))) (suc (suc pin)) f g h = absurd (omega arith)
pair-nets a b c d x e (suc (suc zero)) (suc (suc (suc (suc n)))) pin f g h = absurd (omega arith)
pair-nets a b c d x e (suc (suc (suc zero))) zero pin f g h = absurd (not-suc-le-zero g)
pair-nets a b c d x e (suc (suc (suc zero))) (suc zero) zero f g h = (refl, refl)
pair-nets a b c d x e (suc (suc (suc zero))) (suc zero) (suc zero) f g h = (refl, refl)
pair-nets a b c d x e (suc (suc (suc zero))) (suc zero) (suc (suc zero)) f g h = (refl, refl)
pair-nets a b c d x e (suc (suc (suc zero))) (suc zero) (suc (suc (suc pin))) f g h = absurd (omega arith)
pair-nets a b c d x e (suc (suc (suc zero))) (suc (suc zero)) zero f g h = (refl, refl)
pair-nets a b c d x e (suc (suc (suc zero))) (suc (suc zero)) (suc zero) f g h = (refl, refl)
pair-nets a b c d x e (suc (suc (suc zero))) (suc (suc zero)) (suc (suc zero)) f g h = (refl, refl)
pair-nets a b c d x e (suc (suc (suc zero))) (suc (suc zero)) (suc (suc (suc pin))) f g h = absurd (omega arith)
pair-nets a b c d x e (suc (suc (suc zero))) (suc (suc (suc n))) pin f g h = absurd (omega arith)
pair-nets a b c d x e (suc (suc (suc (suc zero)))) zero pin f g h = absurd (not-suc-le-zero g)
pair-nets a b c d x e (suc (suc (suc (suc zero)))) (suc zero) zero f g h = (refl, refl)
pair-nets a b c d x e (suc (suc (suc (suc zero)))) (suc zero) (suc zero) f g h = (refl, refl)
pair-nets a b c d x e (suc (suc (suc (suc zero)))) (suc zero) (suc (suc zero)) f g h = (refl, refl)
pair-nets a b c d x e (suc (suc (suc (suc zero)))) (suc zero) (suc (suc (suc zero))) f g h = (refl, refl)
pair-nets a b c d x e (suc (suc (suc (suc zero)))) (suc zero) (suc (suc (suc (suc pin)))) f g h = absurd (omega arith)
pair-nets a b c d x e (suc (suc (suc (suc zero)))) (suc (suc n)) pin f g h = absurd (omega arith)
pair-nets a b c d x e (suc (suc (suc (suc (suc r))))) n pin f g h = absurd (omega arith)

pair-lists : {A : Type 0} (q : List A) → length q ≡ 4 → (x e : A) (r n pin : ℕ) → pin < r → 1 ≤ n → r + n ≤ 5
    → (take n (inner_four (λ (j : ℕ). get_or q j e) pin) ≡ take n (drop pin (take (r + n - 1) q)))
    × (take r (root_four (λ (j : ℕ). get_or q j e) x pin n) ≡ splice pin n (λ (_ : List A). x) (take (r + n - 1) q))
pair-lists (a ∷ b ∷ c ∷ d ∷ []) four x e = pair-nets a b c d x e
pair-lists [] four x e = absurd (omega arith)
pair-lists (a ∷ []) four x e = absurd (omega arith)
pair-lists (a ∷ b ∷ []) four x e = absurd (omega arith)
pair-lists (a ∷ b ∷ c ∷ []) four x e = absurd (omega arith)
pair-lists (a ∷ b ∷ c ∷ d ∷ y ∷ q) four x e = absurd (omega arith)

-- ---- the gates of a driver

module _ (ps : List ℕ) (four : length ps ≡ 4) (l : ℕ) where
  -- the nets by their numbers
  abbrev nets : List ℕ
  nets = map phase_net ps

  abbrev at : ℕ → Net
  at j = get_or (map of_phase ps) j (of_phase 0)

  net-at : (j : ℕ) → net_of (get_or nets j 0) ≡ at j
  net-at j = ap net_of (get_or-map phase_net ps j 0) ∙ net-phase (get_or ps j 0) ∙ sym (get_or-map of_phase ps j 0)

  one-nets : (n : ℕ) → map net_of (take n nets) ≡ map of_phase (take n ps)
  one-nets n = map-take net_of n nets ∙ ap (take n) (nets-phase ps) ∙ sym (map-take of_phase n ps)

  module _ (root inner : Cell) (pin : ℕ) (has_pin : pin < root.pins) (some : 1 ≤ inner.pins) (few : root.pins + inner.pins ≤ 5) where
    abbrev fed : List ℕ
    fed = take (root.pins + inner.pins - 1) ps

    lists : (take inner.pins (inner_four at pin) ≡ take inner.pins (drop pin (take (root.pins + inner.pins - 1) (map of_phase ps))))
        × (take root.pins (root_four at (of_pair l) pin inner.pins) ≡ splice pin inner.pins (λ (_ : List Net). of_pair l) (take (root.pins + inner.pins - 1) (map of_phase ps)))
    lists = pair-lists (map of_phase ps) (length-map of_phase ps ∙ four) (of_pair l) (of_phase 0) root.pins inner.pins pin has_pin some few

    inner-nets : map net_of (take inner.pins (inner_four (λ (j : ℕ). get_or nets j 0) pin)) ≡ take inner.pins (drop pin (map of_phase fed))
    inner-nets =
        map-take net_of inner.pins (inner_four (λ (j : ℕ). get_or nets j 0) pin)
        ∙ (λ i. take inner.pins (inner_four (λ (j : ℕ). net-at j i) pin))
        ∙ lists.0
        ∙ ap (λ (q : List Net). take inner.pins (drop pin q)) (sym (map-take of_phase (root.pins + inner.pins - 1) ps))

    root-nets : map net_of (take root.pins (root_four (λ (j : ℕ). get_or nets j 0) (inside_net l) pin inner.pins)) ≡ splice pin inner.pins (λ (_ : List Net). of_pair l) (map of_phase fed)
    root-nets =
        map-take net_of root.pins (root_four (λ (j : ℕ). get_or nets j 0) (inside_net l) pin inner.pins)
        ∙ ap (take root.pins) (four-map net_of (λ (j : ℕ). get_or nets j 0) (inside_net l) pin inner.pins)
        ∙ (λ i. take root.pins (root_four (λ (j : ℕ). net-at j i) (net-inside l i) pin inner.pins))
        ∙ lists.1
        ∙ ap (splice pin inner.pins (λ (_ : List Net). of_pair l)) (sym (map-take of_phase (root.pins + inner.pins - 1) ps))

    two_drive : Drives (two_driver root pin inner nets l) (two_gates root pin inner fed l)
    unfolding gates_of gate_of two_gates
    two_drive = record {
      is_gate = λ i. record { cell = inner; pins = inner-nets i; net = net-inside l i } ∷ record { cell = root; pins = root-nets i; net = net-phase l i } ∷ [];
      few = (omega arith, omega arith);
      none = λ e. absurd (omega (arith, ap length e));
    }

  one-drives : (c : Cell) → c.pins ≤ 4 → Drives (one_driver c nets c.pins l) (one_gate c (take c.pins ps) l)
  unfolding gates_of gate_of one_gate
  one-drives c h = record { is_gate = λ i. record { cell = c; pins = one-nets c.pins i; net = net-phase l i } ∷ []; few = h; none = λ e. absurd (omega (arith, ap length e)) }

  pub drives_by : (records : List ℕ) (k : ℕ) → NumberReady records k → Drives (driver_by records k nets l) (gates_under records k (take (pins_by records k) ps) l)
  unfolding driver_by gates_under pins_by pair_pins
  drives_by records k ready = go (ltb k (count_in records)) refl
    where
      go : (b : Bool) → ltb k (count_in records) ≡ b
          → Drives (cond b (one_driver (line_cell records k) nets (line_cell records k).pins l) (pair_driver records (id_in records k) nets l))
          (cond b (one_gate (line_cell records k) (take (cond b (line_cell records k).pins ((root_in records (id_in records k)).pins + (inner_in records (id_in records k)).pins - 1)) ps) l)
          (two_gates (root_in records (id_in records k)) (id_in records k / 32 % 4) (inner_in records (id_in records k)) (take (cond b (line_cell records k).pins ((root_in records (id_in records k)).pins + (inner_in records (id_in records k)).pins - 1)) ps) l))
      go true e = one-drives (line_cell records k) (ready.listed (ltb-true k (count_in records) e)).pins
      go false e =
          let p = ready.pair (ltb-false k (count_in records) e) in
          two_drive (root_in records (id_in records k)) (inner_in records (id_in records k)) (id_in records k / 32 % 4) p.pin p.some p.few

-- a number's pins are at most four
pub number-pins : (records : List ℕ) (k : ℕ) → NumberReady records k → pins_by records k ≤ 4
unfolding pins_by pair_pins
number-pins records k ready = go (ltb k (count_in records)) refl
  where
    go : (b : Bool) → ltb k (count_in records) ≡ b → cond b (line_cell records k).pins ((root_in records (id_in records k)).pins + (inner_in records (id_in records k)).pins - 1) ≤ 4
    go true e = (ready.listed (ltb-true k (count_in records) e)).pins
    go false e = let p = ready.pair (ltb-false k (count_in records) e) in omega (arith, p.few, p.some)

-- where no gate drives
pub nothing_drives : Drives no_driver []
unfolding gates_of
nothing_drives = record { is_gate = refl; few = tt; none = λ _. refl }

-- an inverter's
pub drives-inverted : (c : Cell) (x l : ℕ) → Drives (one_driver c (phase_net x ∷ 0 ∷ 0 ∷ 0 ∷ []) 1 l) (one_gate c (x ∷ []) l)
unfolding gates_of gate_of one_gate
drives-inverted c x l = record { is_gate = λ i. record { cell = c; pins = net-phase x i ∷ []; net = net-phase l i } ∷ []; few = omega arith; none = λ e. absurd (omega (arith, ap length e)) }
