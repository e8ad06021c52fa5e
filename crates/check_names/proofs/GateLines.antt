-- A gate's line: its cell, and its nets.
use Rattle.base.specs.{ℕ, zero, suc, ◌+◌, ◌-◌, ◌≤◌, ◌<◌, arith, not-suc-le-zero, le_of_suc-le-suc, ◌≡◌, refl, sym, ◌∙◌, ap, subst}
use Rattle.base.specs.{Bool, true, false, cond, Option, None, Some, List, [], ◌∷◌, ◌++◌, map}
use Rattle.base.specs.{length, take, drop, get_or, replicate, length-append, length-take-le, get_or-take}
use Rattle.model.specs.{and_then, from, below, same, fields, name_of, no_cell, cells_of, Driver, pin_net, bound_nets, cell_named, gate_of_fields}
use Rattle.model.specs.declared.Cell.{Cell}
use Rattle.model.specs.declared.Library.{Library}
use Rattle.theory_graph.proofs.{length-map, length_from}
use Rattle.check_names.specs.{code, space_from, fields_from, letters, nets_of, gate_with, gate_of}
use Rattle.check_names.specs.declared.Nets.{Nets}
use Rattle.check_names.proofs.WordSplits.{fields-there, fields-none, fields-part}
use Rattle.check_names.proofs.PinLetters.{code-some, pin-named}

-- ---- nets that are bound

then_some : {A B : Type 0} (o : Option A) (f : A → Option B) (b : B) → and_then o f ≡ Some b → (a : A) × (o ≡ Some a) × (f a ≡ Some b)
unfolding and_then
then_some None f b e = let z : ◌≡◌ {A = ℕ} 0 1 = cc in absurd (let y : ⊥ = omega arith in y)
then_some (Some a) f b e = (a, refl, e)

some-once : {A : Type 0} (a b : A) → ◌≡◌ {A = Option A} (Some a) (Some b) → a ≡ b
some-once a b e = cc

-- as many as letters, each a net's
nets-long : (bs : List ℕ) (ws ns : List (List ℕ)) → bound_nets bs ws ≡ Some ns → length ns ≡ length bs
unfolding bound_nets
nets-long [] [] ns e = ap length (sym (some-once [] ns e))
nets-long [] (w ∷ ws) ns e = absurd (let z : ◌≡◌ {A = ℕ} 0 1 = cc in omega arith)
nets-long (b ∷ bs) [] ns e = absurd (let z : ◌≡◌ {A = ℕ} 0 1 = cc in omega arith)
nets-long (b ∷ bs) (w ∷ ws) ns e =
    let p = then_some (pin_net b w) _ ns e in
    let q = then_some (bound_nets bs ws) (λ ms. Some (p.0 ∷ ms)) ns p.2 in
    ap length (sym (some-once (p.0 ∷ q.0) ns q.2)) ∙ ap suc (nets-long bs ws q.0 q.1)

nets-some : (bs : List ℕ) (ws ns : List (List ℕ)) → bound_nets bs ws ≡ Some ns → (k : ℕ) → k < length bs → 0 < code (get_or ns k [])
unfolding bound_nets
nets-some [] ws ns e k h = absurd (not-suc-le-zero h)
nets-some (b ∷ bs) [] ns e k h = absurd (let z : ◌≡◌ {A = ℕ} 0 1 = cc in omega arith)
nets-some (b ∷ bs) (w ∷ ws) ns e k h =
    let p = then_some (pin_net b w) _ ns e in
    let q = then_some (bound_nets bs ws) (λ ms. Some (p.0 ∷ ms)) ns p.2 in
    subst (λ (ms : List (List ℕ)). 0 < code (get_or ms k [])) (some-once (p.0 ∷ q.0) ns q.2) (at k h p.0 q.0 (code-some p.0 (pin-named b w p.0 p.1)) (nets-some bs ws q.0 q.1))
  where
    at : (j : ℕ) → j < suc (length bs) → (m : List ℕ) (ms : List (List ℕ)) → 0 < code m → ((i : ℕ) → i < length bs → 0 < code (get_or ms i [])) → 0 < code (get_or (m ∷ ms) j [])
    at zero l m ms z later = z
    at (suc j) l m ms z later = later j (le_of_suc-le-suc l)

letters-long : (n : ℕ) → length (letters 0 n) ≡ n + 1
unfolding letters
letters-long n = length-append (map (λ (j : ℕ). 65 + j) (from 0 n)) (79 ∷ []) ∙ ap (λ (k : ℕ). k + 1) (length-map (λ (j : ℕ). 65 + j) (from 0 n) ∙ length_from n 0)

-- a gate of so many pins, with nets or without
pub gate-none : (table n : ℕ) (o : Option (List (List ℕ))) → nets_of n o ≡ None → gate_with table n o ≡ None
gate-none table n None e = refl
gate-none table n (Some ns) e = absurd (let z : ◌≡◌ {A = ℕ} 0 1 = cc in omega arith)

pub gate-some : (table n : ℕ) (o : Option (List (List ℕ))) (b : Nets) → nets_of n o ≡ Some b → gate_with table n o ≡ Some (record { table = table; count = n; codes = b.codes; net = b.net })
gate-some table n None b e = absurd (let z : ◌≡◌ {A = ℕ} 0 1 = cc in omega arith)
gate-some table n (Some ns) b e = ap (λ (x : Nets). Some (record { table = table; count = n; codes = x.codes; net = x.net })) (some-once (record { codes = map code (take n ns) ++ replicate (4 - n) 0; net = code (get_or ns n []) }) b e)

-- ---- the cell

-- a cell found is one of them
pub named-few : (cells : List Cell) (w : List ℕ) → ((i : ℕ) → i < length cells → (get_or cells i no_cell).pins ≤ 4) → (c : Cell) → cell_named cells w ≡ Some c → c.pins ≤ 4
unfolding cell_named
named-few [] w h c e = absurd (let z : ◌≡◌ {A = ℕ} 0 1 = cc in omega arith)
named-few (x ∷ cs) w h c e = go (same (name_of x) w) (named-few cs w (λ i l. h (suc i) (omega arith)) c) e
  where
    go : (b : Bool) → (cell_named cs w ≡ Some c → c.pins ≤ 4) → cond b (Some x) (cell_named cs w) ≡ Some c → c.pins ≤ 4
    go true rest q = subst (λ (y : Cell). y.pins ≤ 4) (some-once x c q) (h 0 (omega arith))
    go false rest q = rest q

pub listed-few : (lib : Library) (w : List ℕ) → lib.n ≤ 32 → length lib.cells ≡ 32 → ((i : ℕ) → i < lib.n → (get_or lib.cells i no_cell).pins ≤ 4)
    → (c : Cell) → cell_named (cells_of lib) w ≡ Some c → c.pins ≤ 4
unfolding cells_of
listed-few lib w few long h =
    let n : length (take lib.n lib.cells) ≡ lib.n = length-take-le lib.n lib.cells (omega arith) in
    named-few (take lib.n lib.cells) w (λ i l. subst (λ (y : Cell). y.pins ≤ 4) (sym (get_or-take lib.n lib.cells i no_cell (omega arith))) (h i (omega arith)))

-- ---- the line

-- what is said of a line whose cell is found
cell-gate : (cells : List Cell) (k name : List ℕ) (ws : List (List ℕ)) (c : Cell) → c.pins ≤ 4 → cell_named cells name ≡ Some c
    → gate_of (gate_of_fields cells 0 (k ∷ name ∷ ws)) ≡ gate_with c.table c.pins (bound_nets (letters 0 c.pins) ws)
unfolding gate_of_fields and_then letters below
cell-gate cells k name ws c few e =
    ap (λ (o : Option Cell). gate_of (and_then o made)) e ∙ go (bound_nets (letters 0 c.pins) ws) refl
  where
    made : Cell → Option Driver
    made x = and_then (bound_nets (map (λ (j : ℕ). 65 + j) (from 0 x.pins) ++ (79 ∷ [])) ws)
        (λ nets. Some (record { offset = 0; table = x.table; uses = take x.pins nets; net = get_or nets x.pins [] }))

    go : (o : Option (List (List ℕ))) → bound_nets (letters 0 c.pins) ws ≡ o
        → gate_of (and_then o (λ nets. Some (record { offset = 0; table = c.table; uses = take c.pins nets; net = get_or nets c.pins [] }))) ≡ gate_with c.table c.pins o
    go None q = refl
    go (Some ns) q =
        let n : length (take c.pins ns) ≡ c.pins = length-take-le c.pins ns (omega (arith, nets-long (letters 0 c.pins) ws ns q, letters-long c.pins)) in
        ap (λ (m : ℕ). Some (record { table = c.table; count = m; codes = map code (take c.pins ns) ++ replicate (4 - m) 0; net = code (get_or ns c.pins []) })) n

no_cell-gate : (cells : List Cell) (k name : List ℕ) (ws : List (List ℕ)) → cell_named cells name ≡ None → gate_of (gate_of_fields cells 0 (k ∷ name ∷ ws)) ≡ gate_of None
unfolding gate_of_fields and_then
no_cell-gate cells k name ws e = ap (λ (o : Option Cell). gate_of (and_then o (λ x. and_then (bound_nets (map (λ (j : ℕ). 65 + j) (below x.pins) ++ (79 ∷ [])) ws)
    (λ nets. Some (record { offset = 0; table = x.table; uses = take x.pins nets; net = get_or nets x.pins [] }))))) e

module _ (lib : Library) (l : List ℕ) where
  first : ℕ
  first = space_from l 0

  -- one word alone
  pub line-short : length l ≤ space_from l 0 → gate_of (gate_of_fields (cells_of lib) 0 (fields l)) ≡ gate_of None
  line-short h =
      ap (λ (ws : List (List ℕ)). gate_of (gate_of_fields (cells_of lib) 0 ws))
      (sym (fields-there l 0 (omega arith)) ∙ fields-part l 0 (omega arith) ∙ ap (λ (ws : List (List ℕ)). take (space_from l 0 - 0) (drop 0 l) ∷ ws) (fields-none l (space_from l 0 + 1) (omega arith)))
      ∙ (unfold gate_of_fields in refl)

  module _ (more : space_from l 0 < length l) where
    name-at : List ℕ
    name-at = take (space_from l (space_from l 0 + 1) - (space_from l 0 + 1)) (drop (space_from l 0 + 1) l)

    words : fields l ≡ take (space_from l 0 - 0) (drop 0 l) ∷ name-at ∷ fields_from l (space_from l (space_from l 0 + 1) + 1)
    unfolding name-at
    words =
        sym (fields-there l 0 (omega arith)) ∙ fields-part l 0 (omega arith)
        ∙ ap (λ (ws : List (List ℕ)). take (space_from l 0 - 0) (drop 0 l) ∷ ws) (fields-part l (space_from l 0 + 1) (omega arith))

    pub line_unlisted : cell_named (cells_of lib) (take (space_from l (space_from l 0 + 1) - (space_from l 0 + 1)) (drop (space_from l 0 + 1) l)) ≡ None
        → gate_of (gate_of_fields (cells_of lib) 0 (fields l)) ≡ None
    unfolding name-at
    line_unlisted h = ap (λ (ws : List (List ℕ)). gate_of (gate_of_fields (cells_of lib) 0 ws)) words ∙ no_cell-gate (cells_of lib) _ name-at _ h

    pub line-listed : (c : Cell) → cell_named (cells_of lib) (take (space_from l (space_from l 0 + 1) - (space_from l 0 + 1)) (drop (space_from l 0 + 1) l)) ≡ Some c → c.pins ≤ 4
        → gate_with c.table c.pins (bound_nets (letters 0 c.pins) (fields_from l (space_from l (space_from l 0 + 1) + 1))) ≡ gate_of (gate_of_fields (cells_of lib) 0 (fields l))
    unfolding name-at
    line-listed c e few-pins =
        sym (ap (λ (ws : List (List ℕ)). gate_of (gate_of_fields (cells_of lib) 0 ws)) words ∙ cell-gate (cells_of lib) _ name-at _ c few-pins e)

-- ---- the driver

-- the line's place is the driver's, and its net has a number; of the place nothing else is said
pub driver-net : (cells : List Cell) (at : ℕ) (ws : List (List ℕ)) (d : Driver) → gate_of_fields cells at ws ≡ Some d → (0 < code d.net) × (d.offset ≡ at)
unfolding gate_of_fields letters below
driver-net cells at [] d e = absurd (let z : ◌≡◌ {A = ℕ} 0 1 = cc in omega arith)
driver-net cells at (k ∷ []) d e = absurd (let z : ◌≡◌ {A = ℕ} 0 1 = cc in omega arith)
driver-net cells at (k ∷ name ∷ ws) d e =
    let p = then_some (cell_named cells name) _ d e in
    let c = p.0 in
    let q = then_some (bound_nets (letters 0 c.pins) ws) (λ nets. Some (record { offset = at; table = c.table; uses = take c.pins nets; net = get_or nets c.pins [] })) d p.2 in
    let r = some-once (record { offset = at; table = c.table; uses = take c.pins q.0; net = get_or q.0 c.pins [] }) d q.2 in
    (subst (λ (x : Driver). 0 < code x.net) r (nets-some (letters 0 c.pins) ws q.0 q.1 c.pins (omega (arith, letters-long c.pins))), sym (ap (λ (x : Driver). x.offset) r))

pub driver_anywhere : (cells : List Cell) (at : ℕ) (ws : List (List ℕ)) → gate_of (gate_of_fields cells at ws) ≡ gate_of (gate_of_fields cells 0 ws)
unfolding gate_of_fields
driver_anywhere cells at [] = refl
driver_anywhere cells at (k ∷ []) = refl
driver_anywhere cells at (k ∷ name ∷ ws) = go (cell_named cells name)
  where
    bound : (c : Cell) (o : Option (List (List ℕ))) → gate_of (and_then o (λ nets. Some (record { offset = at; table = c.table; uses = take c.pins nets; net = get_or nets c.pins [] })))
        ≡ gate_of (and_then o (λ nets. Some (record { offset = 0; table = c.table; uses = take c.pins nets; net = get_or nets c.pins [] })))
    bound c None = unfold and_then in refl
    bound c (Some ns) = unfold and_then in refl

    go : (o : Option Cell) → gate_of (and_then o (λ c. and_then (bound_nets (map (λ (j : ℕ). 65 + j) (below c.pins) ++ (79 ∷ [])) ws) (λ nets. Some (record { offset = at; table = c.table; uses = take c.pins nets; net = get_or nets c.pins [] }))))
        ≡ gate_of (and_then o (λ c. and_then (bound_nets (map (λ (j : ℕ). 65 + j) (below c.pins) ++ (79 ∷ [])) ws) (λ nets. Some (record { offset = 0; table = c.table; uses = take c.pins nets; net = get_or nets c.pins [] }))))
    go None = unfold and_then in refl
    go (Some c) = unfold and_then in bound c (bound_nets (map (λ (j : ℕ). 65 + j) (below c.pins) ++ (79 ∷ [])) ws)

-- the same of the places that the code has
module _ (lib : Library) (l : List ℕ) where
  abbrev Unlisted : ℕ → ℕ → Type 0
  Unlisted a b = cell_named (cells_of lib) (take (b - (a + 1)) (drop (a + 1) l)) ≡ None → gate_of (gate_of_fields (cells_of lib) 0 (fields l)) ≡ None

  abbrev IsListed : ℕ → ℕ → Type 0
  IsListed a b = (c : Cell) → cell_named (cells_of lib) (take (b - (a + 1)) (drop (a + 1) l)) ≡ Some c → c.pins ≤ 4
      → gate_with c.table c.pins (bound_nets (letters 0 c.pins) (fields_from l (b + 1))) ≡ gate_of (gate_of_fields (cells_of lib) 0 (fields l))

  pub at_places : (a b : ℕ) → a ≡ space_from l 0 → b ≡ space_from l (a + 1) → a < length l → Unlisted a b × IsListed a b
  at_places a b p q h =
      subst (λ (x : ℕ). Unlisted x b × IsListed x b) (sym p) (subst (λ (y : ℕ). Unlisted (space_from l 0) y × IsListed (space_from l 0) y) (sym (q ∙ ap (λ (x : ℕ). space_from l (x + 1)) p))
      (line_unlisted lib l more, line-listed lib l more))
    where
      more : space_from l 0 < length l
      more = subst (λ (x : ℕ). x < length l) p h
