-- What a move asked for where it was made, and what it left.
use Rattle.base.specs.{ℕ, zero, suc, ◌<◌, arith, ◌≡◌, sym, ◌∙◌, ap, ap₂, subst, Bool, true, false, cond, ◌&&◌, Option, Some}
use Rattle.base.specs.{List, [], ◌∷◌, ◌++◌, map, Memᴰ, Memᴰ-head, Memᴰ-tail, Memᴰ-not-nil, T, eqb, ltb, leb, eqb→eq, ltb→lt, length, get_or}
use Rattle.base.specs.{take, and_yes, yes_ltb}
use Rattle.model.specs.{and_then, only, var_of, negated, cell_at, And, latest}
use Rattle.model.specs.Graph.{Graph}
use Rattle.model.specs.declared.Cell.{Cell}
use Rattle.theory_graph.proofs.{get_or_in, is_true}
use Rattle.theory_text.proofs.{only_out, then_out}
use Rattle.theory_demands.proofs.{map-take}
use Rattle.certificate_model.specs.declared.Row.{Row}
use Rattle.certificate_model.specs.declared.Feed.{Feed}
use Rattle.certificate_model.specs.{Made, Move, HasCapacity, State, add, again, alias, and, and_at, at, block, block_vars, conj, done, feed_arrivals, feed_pins, feed_rows}
use Rattle.certificate_model.specs.{feed_tables, fed_at, fold, gate_at, gate_row, gate_table, lit_table, made_of, move, no_made, no_row, phased, pin, pin_nets, push}
use Rattle.certificate_model.specs.{push_equal, push_fact, push_net, push_var, row, same_row, with_gate}

pub some-once : {A : Type 0} {a b : A} → ◌≡◌ {A = Option A} (Some a) (Some b) → a ≡ b
some-once e = cc

-- ---- rows

pub at_in : (rows : List Row) (i : ℕ) (e : Row) → at rows i ≡ Some e → Memᴰ e rows
unfolding at
at_in rows i e q =
    let o = only_out (ltb i (length rows)) (get_or rows i no_row) e q in
    subst (λ (x : Row). Memᴰ x rows) o.1 (get_or_in rows i no_row (ltb→lt i (length rows) o.0))

pub push-is : (capacity : ℕ) (rows : List Row) (e : Row) (rs : List Row) → push capacity rows e ≡ Some rs → rows ++ (e ∷ []) ≡ rs
unfolding push
push-is capacity rows e rs q = (only_out (ltb (length rows) capacity) (rows ++ (e ∷ [])) rs q).1

same_row_lem : (x y : Row) → T (same_row x y) → x ≡ y
unfolding same_row
same_row_lem x y t =
    let p = and_yes (eqb x.a y.a) (eqb x.b y.b && (eqb x.c y.c && eqb x.d y.d)) t in
    let q = and_yes (eqb x.b y.b) (eqb x.c y.c && eqb x.d y.d) p.1 in
    let r = and_yes (eqb x.c y.c) (eqb x.d y.d) q.1 in
    let a : x.a ≡ y.a = eqb→eq x.a y.a p.0 in
    let b : x.b ≡ y.b = eqb→eq x.b y.b q.0 in
    let c : x.c ≡ y.c = eqb→eq x.c y.c r.0 in
    let d : x.d ≡ y.d = eqb→eq x.d y.d r.1 in
    ap₂ (λ (m n : ℕ). record { a = m; b = n; c = x.c; d = x.d }) a b ∙ ap₂ (λ (m n : ℕ). record { a = y.a; b = y.b; c = m; d = n }) c d

-- the table t of literal l, by a row of the block's variables
pub record Tabled (vars : List Row) (l t : ℕ) : Type 0 where
  pub by : Row
  pub is_in : Memᴰ by vars
  pub is_var : by.a ≡ var_of l
  pub is_table : phased (negated l) by.b ≡ t

lit_tabled : (vars : List Row) (i l t : ℕ) → lit_table vars i l ≡ Some t → Tabled vars l t
unfolding lit_table
lit_tabled vars i l t q =
    let o = then_out (at vars i) (λ e. only (eqb e.a (var_of l)) (phased (negated l) e.b)) t q in
    let p = only_out (eqb o.0.a (var_of l)) (phased (negated l) o.0.b) t o.2 in
    record { by = o.0; is_in = at_in vars i o.0 o.1; is_var = eqb→eq o.0.a (var_of l) p.0; is_table = p.1 }

-- ---- a gate's pins

-- the rows of a gate's pins, of as many as its cell has
abbrev pub rows_of : ℕ → Feed → List Row
rows_of pins f = take pins (f.first ∷ f.second ∷ f.third ∷ f.fourth ∷ [])

take_all : (P : Row → Type 0) (n : ℕ) (xs : List Row) → ((j : ℕ) → j < n → j < length xs → P (get_or xs j no_row)) → (e : Row) → Memᴰ e (take n xs) → P e
take_all P zero xs h e m = absurd (Memᴰ-not-nil m)
take_all P (suc n) [] h e m = absurd (Memᴰ-not-nil m)
take_all P (suc n) (x ∷ xs) h e (Memᴰ-head q) = subst P (sym q) (h 0 (omega arith) (omega arith))
take_all P (suc n) (x ∷ xs) h e (Memᴰ-tail m) = take_all P n xs (λ j a b. h (suc j) (omega arith) (omega arith)) e m

fed_in : (nets : List Row) (pins j i : ℕ) (e : Row) → fed_at nets pins j i ≡ Some e → j < pins → Memᴰ e nets
unfolding fed_at
fed_in nets pins j i e q h =
    at_in nets i e (sym (ap (λ (b : Bool). cond b (at nets i) (Some no_row)) (is_true (ltb j pins) (yes_ltb h))) ∙ q)

-- every row of a gate's pins is one of the block's nets
abbrev pub Fed : List Row → ℕ → Feed → Type 0
Fed nets pins f = (e : Row) → Memᴰ e (rows_of pins f) → Memᴰ e nets

feed_in : (nets : List Row) (pins : ℕ) (slots : Row) (f : Feed) → feed_rows nets pins slots ≡ Some f → Fed nets pins f
unfolding feed_rows
feed_in nets pins slots f q =
    let o = then_out (fed_at nets pins 0 slots.a) (λ x.
    and_then (fed_at nets pins 1 slots.b) (λ y. and_then (fed_at nets pins 2 slots.c) (λ z.
    and_then (fed_at nets pins 3 slots.d) (λ t. Some (record { first = x; second = y; third = z; fourth = t }))))) f q in
    let p = then_out (fed_at nets pins 1 slots.b) (λ y. and_then (fed_at nets pins 2 slots.c) (λ z.
    and_then (fed_at nets pins 3 slots.d) (λ t. Some (record { first = o.0; second = y; third = z; fourth = t })))) f o.2 in
    let r = then_out (fed_at nets pins 2 slots.c) (λ z.
    and_then (fed_at nets pins 3 slots.d) (λ t. Some (record { first = o.0; second = p.0; third = z; fourth = t }))) f p.2 in
    let s = then_out (fed_at nets pins 3 slots.d) (λ t. Some (record { first = o.0; second = p.0; third = r.0; fourth = t })) f r.2 in
    let is : record { first = o.0; second = p.0; third = r.0; fourth = s.0 } ≡ f = some-once s.2 in
    subst (Fed nets pins) is (take_all (λ e. Memᴰ e nets) pins (o.0 ∷ p.0 ∷ r.0 ∷ s.0 ∷ [])
    (each_of (fed_in nets pins 0 slots.a o.0 o.1) (fed_in nets pins 1 slots.b p.0 p.1)
    (fed_in nets pins 2 slots.c r.0 r.1) (fed_in nets pins 3 slots.d s.0 s.1)))
  where
    each_of : {x y z t : Row} → (0 < pins → Memᴰ x nets) → (1 < pins → Memᴰ y nets) → (2 < pins → Memᴰ z nets) → (3 < pins → Memᴰ t nets)
        → (j : ℕ) → j < pins → j < 4 → Memᴰ (get_or (x ∷ y ∷ z ∷ t ∷ []) j no_row) nets
    each_of x y z t zero h k = x h
    each_of x y z t (suc zero) h k = y h
    each_of x y z t (suc (suc zero)) h k = z h
    each_of x y z t (suc (suc (suc zero))) h k = t h
    each_of x y z t (suc (suc (suc (suc j)))) h k = absurd (let q : suc (suc (suc (suc j))) < 4 = k in omega arith)

-- the row e of net n, which a gate of cell c drives, fed by these rows
pub record Drives (c : Cell) (n : ℕ) (f : Feed) (e : Row) : Type 0 where
  pub is_net : n ≡ e.a
  pub is_table : gate_table c.table (map (λ (x : Row). x.b) (rows_of c.pins f)) ≡ e.b
  pub is_high : latest (map (λ (x : Row). x.c) (rows_of c.pins f)) c.delays ≡ e.c
  pub is_low : latest (map (λ (x : Row). x.d) (rows_of c.pins f)) c.mins ≡ e.d

-- the nets of the pins are those of their rows
pub pins-fed : (pins : ℕ) (f : Feed) → map (λ (x : Row). x.a) (rows_of pins f) ≡ pin_nets pins (feed_pins f)
unfolding pin_nets feed_pins row
pins-fed pins f = map-take (λ (x : Row). x.a) pins (f.first ∷ f.second ∷ f.third ∷ f.fourth ∷ [])

row-drives : (c : Cell) (n : ℕ) (f : Feed) (e : Row) → gate_row c n f ≡ Some e → Drives c n f e
unfolding gate_row row pin_nets feed_tables feed_arrivals
row-drives c n f e q =
    let rows : List Row = f.first ∷ f.second ∷ f.third ∷ f.fourth ∷ [] in
    let high : ℕ = latest (pin_nets c.pins (feed_arrivals true f)) c.delays in
    let low : ℕ = latest (pin_nets c.pins (feed_arrivals false f)) c.mins in
    let o = only_out (leb high 4294967295 && leb low 4294967295) (row n (gate_table c.table (pin_nets c.pins (feed_tables f))) high low) e q in
    record {
      is_net = ap (λ (x : Row). x.a) o.1;
      is_table = ap (gate_table c.table) (map-take (λ (x : Row). x.b) c.pins rows) ∙ ap (λ (x : Row). x.b) o.1;
      is_high = ap (λ (ts : List ℕ). latest ts c.delays) (map-take (λ (x : Row). x.c) c.pins rows) ∙ ap (λ (x : Row). x.c) o.1;
      is_low = ap (λ (ts : List ℕ). latest ts c.mins) (map-take (λ (x : Row). x.d) c.pins rows) ∙ ap (λ (x : Row). x.d) o.1;
    }

-- ---- what is left

abbrev pub with_vars : State → List Row → State
with_vars s vs = record { vars = vs; nets = s.nets; facts = s.facts; equals = s.equals; gates = s.gates; driven = s.driven }

abbrev pub with_nets : State → List Row → State
with_nets s ns = record { vars = s.vars; nets = ns; facts = s.facts; equals = s.equals; gates = s.gates; driven = s.driven }

abbrev pub with_facts : State → List Row → State
with_facts s fs = record { vars = s.vars; nets = s.nets; facts = fs; equals = s.equals; gates = s.gates; driven = s.driven }

abbrev pub with_equals : State → List Row → State
with_equals s es = record { vars = s.vars; nets = s.nets; facts = s.facts; equals = es; gates = s.gates; driven = s.driven }

abbrev pub in_block : State → Row → State
in_block s x = record { vars = block_vars x; nets = []; facts = s.facts; equals = s.equals; gates = s.gates; driven = s.driven }

var-pushed : (s : State) (u t : ℕ) (r : State) → push_var s u t ≡ Some r → with_vars s (s.vars ++ (row u t 0 0 ∷ [])) ≡ r
unfolding push_var
var-pushed s u t r q =
    let o = then_out (push 64 s.vars (row u t 0 0)) (λ vs. Some (with_vars s vs)) r q in
    ap (with_vars s) (push-is 64 s.vars (row u t 0 0) o.0 o.1) ∙ some-once o.2

net-pushed : (s : State) (e : Row) (r : State) → push_net s e ≡ Some r → with_nets s (s.nets ++ (e ∷ [])) ≡ r
unfolding push_net
net-pushed s e r q =
    let o = then_out (push 64 s.nets e) (λ ns. Some (with_nets s ns)) r q in
    ap (with_nets s) (push-is 64 s.nets e o.0 o.1) ∙ some-once o.2

pub fact_pushed : (capacity : HasCapacity) (s : State) (e : Row) (r : State) → push_fact capacity s e ≡ Some r → with_facts s (s.facts ++ (e ∷ [])) ≡ r
unfolding push_fact
fact_pushed capacity s e r q =
    let o = then_out (push capacity.facts s.facts e) (λ fs. Some (with_facts s fs)) r q in
    ap (with_facts s) (push-is capacity.facts s.facts e o.0 o.1) ∙ some-once o.2

equal-pushed : (capacity : HasCapacity) (s : State) (e : Row) (r : State) → push_equal capacity s e ≡ Some r → with_equals s (s.equals ++ (e ∷ [])) ≡ r
unfolding push_equal
equal-pushed capacity s e r q =
    let o = then_out (push capacity.equals s.equals e) (λ es. Some (with_equals s es)) r q in
    ap (with_equals s) (push-is capacity.equals s.equals e o.0 o.1) ∙ some-once o.2

-- ---- the moves

-- a move from s leads to t
pub data Step (cells : List Cell) (g : Graph) (s t : State) : Type 0 where
  opened : (x : Row) → in_block s x ≡ t → Step cells g s t
  joined : (x : And) (a b : ℕ) → Memᴰ x g.ands → Tabled s.vars x.left a → Tabled s.vars x.right b
      → with_vars s (s.vars ++ (row x.var (conj a b) 0 0 ∷ [])) ≡ t → Step cells g s t
  aliased : (e : Row) (a : ℕ) → Memᴰ e s.equals → Tabled s.vars e.b a → with_vars s (s.vars ++ (row e.a a 0 0 ∷ [])) ≡ t → Step cells g s t
  pinned : (e : Row) (a : ℕ) → Memᴰ e s.facts → Tabled s.vars e.b a → with_nets s (s.nets ++ (row e.a a e.c e.d ∷ [])) ≡ t → Step cells g s t
  added : (line n : ℕ) (f : Feed) (e : Row) → line < length cells → get_or s.driven n 1 ≡ 0 → Fed s.nets (cell_at cells line).pins f → Drives (cell_at cells line) n f e
      → with_nets (with_gate s (made_of n line f)) (s.nets ++ (e ∷ [])) ≡ t → Step cells g s t
  repeated : (x : Made) (f : Feed) (e : Row) → Memᴰ x s.gates → Fed s.nets (cell_at cells x.gate.b).pins f → feed_pins f ≡ x.fed
      → Drives (cell_at cells x.gate.b) x.gate.a f e → with_nets s (s.nets ++ (e ∷ [])) ≡ t → Step cells g s t
  stated : (e : Row) (l a : ℕ) → Memᴰ e s.nets → Tabled s.vars l a → e.b ≡ a → with_facts s (s.facts ++ (row e.a l e.c e.d ∷ [])) ≡ t → Step cells g s t
  folded : (e : Row) (l a : ℕ) → Memᴰ e s.vars → Tabled s.vars l a → e.b ≡ a → with_equals s (s.equals ++ (row e.a l 0 0 ∷ [])) ≡ t → Step cells g s t

and_in : (xs : List And) (i : ℕ) (x : And) → and_at xs i ≡ Some x → Memᴰ x xs
unfolding and_at
and_in xs i x q =
    let none : And = record { var = 0; left = 0; right = 0 } in
    let o = only_out (ltb i (length xs)) (get_or xs i none) x q in
    subst (λ (y : And). Memᴰ y xs) o.1 (get_or_in xs i none (ltb→lt i (length xs) o.0))

gate_in_lem : (xs : List Made) (i : ℕ) (x : Made) → gate_at xs i ≡ Some x → Memᴰ x xs
unfolding gate_at
gate_in_lem xs i x q =
    let o = only_out (ltb i (length xs)) (get_or xs i no_made) x q in
    subst (λ (y : Made). Memᴰ y xs) o.1 (get_or_in xs i no_made (ltb→lt i (length xs) o.0))

-- each move by itself

module _ (capacity : HasCapacity) (cells : List Cell) (g : Graph) (s t : State) where
  block-step : (x : Row) → move capacity cells g s (block x) ≡ Some t → Step cells g s t
  unfolding move with_gate
  block-step x q = opened x (some-once q)

  and_step : (i j k : ℕ) → move capacity cells g s (and i j k) ≡ Some t → Step cells g s t
  unfolding move with_gate
  and_step i j k q =
      let o = then_out (and_at g.ands i) (λ x. and_then (lit_table s.vars j x.left) (λ a. and_then (lit_table s.vars k x.right) (λ b. push_var s x.var (conj a b)))) t q in
      let p = then_out (lit_table s.vars j o.0.left) (λ a. and_then (lit_table s.vars k o.0.right) (λ b. push_var s o.0.var (conj a b))) t o.2 in
      let r = then_out (lit_table s.vars k o.0.right) (λ b. push_var s o.0.var (conj p.0 b)) t p.2 in
      joined o.0 p.0 r.0 (and_in g.ands i o.0 o.1) (lit_tabled s.vars j o.0.left p.0 p.1)
      (lit_tabled s.vars k o.0.right r.0 r.1) (var-pushed s o.0.var (conj p.0 r.0) t r.2)

  alias-step : (i j : ℕ) → move capacity cells g s (alias i j) ≡ Some t → Step cells g s t
  unfolding move with_gate
  alias-step i j q =
      let o = then_out (at s.equals i) (λ e. and_then (lit_table s.vars j e.b) (λ a. push_var s e.a a)) t q in
      let p = then_out (lit_table s.vars j o.0.b) (λ a. push_var s o.0.a a) t o.2 in
      aliased o.0 p.0 (at_in s.equals i o.0 o.1) (lit_tabled s.vars j o.0.b p.0 p.1) (var-pushed s o.0.a p.0 t p.2)

  pin-step : (i j : ℕ) → move capacity cells g s (pin i j) ≡ Some t → Step cells g s t
  unfolding move with_gate
  pin-step i j q =
      let o = then_out (at s.facts i) (λ e. and_then (lit_table s.vars j e.b) (λ a. push_net s (row e.a a e.c e.d))) t q in
      let p = then_out (lit_table s.vars j o.0.b) (λ a. push_net s (row o.0.a a o.0.c o.0.d)) t o.2 in
      pinned o.0 p.0 (at_in s.facts i o.0 o.1) (lit_tabled s.vars j o.0.b p.0 p.1) (net-pushed s (row o.0.a p.0 o.0.c o.0.d) t p.2)

  add_step : (line n : ℕ) (slots : Row) → move capacity cells g s (add line n slots) ≡ Some t → Step cells g s t
  unfolding move with_gate
  add_step line n slots q =
      let free : Bool = eqb (get_or s.driven n 1) 0 && ltb (length s.gates) capacity.gates in
      let o = then_out (only (ltb line (length cells) && free) (cell_at cells line)) (λ c. and_then (feed_rows s.nets c.pins slots) (λ f. and_then (gate_row c n f) (λ e. push_net (with_gate s (made_of n line f)) e))) t q in
      let h = only_out (ltb line (length cells) && free) (cell_at cells line) o.0 o.1 in
      let a = and_yes (ltb line (length cells)) free h.0 in
      let b = and_yes (eqb (get_or s.driven n 1) 0) (ltb (length s.gates) capacity.gates) a.1 in
      let p = then_out (feed_rows s.nets o.0.pins slots) (λ f. and_then (gate_row o.0 n f) (λ e. push_net (with_gate s (made_of n line f)) e)) t o.2 in
      let r = then_out (gate_row o.0 n p.0) (λ e. push_net (with_gate s (made_of n line p.0)) e) t p.2 in
      added line n p.0 r.0 (ltb→lt line (length cells) a.0) (eqb→eq (get_or s.driven n 1) 0 b.0)
      (subst (λ (c : Cell). Fed s.nets c.pins p.0) (sym h.1) (feed_in s.nets o.0.pins slots p.0 p.1))
      (subst (λ (c : Cell). Drives c n p.0 r.0) (sym h.1) (row-drives o.0 n p.0 r.0 r.1)) (net-pushed (with_gate s (made_of n line p.0)) r.0 t r.2)

  again-step : (k : ℕ) (slots : Row) → move capacity cells g s (again k slots) ≡ Some t → Step cells g s t
  unfolding move with_gate
  again-step k slots q =
      let o = then_out (gate_at s.gates k) (λ x. and_then (feed_rows s.nets (cell_at cells x.gate.b).pins slots) (λ f. and_then (only (same_row (feed_pins f) x.fed) f) (λ h.
      and_then (gate_row (cell_at cells x.gate.b) x.gate.a h) (push_net s)))) t q in
      let c : Cell = cell_at cells o.0.gate.b in
      let p = then_out (feed_rows s.nets c.pins slots) (λ f. and_then (only (same_row (feed_pins f) o.0.fed) f) (λ h. and_then (gate_row c o.0.gate.a h) (push_net s))) t o.2 in
      let r = then_out (only (same_row (feed_pins p.0) o.0.fed) p.0) (λ h. and_then (gate_row c o.0.gate.a h) (push_net s)) t p.2 in
      let h = only_out (same_row (feed_pins p.0) o.0.fed) p.0 r.0 r.1 in
      let d = then_out (gate_row c o.0.gate.a r.0) (push_net s) t r.2 in
      repeated o.0 p.0 d.0 (gate_in_lem s.gates k o.0 o.1) (feed_in s.nets c.pins slots p.0 p.1) (same_row_lem (feed_pins p.0) o.0.fed h.0)
      (row-drives c o.0.gate.a p.0 d.0 (subst (λ (f : Feed). gate_row c o.0.gate.a f ≡ Some d.0) (sym h.1) d.1)) (net-pushed s d.0 t d.2)

  done-step : (i j l : ℕ) → move capacity cells g s (done i j l) ≡ Some t → Step cells g s t
  unfolding move with_gate
  done-step i j l q =
      let o = then_out (at s.nets i) (λ e. and_then (lit_table s.vars j l) (λ a. and_then (only (eqb e.b a) (row e.a l e.c e.d)) (push_fact capacity s))) t q in
      let e : Row = row o.0.a l o.0.c o.0.d in
      let p = then_out (lit_table s.vars j l) (λ a. and_then (only (eqb o.0.b a) e) (push_fact capacity s)) t o.2 in
      let r = then_out (only (eqb o.0.b p.0) e) (push_fact capacity s) t p.2 in
      let h = only_out (eqb o.0.b p.0) e r.0 r.1 in
      stated o.0 l p.0 (at_in s.nets i o.0 o.1) (lit_tabled s.vars j l p.0 p.1) (eqb→eq o.0.b p.0 h.0)
      (ap (λ (x : Row). with_facts s (s.facts ++ (x ∷ []))) h.1 ∙ fact_pushed capacity s r.0 t r.2)

  fold_step : (i j l : ℕ) → move capacity cells g s (fold i j l) ≡ Some t → Step cells g s t
  unfolding move with_gate
  fold_step i j l q =
      let o = then_out (at s.vars i) (λ e. and_then (lit_table s.vars j l) (λ a. and_then (only (eqb e.b a) (row e.a l 0 0)) (push_equal capacity s))) t q in
      let e : Row = row o.0.a l 0 0 in
      let p = then_out (lit_table s.vars j l) (λ a. and_then (only (eqb o.0.b a) e) (push_equal capacity s)) t o.2 in
      let r = then_out (only (eqb o.0.b p.0) e) (push_equal capacity s) t p.2 in
      let h = only_out (eqb o.0.b p.0) e r.0 r.1 in
      folded o.0 l p.0 (at_in s.vars i o.0 o.1) (lit_tabled s.vars j l p.0 p.1) (eqb→eq o.0.b p.0 h.0)
      (ap (λ (x : Row). with_equals s (s.equals ++ (x ∷ []))) h.1 ∙ equal-pushed capacity s r.0 t r.2)

pub move_step : (capacity : HasCapacity) (cells : List Cell) (g : Graph) (s t : State) (m : Move) → move capacity cells g s m ≡ Some t → Step cells g s t
move_step capacity cells g s t (block x) = block-step capacity cells g s t x
move_step capacity cells g s t (and i j k) = and_step capacity cells g s t i j k
move_step capacity cells g s t (alias i j) = alias-step capacity cells g s t i j
move_step capacity cells g s t (pin i j) = pin-step capacity cells g s t i j
move_step capacity cells g s t (add line n slots) = add_step capacity cells g s t line n slots
move_step capacity cells g s t (again k slots) = again-step capacity cells g s t k slots
move_step capacity cells g s t (done i j l) = done-step capacity cells g s t i j l
move_step capacity cells g s t (fold i j l) = fold_step capacity cells g s t i j l
