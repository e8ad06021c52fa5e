-- The drivers that the check reads from a netlist mean what the text means as BLIF: where `read_netlist` holds, `read_blif` reads, and the two have the same
-- values.
use Rattle.base.specs.{ℕ, zero, suc, ◌+◌, ◌≤◌, ◌<◌, add-zero, arith, ◌≡◌, refl, sym, ◌∙◌, ap, ap₂, subst, inl, inr, ⊎_elim, Bool, true}
use Rattle.base.specs.{false, cond, ◌&&◌, true≢false, false≢true, Option, None, Some, List, [], ◌∷◌, ◌++◌, map, reverse, reverse-cons}
use Rattle.base.specs.{append_assoc, append-nil, Memᴰ, Memᴰ-head, Memᴰ-tail, Memᴰ-not-nil, Memᴰ-append_cases}
use Rattle.base.specs.{Memᴰ-append_left, Memᴰ-append_right, T, eqb, eqb→eq, lit<, length, take, get_or, take-append_seam, get_or-append-add}
use Rattle.base.specs.{and_yes, eqb_yes}
use Rattle.model.specs.{each, same, and_then, only, from, below, Line, ended_by_ten, text, closing, lines_from, onto, split, parts, fields}
use Rattle.model.specs.{holds, next, from?, value, row_of, name_of, literal, net_name, out_name, Binding, GateLine, Wire, Body, longer, binding}
use Rattle.model.specs.{bindings_of, after_word, words_after, read_gate, wire_of, read_wire, read_wires, body_from, read_body, read_lines, read_blif}
use Rattle.model.specs.{named, net_at, pin_names, output_name, drives, fed_by, NetValues, Driver, is_net, pin_net, bound_nets, cell_named}
use Rattle.model.specs.{gate_of_fields, gate_driver, is_gate, name_driver, is_line, past_row, read_names, read_drivers, past_lines, input_nets}
use Rattle.model.specs.{output_nets, preamble_of, read_netlist, ValuesUnder, MeansText}
use Rattle.model.specs.Graph.{Graph}
use Rattle.model.specs.Blif.{Blif, gate_of}
use Rattle.model.specs.declared.Cell.{Cell}
use Rattle.theory_graph.proofs.{map-map, map_same, same-eq, from_low, by_bool, by_list}
use Rattle.theory_text.proofs.{Free, above, decimal-free, net-free, free-reverse, lines_step, parts-line, at_first, at-later, no_gate-end}
use Rattle.theory_text.proofs.{fault_never, holds-once, unless_out, from_out, next_out, then_out, only_out}
use Rattle.theory_check.proofs.CheckSteps.{three}
use Rattle.theory_check.proofs.PrintedNets.{wire-value}

is_some : {A : Type 0} → Option A → Bool
is_some None = false
is_some (Some a) = true

none_never : {A : Type 0} {a : A} → None ≡ Some a → ⊥
unfolding is_some
none_never e = false≢true (ap is_some e)

some-once : {A : Type 0} {a b : A} → Some a ≡ Some b → a ≡ b
some-once e = cc

-- ---- lines by either reader

-- each line that byte 10 alone ends is a part, up to the first line that is not so ended
data Along : List Line → List (List ℕ) → Type 0 where
  done : {ps : List (List ℕ)} → Along [] ps
  other : {l : Line} {ls : List Line} {ps : List (List ℕ)} → ended_by_ten l ≡ false → Along (l ∷ ls) ps
  line : {l : Line} {ls : List Line} {p : List ℕ} {ps : List (List ℕ)} → p ≡ l.bytes → Along ls ps → Along (l ∷ ls) (p ∷ ps)

closed_along : (at : ℕ) (held : List ℕ) (ls : List Line) (ps : List (List ℕ)) → Along ls ps → Along (closing at held ∷ ls) (reverse held ∷ ps)
unfolding closing
closed_along at [] ls ps a = line refl a
closed_along at (h ∷ hs) ls ps a = by_bool (eqb h 13) (λ e. rw e (other refl)) (λ q. rw q (line refl a))

along : (at : ℕ) (held bs : List ℕ) → Free 10 held → Along (lines_from at held bs) (parts 10 (reverse held ++ bs))
unfolding lines_from
along at [] [] f = done
along at (h ∷ hs) [] f = other refl
along at held (b ∷ bs) f = rw (lines_step at held b bs) (by_bool (eqb b 10) (λ q. rw q (let q : b ≡ 10 = eqb→eq b 10 (rw q tt) in rw
    (ap (λ (x : ℕ). parts 10 (reverse held ++ (x ∷ bs))) q ∙ parts-line 10 (reverse held) bs (free-reverse 10 held f))
    (closed_along at held (lines_from (at + suc (length held)) [] bs) (parts 10 bs) (along (at + suc (length held)) [] bs tt)))) (λ p. rw p
    (rw (ap (λ (x : List ℕ). x ++ bs) (reverse-cons b held) ∙ append_assoc (reverse held) (b ∷ []) bs) at (along at (b ∷ held) bs (p, f)))))

-- a line that byte 10 alone ends is the first part
record Headed (l : Line) (ls : List Line) (ps : List (List ℕ)) : Type 0 where
  behind : List (List ℕ)
  are : ps ≡ l.bytes ∷ behind
  follow : Along ls behind

headed : (l : Line) (ls : List Line) (ps : List (List ℕ)) → T (ended_by_ten l) → Along (l ∷ ls) ps → Headed l ls ps
headed l ls ps t (other e) = absurd (subst T e t)
headed l ls ps t (line {ps = qs} e a) = record { behind = qs; are = ap (λ (p : List ℕ). p ∷ qs) e; follow = a }

-- ---- words by either reader

unfoldable last_of : List (List ℕ) → List ℕ
last_of [] = []
last_of (w ∷ []) = w
last_of (w ∷ v ∷ ws) = last_of (v ∷ ws)

last_empty : (ws : List (List ℕ)) → last_of (ws ++ ([] ∷ [])) ≡ []
unfolding last_of
last_empty [] = refl
last_empty (w ∷ []) = refl
last_empty (w ∷ v ∷ ws) = last_empty (v ∷ ws)

data Parted (w : List ℕ) : Type 0 where
  alike : parts 32 w ≡ fields w → Parted w
  short : fields w ≡ parts 32 w ++ ([] ∷ []) → Parted w

parted : (w : List ℕ) → Parted w
unfolding parts fields onto split
parted [] = short refl
parted (b ∷ w) = go (eqb b 32) refl (parted w)
  where
    go : (t : Bool) → eqb b 32 ≡ t → Parted w → Parted (b ∷ w)
    go true e (alike q) = alike (ap₂ (λ (t : Bool) (ps : List (List ℕ)). split t b ps) e q ∙ sym (ap (λ (t : Bool). split t b (fields w)) e))
    go true e (short q) = short (ap₂ (λ (t : Bool) (ps : List (List ℕ)). split t b ps) e q ∙ sym (ap (λ (t : Bool). split t b (parts 32 w) ++ ([] ∷ [])) e))
    go false e (alike q) = alike (ap (split (eqb b 32) b) q)
    go false e (short q) = ⊎_elim
        (λ z. alike (ap (λ (t : Bool). split t b (parts 32 w)) e ∙ z ∙ sym (ap (λ (t : Bool). split t b (fields w)) e)))
        (λ u. short (ap (λ (t : Bool). split t b (fields w)) e ∙ u ∙ sym (ap (λ (t : Bool). split t b (parts 32 w) ++ ([] ∷ [])) e)))
        (by_list (parts 32 w) (λ e. rw e (inl (sym (ap (onto b) (rw e at q))))) (λ p ps r. rw r (inr (ap (onto b) (rw r at q)))))

-- where the last field is not empty they are the same
parts-fields : (w : List ℕ) → ¬ (last_of (fields w) ≡ []) → parts 32 w ≡ fields w
parts-fields w n = elim (parted w) [ alike e ↦ e | short q ↦ absurd (n (ap last_of q ∙ last_empty (parts 32 w))) ]

-- ---- a gate's words

-- what pins from letter b on, and then the output, are bound to
unfoldable binds : ℕ → List (List ℕ) → List ℕ → List Binding
binds b [] o = record { pin = output_name; net = o } ∷ []
binds b (n ∷ ns) o = record { pin = b ∷ []; net = n } ∷ binds (suc b) ns o

pin-word : (b : ℕ) (w n : List ℕ) → pin_net b w ≡ Some n → w ≡ b ∷ 61 ∷ n
unfolding pin_net
pin-word b [] n e = absurd (none_never e)
pin-word b (c ∷ []) n e = absurd (none_never e)
pin-word b (c ∷ d ∷ w) n e =
    let o = only_out (eqb c b && (eqb d 61 && is_net w)) w n e in
    let p = and_yes (eqb c b) (eqb d 61 && is_net w) o.0 in
    let q = and_yes (eqb d 61) (is_net w) p.1 in
    ap₂ (λ (x : ℕ) (xs : List ℕ). x ∷ xs) (eqb_yes p.0) (ap₂ (λ (x : ℕ) (xs : List ℕ). x ∷ xs) (eqb_yes q.0) o.1)

read-binding : (b : ℕ) (n : List ℕ) → 61 < b → binding (b ∷ 61 ∷ n) ≡ Some (record { pin = b ∷ []; net = n })
unfolding binding and_then longer
read-binding b n h = ap (λ (t : Bool). cond t (Some (record { pin = []; net = 61 ∷ n })) (Some (record { pin = b ∷ []; net = n }))) (above 61 b h)

record Bound (b m : ℕ) (ws nets : List (List ℕ)) : Type 0 where
  uses : List (List ℕ)
  out : List ℕ
  are : nets ≡ uses ++ (out ∷ [])
  count : length uses ≡ m
  reads : bindings_of ws ≡ Some (binds b uses out)
  full : (w : List ℕ) → ¬ (last_of (w ∷ ws) ≡ [])

letters : ℕ → ℕ → List ℕ
letters i m = map (λ (j : ℕ). 65 + j) (from i m) ++ (79 ∷ [])

cons_full : (n : ℕ) (w : List ℕ) → ¬ (n ∷ w ≡ [])
cons_full n w e = true≢false (ap filled e)
  where
    filled : List ℕ → Bool
    filled [] = false
    filled (x ∷ xs) = true

nets-bound : (m i : ℕ) (ws nets : List (List ℕ)) → bound_nets (letters i m) ws ≡ Some nets → Bound (65 + i) m ws nets
unfolding letters from bound_nets binds bindings_of and_then last_of
nets-bound zero i [] nets e = absurd (none_never e)
nets-bound zero i (w ∷ ws) nets e =
    let a = then_out (pin_net 79 w) _ nets e in
    let b = then_out (bound_nets [] ws) (λ ns. Some (a.0 ∷ ns)) nets a.2 in
    go ws b.0 a.0 b.1 (pin-word 79 w a.0 a.1) (some-once b.2)
  where
    go : (vs ns : List (List ℕ)) (n : List ℕ) → bound_nets [] vs ≡ Some ns → w ≡ 79 ∷ 61 ∷ n → n ∷ ns ≡ nets → Bound (65 + i) 0 (w ∷ vs) nets
    go (v ∷ vs) ns n q f h = absurd (none_never q)
    go [] ns n q f h = record {
      uses = [];
      out = n;
      are = sym h ∙ ap (λ (xs : List (List ℕ)). n ∷ xs) (sym (some-once q));
      count = refl;
      reads = ap (λ (x : List ℕ). and_then (binding x) (λ p. Some (p ∷ []))) f ∙ ap (λ (x : Option Binding). and_then x (λ p. Some (p ∷ []))) (read-binding 79 n (lit< tt));
      full = λ _ z. cons_full 79 (61 ∷ n) (sym f ∙ z);
    }
nets-bound (suc m) i [] nets e = absurd (none_never e)
nets-bound (suc m) i (w ∷ ws) nets e =
    let a = then_out (pin_net (65 + i) w) _ nets e in
    let b = then_out (bound_nets (letters (suc i) m) ws) (λ ns. Some (a.0 ∷ ns)) nets a.2 in
    go a.0 b.0 (pin-word (65 + i) w a.0 a.1) (some-once b.2) (nets-bound m (suc i) ws b.0 b.1)
  where
    go : (n : List ℕ) (ns : List (List ℕ)) → w ≡ (65 + i) ∷ 61 ∷ n → n ∷ ns ≡ nets → Bound (65 + suc i) m ws ns → Bound (65 + i) (suc m) (w ∷ ws) nets
    go n ns f h r = record {
      uses = n ∷ r.uses;
      out = r.out;
      are = sym h ∙ ap (λ (xs : List (List ℕ)). n ∷ xs) r.are;
      count = ap suc r.count;
      reads =
          ap (λ (x : List ℕ). and_then (binding x) (λ p. and_then (bindings_of ws) (λ ps. Some (p ∷ ps)))) f
          ∙ ap (λ (x : Option Binding). and_then x (λ p. and_then (bindings_of ws) (λ ps. Some (p ∷ ps)))) (read-binding (65 + i) n (omega arith))
          ∙ ap (λ (x : Option (List Binding)). and_then x (λ ps. Some (record { pin = (65 + i) ∷ []; net = n } ∷ ps))) r.reads
          ∙ ap (λ (k : ℕ). Some (record { pin = (65 + i) ∷ []; net = n } ∷ binds k r.uses r.out)) (let z : 65 + suc i ≡ suc (65 + i) = omega arith in z);
      full = λ v z. r.full w z;
    }

drives-from : (b : ℕ) (ns : List (List ℕ)) (o : List ℕ) → b + length ns ≤ 79 → net_at (binds b ns o) output_name ≡ o
unfolding binds
drives-from b [] o h = at_first 79 79 refl o []
drives-from b (n ∷ ns) o h = at-later b 79 (let d : ¬ (b ≡ 79) = λ e. omega arith in d) n (binds (suc b) ns o) ∙ drives-from (suc b) ns o (omega arith)

fed-from : (i b : ℕ) → b ≡ 65 + i → (ns : List (List ℕ)) (o : List ℕ) → map (λ (j : ℕ). net_at (binds b ns o) ((65 + j) ∷ [])) (from i (length ns)) ≡ ns
unfolding binds from
fed-from i b e [] o = refl
fed-from i b e (n ∷ ns) o =
    ap₂ (λ (x : List ℕ) (xs : List (List ℕ)). x ∷ xs) (at_first b (65 + i) e n (binds (suc b) ns o))
    (map_same (λ (j : ℕ). net_at (binds b (n ∷ ns) o) ((65 + j) ∷ [])) (λ (j : ℕ). net_at (binds (suc b) ns o) ((65 + j) ∷ [])) (from (suc i) (length ns))
    (λ j m. at-later b (65 + j) (let d : ¬ (b ≡ 65 + j) = λ q. omega (arith, from_low (length ns) (suc i) j m) in d) n (binds (suc b) ns o))
    ∙ fed-from (suc i) (suc b) (omega arith) ns o)

-- the listed cell of a name, by either reader
named-is : (cells : List Cell) (name : List ℕ) (c : Cell) → cell_named cells name ≡ Some c → (named cells name ≡ c) × Memᴰ c cells
unfolding cell_named named
named-is [] name c e = absurd (none_never e)
named-is (d ∷ cs) name c e = by_bool (same (name_of d) name)
    (λ q. rw q (some-once (rw q at e), Memᴰ-head (sym (some-once (rw q at e)))))
    (λ p. rw p (let r = (named-is cs name c) (rw p at e) in (r.0, Memᴰ-tail r.1)))

-- ---- lines against drivers

data All2 {A B : Type 0} (R : A → B → Type 0) : List A → List B → Type 0 where
  nil : All2 R [] []
  cons : {x : A} {y : B} {xs : List A} {ys : List B} → R x y → All2 R xs ys → All2 R (x ∷ xs) (y ∷ ys)

module _ {A B : Type 0} (R : A → B → Type 0) where
  all2_left : (xs : List A) (ys : List B) → All2 R xs ys → (x : A) → Memᴰ x xs → (y : B) × Memᴰ y ys × R x y
  all2_left xs ys nil x m = absurd (Memᴰ-not-nil m)
  all2_left xs ys (cons {y = b} r rs) x (Memᴰ-head e) = (b, Memᴰ-head refl, subst (λ (z : A). R z b) (sym e) r)
  all2_left xs ys (cons {xs = us} {ys = vs} r rs) x (Memᴰ-tail m) = let q = all2_left us vs rs x m in (q.0, Memᴰ-tail q.1, q.2)

  all2_right : (xs : List A) (ys : List B) → All2 R xs ys → (y : B) → Memᴰ y ys → (x : A) × Memᴰ x xs × R x y
  all2_right xs ys nil y m = absurd (Memᴰ-not-nil m)
  all2_right xs ys (cons {x = a} r rs) y (Memᴰ-head e) = (a, Memᴰ-head refl, subst (λ (z : B). R a z) (sym e) r)
  all2_right xs ys (cons {xs = us} {ys = vs} r rs) y (Memᴰ-tail m) = let q = all2_right us vs rs y m in (q.0, Memᴰ-tail q.1, q.2)

-- a gate line says what its driver says
record Says (cells : List Cell) (d : Driver) (t : GateLine) : Type 0 where
  net : drives t ≡ d.net
  table : (named cells t.cell).table ≡ d.table
  fed : fed_by cells t ≡ d.uses

-- and a wire
record Hands (d : Driver) (x : Wire) : Type 0 where
  table : d.table ≡ 2
  source : d.uses ≡ x.source ∷ []
  target : d.net ≡ x.target

abbrev Few : List Cell → Type 0
Few cells = (c : Cell) → Memᴰ c cells → c.pins ≤ 4

-- the fields of a gate's line
record GateWords (cells : List Cell) (fs : List (List ℕ)) (d : Driver) : Type 0 where
  key : List ℕ
  name : List ℕ
  ws : List (List ℕ)
  are : fs ≡ key ∷ name ∷ ws
  full : ¬ (last_of fs ≡ [])
  bindings : List Binding
  reads : bindings_of ws ≡ Some bindings
  says : Says cells d (record { cell = name; bindings = bindings })

gate-words : (cells : List Cell) → Few cells → (at : ℕ) (fs : List (List ℕ)) (d : Driver) → gate_of_fields cells at fs ≡ Some d → GateWords cells fs d
unfolding gate_of_fields below letters last_of drives fed_by pin_names
gate-words cells few at [] d e = absurd (none_never e)
gate-words cells few at (k ∷ []) d e = absurd (none_never e)
gate-words cells few at (k ∷ name ∷ ws) d e =
    let go : (c : Cell) (nets : List (List ℕ)) → (named cells name ≡ c) × Memᴰ c cells
    → record { offset = at; table = c.table; uses = take c.pins nets; net = get_or nets c.pins [] } ≡ d → Bound 65 c.pins ws nets
    → GateWords cells (k ∷ name ∷ ws) d = λ c nets n q r. record {
      key = k;
      name = name;
      ws = ws;
      are = refl;
      full = r.full name;
      bindings = binds 65 r.uses r.out;
      reads = r.reads;
      says = rw (← q) (record {
        net = drives-from 65 r.uses r.out (omega (arith, r.count, few c n.1))
            ∙ sym (cc (r.are, r.count, add-zero (length r.uses), get_or-append-add r.uses (r.out ∷ []) 0 []));
        table = ap (λ (x : Cell). x.table) n.0;
        fed = ap (λ (x : Cell). map (net_at (binds 65 r.uses r.out)) (pin_names x.pins)) n.0
            ∙ ap (λ (i : ℕ). map (net_at (binds 65 r.uses r.out)) (pin_names i)) (sym r.count)
            ∙ map-map (net_at (binds 65 r.uses r.out)) (λ (j : ℕ). (65 + j) ∷ []) (from 0 (length r.uses))
            ∙ fed-from 0 65 refl r.uses r.out ∙ sym (cc (r.are, r.count, take-append_seam r.uses (r.out ∷ [])));
      });
    } in
    let a = then_out (cell_named cells name) _ d e in
    let c = a.0 in
    let b = then_out (bound_nets (letters 0 c.pins) ws)
    (λ nets. Some (record { offset = at; table = c.table; uses = take c.pins nets; net = get_or nets c.pins [] })) d a.2 in
    go c b.0 (named-is cells name c a.1) (some-once b.2) (nets-bound c.pins 0 ws b.0 b.1)

-- a gate's line by either reader
gate-read : (cells : List Cell) → Few cells → (l : Line) (d : Driver) → T (is_gate l) → gate_driver cells l ≡ Some d
    → T (ended_by_ten l) × ((t : GateLine) × (read_gate l.bytes ≡ Some t) × Says cells d t)
unfolding gate_driver is_gate read_gate words_after after_word gate_of only same text and_then
gate-read cells few l d g e =
    let a = then_out (only (ended_by_ten l) (fields l.bytes)) (gate_of_fields cells l.offset) d e in
    let o = only_out (ended_by_ten l) (fields l.bytes) a.0 a.1 in
    let w = gate-words cells few l.offset a.0 d a.2 in
    let p : parts 32 l.bytes ≡ text ".gate" ∷ w.name ∷ w.ws = parts-fields l.bytes (rw o.1 w.full) ∙ (o.1 ∙ w.are)
    ∙ ap (λ (x : List ℕ). x ∷ w.name ∷ w.ws) (same-eq w.key (text ".gate") (rw (o.1 ∙ w.are) at g)) in (
      o.0,
      (
        record { cell = w.name; bindings = w.bindings },
        ap (λ (fs : List (List ℕ)). and_then (after_word (text ".gate") fs) gate_of) p
            ∙ ap (λ (x : Option (List Binding)). and_then x (λ ps. Some (record { cell = w.name; bindings = ps }))) w.reads,
        w.says,
      ),
    )

-- ---- the `.names` lines

-- a `.names` line by either reader
record NameWords (k : ℕ) (l : Line) (d : Driver) : Type 0 where
  closed : T (ended_by_ten l)
  source : List ℕ
  fields_are : fields l.bytes ≡ text ".names" ∷ source ∷ out_name k ∷ []
  parts_are : parts 32 l.bytes ≡ text ".names" ∷ source ∷ out_name k ∷ []
  hands : Hands d (record { source = source; target = out_name k })

name-words : (k : ℕ) (l : Line) (d : Driver) → name_driver k l ≡ Some d → NameWords k l d
unfolding name_driver last_of out_name
name-words k l d e =
    let ws = fields l.bytes in
    let o = only_out (ended_by_ten l && (eqb (length ws) 3 && (same (get_or ws 0 []) (text ".names") && (is_net (get_or ws 1 []) && same (get_or ws 2 []) (out_name k)))))
    (record { offset = l.offset; table = 2; uses = get_or ws 1 [] ∷ []; net = out_name k }) d e in
    let p = and_yes (ended_by_ten l) _ o.0 in
    let q = and_yes (eqb (length ws) 3) _ p.1 in
    let r = and_yes (same (get_or ws 0 []) (text ".names")) _ q.1 in
    let s = and_yes (is_net (get_or ws 1 [])) _ r.1 in
    let f : fields l.bytes ≡ text ".names" ∷ get_or ws 1 [] ∷ out_name k ∷ [] =
    three ws (eqb_yes q.0) ∙ ap₂ (λ (x y : List ℕ). x ∷ get_or ws 1 [] ∷ y ∷ []) (same-eq (get_or ws 0 []) (text ".names") r.0) (same-eq (get_or ws 2 []) (out_name k) s.1) in
    record {
      closed = p.0;
      source = get_or ws 1 [];
      fields_are = f;
      parts_are = parts-fields l.bytes (λ z. cons_full 111 _ (sym (ap last_of f) ∙ z)) ∙ f;
      hands = subst (λ (x : Driver). Hands x (record { source = get_or ws 1 []; target = out_name k })) o.1 (record { table = refl; source = refl; target = refl });
    }

-- lines that must be there by either reader
is-line : (w : List ℕ) (l : Line) → T (is_line w l) → T (ended_by_ten l) × (l.bytes ≡ w)
unfolding is_line
is-line w l t = let p = and_yes (ended_by_ten l) (same l.bytes w) t in (p.0, same-eq l.bytes w p.1)

row_read : (end : ℕ) (ls rest : List Line) (ps : List (List ℕ)) → Along ls ps → past_row end ls ≡ holds rest → (qs : List (List ℕ)) × (ps ≡ text "1 1" ∷ qs) × Along rest qs
unfolding past_row
row_read end [] rest ps a e = absurd (fault_never e)
row_read end (l ∷ ls) rest ps a e =
    let u = unless_out (is_line (text "1 1") l) 32 l.offset (holds ls) rest e in
    let i = is-line (text "1 1") l u.0 in
    let h = headed l ls ps i.0 a in
    (h.behind, h.are ∙ ap (λ (x : List ℕ). x ∷ h.behind) i.1, subst (λ (xs : List Line). Along xs h.behind) (holds-once u.1) h.follow)

end-wires : (qs : List (List ℕ)) → read_wires (text ".end" ∷ qs) ≡ Some []
unfolding read_wires same text
end-wires [] = refl
end-wires (q ∷ qs) = refl

record NamesRead (ds : List Driver) (ps : List (List ℕ)) : Type 0 where
  first : List ℕ
  behind : List (List ℕ)
  are : ps ≡ first ∷ behind
  no_gate : read_gate first ≡ None
  wires : List Wire
  reads : read_wires ps ≡ Some wires
  hand : All2 Hands ds wires

one_field : (w : List ℕ) (n : ℕ) (a b : List ℕ) → fields w ≡ text ".names" ∷ a ∷ b ∷ [] → same w (text ".end") ≡ false
unfolding fields split onto text
one_field w n a b e = go (same w (text ".end")) (same-eq w (text ".end"))
  where
    go : (t : Bool) → (T t → w ≡ text ".end") → t ≡ false
    go true y = absurd (let z : 1 ≡ 3 = ap length (sym (ap fields (y tt)) ∙ e) in omega arith)
    go false y = refl

wire-read : (p : List ℕ) (qs : List (List ℕ)) (k : ℕ) (source : List ℕ) (xs : List Wire) → same p (text ".end") ≡ false
    → parts 32 p ≡ text ".names" ∷ source ∷ out_name k ∷ [] → read_wires qs ≡ Some xs → read_wires (p ∷ text "1 1" ∷ qs) ≡ Some (record { source = source; target = out_name k } ∷ xs)
unfolding read_wires read_wire words_after after_word wire_of only same text and_then
wire-read p qs k source xs n e q =
    ap (λ (t : Bool). cond t (Some []) (and_then (read_wire p (text "1 1")) (λ x. and_then (read_wires qs) (λ ys. Some (x ∷ ys))))) n
    ∙ ap₂ (λ (fs : List (List ℕ)) (o : Option (List Wire)). and_then (and_then (after_word (text ".names") fs) wire_of) (λ x. and_then o (λ ys. Some (x ∷ ys)))) e q

names-read : (end k left : ℕ) (ls : List Line) (ds : List Driver) (ps : List (List ℕ)) → Along ls ps → read_names end k left ls ≡ holds ds → NamesRead ds ps
unfolding read_names
names-read end k zero [] ds ps a e = absurd (fault_never e)
names-read end k zero (l ∷ ls) ds ps a e =
    let u = unless_out (is_line (text ".end") l) 32 l.offset (holds []) ds e in
    let i = is-line (text ".end") l u.0 in
    let h = headed l ls ps i.0 a in
    let q : ps ≡ text ".end" ∷ h.behind = h.are ∙ ap (λ (x : List ℕ). x ∷ h.behind) i.1 in
    record {
      first = text ".end";
      behind = h.behind;
      are = q;
      no_gate = no_gate-end;
      wires = [];
      reads = ap read_wires q ∙ end-wires h.behind;
      hand = subst (λ (xs : List Driver). All2 Hands xs []) (holds-once u.1) nil;
    }
names-read end k (suc left) [] ds ps a e = absurd (fault_never e)
names-read end k (suc left) (l ∷ ls) ds ps al e =
    let a = next_out (from? (name_driver k l) 32 l.offset) _ ds e in
    let b = next_out (past_row end ls) (λ rest. next (read_names end (suc k) left rest) (λ es. holds (a.0 ∷ es))) ds a.2 in
    let c = next_out (read_names end (suc k) left b.0) (λ es. holds (a.0 ∷ es)) ds b.2 in
    let n = name-words k l a.0 (from_out (name_driver k l) 32 l.offset a.0 a.1) in
    let h = headed l ls ps n.closed al in
    let r = row_read end ls b.0 h.behind h.follow b.1 in
    let q : ps ≡ l.bytes ∷ text "1 1" ∷ r.0 = h.are ∙ ap (λ (xs : List (List ℕ)). l.bytes ∷ xs) r.1 in
    let m = names-read end (suc k) left b.0 c.0 r.0 r.2 c.1 in
    record {
      first = l.bytes;
      behind = text "1 1" ∷ r.0;
      are = q;
      no_gate = unfold read_gate words_after after_word only same text and_then in ap
          (λ (fs : List (List ℕ)). and_then (after_word (text ".gate") fs) gate_of) n.parts_are;
      wires = record { source = n.source; target = out_name k } ∷ m.wires;
      reads = ap read_wires q ∙ wire-read l.bytes r.0 k n.source m.wires (one_field l.bytes k n.source (out_name k) n.fields_are) n.parts_are m.reads;
      hand = subst (λ (xs : List Driver). All2 Hands xs (record { source = n.source; target = out_name k } ∷ m.wires)) (holds-once c.2) (cons n.hands m.hand);
    }

-- ---- the gates, and the wires behind them

body_gate : (l : List ℕ) (ls : List (List ℕ)) (t : GateLine) (b : Body) → read_gate l ≡ Some t → read_body ls ≡ Some b → read_body (l ∷ ls) ≡ Some (record { gates = t ∷ b.gates; wires = b.wires })
unfolding read_body body_from and_then
body_gate l ls t b e q = ap₂ (λ (o : Option GateLine) (x : Option Body). body_from o x (read_wires (l ∷ ls))) e q

record DriversRead (cells : List Cell) (ds : List Driver) (ps : List (List ℕ)) : Type 0 where
  body : Body
  reads : read_body ps ≡ Some body
  of_gates : List Driver
  of_names : List Driver
  are : ds ≡ of_gates ++ of_names
  say : All2 (Says cells) of_gates body.gates
  hand : All2 Hands of_names body.wires

only-names : (cells : List Cell) (ds : List Driver) (ps : List (List ℕ)) → NamesRead ds ps → DriversRead cells ds ps
only-names cells ds ps n = record {
  body = record { gates = []; wires = n.wires };
  reads = ap read_body n.are ∙ (unfold read_body body_from and_then in cc (n.no_gate, (ap read_wires (sym n.are) ∙ n.reads)));
  of_gates = [];
  of_names = ds;
  are = refl;
  say = nil;
  hand = n.hand;
}

drivers-read : (cells : List Cell) → Few cells → (end outs : ℕ) (ls : List Line) (ds : List Driver) (ps : List (List ℕ)) → Along ls ps → read_drivers cells end outs ls ≡ holds ds → DriversRead cells ds ps
unfolding read_drivers
drivers-read cells few end outs [] ds ps a e = only-names cells ds ps (names-read end 0 outs [] ds ps a e)
drivers-read cells few end outs (l ∷ ls) ds ps al e = go (is_gate l) (λ t. t) e (λ es qs x y. drivers-read cells few end outs ls es qs x y)
  where
    go : (b : Bool) → (T b → T (is_gate l))
        → cond b (next (from? (gate_driver cells l) 32 l.offset) (λ d. next (read_drivers cells end outs ls) (λ es. holds (d ∷ es)))) (read_names end 0 outs (l ∷ ls)) ≡ holds ds
        → ((es : List Driver) (qs : List (List ℕ)) → Along ls qs → read_drivers cells end outs ls ≡ holds es → DriversRead cells es qs) → DriversRead cells ds ps
    go true g q later =
        let a = next_out (from? (gate_driver cells l) 32 l.offset) _ ds q in
        let b = next_out (read_drivers cells end outs ls) (λ es. holds (a.0 ∷ es)) ds a.2 in
        let r = gate-read cells few l a.0 (g tt) (from_out (gate_driver cells l) 32 l.offset a.0 a.1) in
        let h = headed l ls ps r.0 al in
        let m = later b.0 h.behind h.follow b.1 in
        record {
          body = record { gates = r.1.0 ∷ m.body.gates; wires = m.body.wires };
          reads = ap read_body h.are ∙ body_gate l.bytes h.behind r.1.0 m.body r.1.1 m.reads;
          of_gates = a.0 ∷ m.of_gates;
          of_names = m.of_names;
          are = sym (holds-once b.2) ∙ ap (λ (xs : List Driver). a.0 ∷ xs) m.are;
          say = cons r.1.2 m.say;
          hand = m.hand;
        }
    go false g q later = only-names cells ds ps (names-read end 0 outs (l ∷ ls) ds ps al q)

-- ---- the first three lines

lines-past : (end : ℕ) (ws : List (List ℕ)) (ls rest : List Line) (ps : List (List ℕ)) → Along ls ps → past_lines end ws ls ≡ holds rest → (qs : List (List ℕ)) × (ps ≡ ws ++ qs) × Along rest qs
unfolding past_lines
lines-past end [] ls rest ps a e = (ps, refl, subst (λ (xs : List Line). Along xs ps) (holds-once e) a)
lines-past end (w ∷ ws) [] rest ps a e = absurd (fault_never e)
lines-past end (w ∷ ws) (l ∷ ls) rest ps a e =
    let u = unless_out (is_line w l) 32 l.offset (past_lines end ws ls) rest e in
    let i = is-line w l u.0 in
    let h = headed l ls ps i.0 a in
    let r = lines-past end ws ls rest h.behind h.follow u.1 in
    (r.0, h.are ∙ ap₂ (λ (x : List ℕ) (xs : List (List ℕ)). x ∷ xs) i.1 r.1, r.2)

-- words that a line can hold
data Word : List ℕ → Type 0 where
  word : {b : ℕ} {w : List ℕ} → Free 32 (b ∷ w) → Word (b ∷ w)

abbrev Worded : List (List ℕ) → Type 0
Worded [] = Unit {0}
Worded (n ∷ ns) = Word n × Worded ns

worded_map : {A : Type 0} (f : A → List ℕ) → ((x : A) → Word (f x)) → (xs : List A) → Worded (map f xs)
worded_map f h [] = tt
worded_map f h (x ∷ xs) = (h x, worded_map f h xs)

out_word : (k : ℕ) → Word (out_name k)
unfolding out_name
out_word k = word (refl, decimal-free 32 k (lit< tt))

parts_last : (b : ℕ) (w : List ℕ) → Free 32 (b ∷ w) → parts 32 (b ∷ w) ≡ (b ∷ w) ∷ []
unfolding parts split onto
parts_last b [] f = ap (λ (t : Bool). split t b []) f.0
parts_last b (c ∷ w) f = ap₂ (λ (t : Bool) (ps : List (List ℕ)). split t b ps) f.0 (parts_last c w f.1)

names-words : (key : List ℕ) → Word key → (names : List (List ℕ)) → Worded names → parts 32 (key ++ each (λ (n : List ℕ). 32 ∷ n) names) ≡ key ∷ names
unfolding each
names-words key (word {b = b} {w = w} f) [] ps = ap (parts 32) (append-nil (b ∷ w)) ∙ parts_last b w f
names-words key (word {b = b} {w = w} f) (n ∷ ns) ps =
    parts-line 32 (b ∷ w) (n ++ each (λ (m : List ℕ). 32 ∷ m) ns) f ∙ ap (λ (xs : List (List ℕ)). (b ∷ w) ∷ xs) (names-words n ps.0 ns ps.1)

outputs-word : Word (text ".outputs")
unfolding text
outputs-word = word {b = 46} {w = 111 ∷ 117 ∷ 116 ∷ 112 ∷ 117 ∷ 116 ∷ 115 ∷ []} (refl, (refl, (refl, (refl, (refl, (refl, (refl, (refl, tt))))))))

preamble-read : (g : Graph) (qs : List (List ℕ)) (b : Body) → read_body qs ≡ Some b
    → read_lines (preamble_of g ++ qs) ≡ Some (record { inputs = input_nets g; outputs = output_nets g; gates = b.gates; wires = b.wires })
unfolding read_lines preamble_of words_after after_word input_nets output_nets same only text and_then
preamble-read g qs b e = cc (
  names-words (text ".inputs")
      (word {b = 46} {w = 105 ∷ 110 ∷ 112 ∷ 117 ∷ 116 ∷ 115 ∷ []} (refl, (refl, (refl, (refl, (refl, (refl, (refl, tt))))))))
      (map (λ (v : ℕ). net_name (literal false v)) g.inputs)
      (worded_map (λ (v : ℕ). net_name (literal false v)) (λ v. (word (net-free 32 (literal false v) (lit< tt)))) g.inputs),
  names-words
      (text ".outputs") outputs-word (map out_name (below (length g.outputs))) (worded_map out_name out_word (below (length g.outputs))),
)

-- ---- the values

module _ (cells : List Cell) (g : Graph) (ds : List Driver) (ps : List (List ℕ)) (r : DriversRead cells ds ps) (assignment : ℕ → Bool) (w : List ℕ → Bool) where
  abbrev model : Blif
  model = record { inputs = input_nets g; outputs = output_nets g; gates = r.body.gates; wires = r.body.wires }

  values-on : ValuesUnder g ds assignment w → NetValues cells model (map assignment g.inputs) w
  values-on h = record {
    at_inputs = h.at_inputs;
    at_gates = λ t m. let a = all2_right (Says cells) r.of_gates r.body.gates r.say t m in ap w a.2.net
        ∙ h.at_drivers a.0 (rw r.are (Memᴰ-append_left r.of_names a.1)) ∙ sym (cc (a.2.table, a.2.fed));
    at_wires = λ x m. let a = all2_right Hands r.of_names r.body.wires r.hand x m in ap w (sym a.2.target)
        ∙ h.at_drivers a.0 (rw r.are (Memᴰ-append_right r.of_gates a.1))
        ∙ ap₂ (λ (n : ℕ) (ns : List (List ℕ)). value n (row_of (map w ns))) a.2.table a.2.source ∙ wire-value (w x.source);
  }

  values-back : NetValues cells model (map assignment g.inputs) w → ValuesUnder g ds assignment w
  values-back h = record {
    at_inputs = h.at_inputs;
    at_drivers = λ d m. (⊎_elim (λ q. let a = all2_left (Says cells) r.of_gates r.body.gates r.say d q in ap w (sym a.2.net)
        ∙ h.at_gates a.0 a.1 ∙ ap₂ (λ (n : ℕ) (ns : List (List ℕ)). value n (row_of (map w ns))) a.2.table a.2.fed) (λ e.
        let a = all2_left Hands r.of_names r.body.wires r.hand d e in ap w a.2.target ∙ h.at_wires a.0 a.1 ∙ sym
        (ap₂ (λ (n : ℕ) (ns : List (List ℕ)). value n (row_of (map w ns))) a.2.table a.2.source ∙ wire-value (w a.0.source)))
        (Memᴰ-append_cases r.of_gates (rw (← r.are) m)));
  }

-- what `read_netlist` reads means what `read_blif` reads
pub netlist-means : (cells : List Cell) → Few cells → (g : Graph) (netlist : List ℕ) (ds : List Driver) → read_netlist cells g netlist ≡ holds ds → MeansText cells g netlist ds
unfolding read_netlist read_blif
netlist-means cells few g netlist ds e =
    let l = next_out (past_lines (length netlist) (preamble_of g) (lines_from 0 [] netlist)) (read_drivers cells (length netlist) (length g.outputs)) ds e in
    let p = lines-past (length netlist) (preamble_of g) (lines_from 0 [] netlist) l.0 (parts 10 netlist) (along 0 [] netlist tt) l.1 in
    let r = drivers-read cells few (length netlist) (length g.outputs) l.0 ds p.0 p.2 l.2 in
    record {
      blif = record { inputs = input_nets g; outputs = output_nets g; gates = r.body.gates; wires = r.body.wires };
      reads = ap read_lines p.1 ∙ preamble-read g p.0 r.body r.reads;
      inputs = refl;
      outputs = refl;
      values = λ assignment w. (values-on cells g ds p.0 r assignment w, values-back cells g ds p.0 r assignment w);
    }
