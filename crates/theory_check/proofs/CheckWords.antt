-- The words and lines of an edited netlist: each test passes exactly where the bytes are so, and gives what they mean.
use Rattle.base.specs.{ℕ, zero, suc, ◌+◌, ◌^◌, ◌≤◌, ◌<◌, le_refl, arith, ◌≡◌, refl, sym, ◌∙◌, ap, ap₂, subst, ◌⊎◌, inl, inr, ⊎_elim, Bool}
use Rattle.base.specs.{false, not, cond, ◌&&◌, ◌||◌, Option, None, Some, List, [], ◌∷◌, ◌++◌, map, append-nil, Memᴰ, Memᴰ-head}
use Rattle.base.specs.{Memᴰ-tail, T, eqb, leb, ltb, lit<, length, take, get_or, and_yes, yes_and, or_yes, eqb_yes, yes_eqb, leb_yes}
use Rattle.base.specs.{yes_leb}
use Rattle.model.specs.{all, same, each, from, below, and_then, only, text, decimal, fields, between, is_letter, is_name, name_of, literal}
use Rattle.model.specs.{net_name, out_name, Driver, is_net, pin_net, bound_nets, cell_named, gate_of_fields, input_nets, output_nets}
use Rattle.model.specs.Graph.{Graph}
use Rattle.model.specs.declared.Cell.{Cell}
use Rattle.promises.specs.{Within, Letter, Decimal, joined}
use Rattle.theory_graph.proofs.{is_true, is_false, same-eq, same_refl, all_of, all_in, lit_var, lit_neg, by_bool}
use Rattle.theory_graph.specs.{library_fits, cell_fits}
use Rattle.theory_text.proofs.{then_out, only_out, Free, above, decimal-free, library-cell}
use Rattle.theory_refusals.proofs.{within_form, within-back, letter_form, letter-back, yes_or, decimal-only, digits_form, AllFree, joins}
use Rattle.theory_refusals.proofs.{fields-joined, name_form, name_free}
use Rattle.promises.specs.CheckForms.{NetName, Bound, bound, Pins, output, pin, InputNames, no_input, one_input, OutputNames, no_output}
use Rattle.promises.specs.CheckForms.{one_output, GateWords}

-- ---- nets

pub net_form : (w : List ℕ) → T (is_net w) → NetName w
unfolding is_net
net_form w t =
    let p = and_yes (leb 1 (length w)) (leb (length w) 8 && all (λ (b : ℕ). is_letter b || between 48 57 b) w) t in
    let q = and_yes (leb (length w) 8) (all (λ (b : ℕ). is_letter b || between 48 57 b) w) p.1 in
    record {
      least = leb_yes p.0;
      most = leb_yes q.0;
      bytes = λ b m. (⊎_elim (λ h. inl (letter_form b h)) (λ e. inr (within_form 48 57 b e))
          (or_yes (is_letter b) (between 48 57 b) (all_of (λ (x : ℕ). is_letter x || between 48 57 x) w q.1 b m)));
    }

pub net-back : (w : List ℕ) → NetName w → T (is_net w)
unfolding is_net
net-back w n = yes_and (leb 1 (length w)) (leb (length w) 8 && all (λ (b : ℕ). is_letter b || between 48 57 b) w) (yes_leb n.least)
    (yes_and (leb (length w) 8) (all (λ (b : ℕ). is_letter b || between 48 57 b) w) (yes_leb n.most)
    (all_in (λ (b : ℕ). is_letter b || between 48 57 b) w (λ b m. ⊎_elim (λ h. yes_or (is_letter b) (between 48 57 b) (inl (letter-back b h)))
    (λ q. yes_or (is_letter b) (between 48 57 b) (inr (within-back 48 57 b q))) (n.bytes b m))))

pin_form : (b : ℕ) (w n : List ℕ) → pin_net b w ≡ Some n → Bound b w n
unfolding pin_net
pin_form b [] n e = let z : ◌≡◌ {A = ℕ} 0 1 = cc in absurd (omega arith)
pin_form b (c ∷ []) n e = let z : ◌≡◌ {A = ℕ} 0 1 = cc in absurd (omega arith)
pin_form b (c ∷ d ∷ w) n e =
    let o = only_out (eqb c b && (eqb d 61 && is_net w)) w n e in
    let p = and_yes (eqb c b) (eqb d 61 && is_net w) o.0 in
    let q = and_yes (eqb d 61) (is_net w) p.1 in
    subst (λ (x : ℕ). Bound b (x ∷ d ∷ w) n) (sym (eqb_yes p.0))
    (subst (λ (x : ℕ). Bound b (b ∷ x ∷ w) n) (sym (eqb_yes q.0)) (subst (λ (x : List ℕ). Bound b (b ∷ 61 ∷ x) n) (sym o.1) (bound (subst NetName o.1 (net_form w q.1)))))

pin-back : {b : ℕ} {w n : List ℕ} → Bound b w n → pin_net b w ≡ Some n
unfolding pin_net only
pin-back {b} (bound {n} h) =
    ap (λ (x : Bool). only x n) (is_true (eqb b b && (eqb 61 61 && is_net n)) (yes_and (eqb b b) (eqb 61 61 && is_net n) (yes_eqb {a = b} {b = b} refl) (net-back n h)))

-- ---- a gate line's nets

-- all of them, the driven one last
pub pins_form : (i k : ℕ) (ws ns : List (List ℕ)) → bound_nets (map (λ (j : ℕ). 65 + j) (from i k) ++ (79 ∷ [])) ws ≡ Some ns
    → (us : List (List ℕ)) × (o : List ℕ) × (ns ≡ us ++ (o ∷ [])) × (length us ≡ k) × Pins (65 + i) k ws us o
unfolding bound_nets from
pins_form i zero [] ns e = let z : ◌≡◌ {A = ℕ} 0 1 = cc in absurd (omega arith)
pins_form i zero (w ∷ []) ns e =
    let a = then_out (pin_net 79 w) (λ n. and_then (bound_nets [] []) (λ ms. Some (n ∷ ms))) ns e in
    ([], a.0, sym cc, refl, output (pin_form 79 w a.0 a.1))
pins_form i zero (w ∷ v ∷ ws) ns e =
    let a = then_out (pin_net 79 w) (λ n. and_then (bound_nets [] (v ∷ ws)) (λ ms. Some (n ∷ ms))) ns e in
    let b = then_out (bound_nets [] (v ∷ ws)) (λ ms. Some (a.0 ∷ ms)) ns a.2 in
    let h : None ≡ Some b.0 = b.1 in
    let z : ◌≡◌ {A = ℕ} 0 1 = cc in absurd (omega arith)
pins_form i (suc k) [] ns e = let z : ◌≡◌ {A = ℕ} 0 1 = cc in absurd (omega arith)
pins_form i (suc k) (w ∷ ws) ns e =
    let a = then_out (pin_net (65 + i) w) (λ n. and_then (bound_nets (map (λ (j : ℕ). 65 + j) (from (suc i) k) ++ (79 ∷ [])) ws) (λ ms. Some (n ∷ ms))) ns e in
    let b = then_out (bound_nets (map (λ (j : ℕ). 65 + j) (from (suc i) k) ++ (79 ∷ [])) ws) (λ ms. Some (a.0 ∷ ms)) ns a.2 in
    let r = pins_form (suc i) k ws b.0 b.1 in
    let z : Some (a.0 ∷ b.0) ≡ Some ns = b.2 in
    let q : a.0 ∷ b.0 ≡ ns = cc in
    let s : 65 + suc i ≡ suc (65 + i) = omega arith in
    (a.0 ∷ r.0, r.1, sym q ∙ ap (λ (x : List (List ℕ)). a.0 ∷ x) r.2, ap suc r.3, pin (pin_form (65 + i) w a.0 a.1) (subst (λ (x : ℕ). Pins x k ws r.0 r.1) s r.4))

pub pins-back : (i : ℕ) {b k : ℕ} {ws us : List (List ℕ)} {o : List ℕ} → b ≡ 65 + i → Pins b k ws us o → (bound_nets (map (λ (j : ℕ). 65 + j) (from i k) ++ (79 ∷ [])) ws ≡ Some (us ++ (o ∷ []))) × (length us ≡ k)
unfolding bound_nets from and_then
pins-back i e (output {w = w} {n} h) = (ap (λ (x : Option (List ℕ)). and_then x (λ m. and_then (bound_nets [] []) (λ ms. Some (m ∷ ms)))) (pin-back h), refl)
pins-back i {b} e (pin {k = k} {w} {n} {o} {ws} {us} h r) =
    let m = pins-back (suc i) (let z : suc b ≡ 65 + suc i = omega arith in z) r in (
      ap (λ (x : Option (List ℕ)). and_then x (λ y. and_then (bound_nets (map (λ (j : ℕ). 65 + j) (from (suc i) k) ++ (79 ∷ [])) ws) (λ ms. Some (y ∷ ms)))) (subst (λ (x : ℕ). pin_net x w ≡ Some n) e (pin-back h))
          ∙ ap (λ (x : Option (List (List ℕ))). and_then x (λ ms. Some (n ∷ ms))) m.0,
      ap suc m.1,
    )

pub take-front : (us : List (List ℕ)) (o : List ℕ) → take (length us) (us ++ (o ∷ [])) ≡ us
take-front [] o = refl
take-front (u ∷ us) o = ap (λ (x : List (List ℕ)). u ∷ x) (take-front us o)

pub last-is : (us : List (List ℕ)) (o : List ℕ) → get_or (us ++ (o ∷ [])) (length us) [] ≡ o
last-is [] o = refl
last-is (u ∷ us) o = last-is us o

-- ---- the listed cell of a name

pub named_form : (cs : List Cell) (w : List ℕ) (c : Cell) → cell_named cs w ≡ Some c → Memᴰ c cs × (name_of c ≡ w)
unfolding cell_named
named_form [] w c e = let z : ◌≡◌ {A = ℕ} 0 1 = cc in absurd (omega arith)
named_form (d ∷ cs) w c e = by_bool (same (name_of d) w)
    (λ q. let z : d ≡ c = cc in (Memᴰ-head (sym z), ap name_of (sym z) ∙ (rw q at (same-eq (name_of d) w)) tt))
    (λ p. let r = (named_form cs w c) (rw p at e) in (Memᴰ-tail r.0, r.1))

others : (c : Cell) (cs : List Cell) → T (library_fits (c ∷ cs)) → T (cell_fits c) × T (all (λ (d : Cell). not (same (name_of c) (name_of d))) cs) × T (library_fits cs)
unfolding library_fits
others c cs t =
    let p = and_yes (cell_fits c) (all (λ (d : Cell). not (same (name_of c) (name_of d))) cs && library_fits cs) t in
    let q = and_yes (all (λ (d : Cell). not (same (name_of c) (name_of d))) cs) (library_fits cs) p.1 in
    (p.0, q.0, q.1)

pub named_back : (cs : List Cell) → T (library_fits cs) → (c : Cell) → Memᴰ c cs → cell_named cs (name_of c) ≡ Some c
unfolding cell_named
named_back (d ∷ cs) t c (Memᴰ-head e) = cc (is_true (same (name_of d) (name_of c)) (rw e (same_refl (name_of d))))
named_back (d ∷ cs) t c (Memᴰ-tail m) =
    let o = others d cs t in
    ap (λ (b : Bool). cond b (Some d) (cell_named cs (name_of c))) (is_false (same (name_of d) (name_of c)) (all_of (λ (x : Cell). not (same (name_of d) (name_of x))) cs o.1 c m)) ∙ named_back cs o.2 c m
named_back [] t c x'' = elim x'' [ ]

pub cell_free : (s : ℕ) → s < 48 → (c : Cell) → T (cell_fits c) → Free s (name_of c)
unfolding cell_fits
cell_free s h c t = name_free s h (name_form (name_of c) (and_yes (is_name (name_of c)) (leb c.pins 4 && (ltb c.table (2 ^ 2 ^ c.pins) && eqb (length c.delays) 4)) t).0)

-- ---- no space and no line end in them
module _ (s : ℕ) (low : s < 33) where
  bytes-above : (w : List ℕ) → ((b : ℕ) → Memᴰ b w → Letter b ⊎ Within 48 57 b) → Free s w
  bytes-above [] f = tt
  bytes-above (b ∷ w) f = (
    above s b (⊎_elim
        (⊎_elim (λ h. let k : 65 ≤ b = h.0 in omega arith) (λ q. let k : 97 ≤ b = q.0 in omega arith))
        (λ e. let k : 48 ≤ b = e.0 in omega arith) (f b (Memᴰ-head refl))),
    bytes-above w (λ x m. f x (Memᴰ-tail m)),
  )

  pub net-free : {w : List ℕ} → NetName w → Free s w
  net-free {w} n = bytes-above w n.bytes

  bound-free : {b : ℕ} {w n : List ℕ} → 48 ≤ b → Bound b w n → Free s w
  bound-free {b} h (bound n) = (above s b (omega arith), (above s 61 (omega arith), net-free n))

  pub pins-free : {b k : ℕ} {ws us : List (List ℕ)} {o : List ℕ} → 48 ≤ b → Pins b k ws us o → AllFree s ws
  pins-free h (output w) = (bound-free (lit< tt) w, tt)
  pins-free h (pin w ws) = (bound-free h w, pins-free (omega arith) ws)

  pub decimal-word : {w : List ℕ} {n : ℕ} → Decimal w n → Free s w
  decimal-word {n = n} d = subst (Free s) (sym (decimal-only d)) (decimal-free s n (omega arith))

  pub inputs-free : {vs : List ℕ} {ws : List (List ℕ)} → InputNames vs ws → AllFree s ws
  inputs-free no_input = tt
  inputs-free (one_input d r) = ((above s 112 (omega arith), decimal-word d), inputs-free r)

  pub outputs-free : {k n : ℕ} {ws : List (List ℕ)} → OutputNames k n ws → AllFree s ws
  outputs-free no_output = tt
  outputs-free (one_output d r) = ((above s 111 (omega arith), decimal-word d), outputs-free r)

  -- a word of bytes above the space
  pub word-free : (w : List ℕ) → T (all (leb 33) w) → Free s w
  unfolding all
  word-free [] t = tt
  word-free (b ∷ w) t = let p = and_yes (leb 33 b) (all (leb 33) w) t in (above s b (let h : 33 ≤ b = leb_yes p.0 in omega arith), word-free w p.1)

-- ---- the lines of inputs and outputs

decimal_form : (n : ℕ) → Decimal (decimal n) n
unfolding decimal
decimal_form n = digits_form (suc n) n (le_refl (suc n))

input-net : (v : ℕ) → net_name (literal false v) ≡ 112 ∷ decimal v
unfolding net_name
input-net v = ap₂ (λ (b : Bool) (n : ℕ). cond b 109 112 ∷ decimal n) (lit_neg false v) (lit_var false v)

pub inputs-only : {vs : List ℕ} {ws : List (List ℕ)} → InputNames vs ws → ws ≡ map (λ (v : ℕ). net_name (literal false v)) vs
inputs-only no_input = refl
inputs-only (one_input {v} {w} {vs} {ws} d r) = cc (decimal-only d, input-net v, inputs-only r)

pub inputs_are : (vs : List ℕ) → InputNames vs (map (λ (v : ℕ). net_name (literal false v)) vs)
inputs_are [] = no_input
inputs_are (v ∷ vs) = subst (λ (x : List ℕ). InputNames (v ∷ vs) (x ∷ map (λ (u : ℕ). net_name (literal false u)) vs)) (sym (input-net v)) (one_input (decimal_form v) (inputs_are vs))

outputs-only : {k n : ℕ} {ws : List (List ℕ)} → OutputNames k n ws → ws ≡ map out_name (from k n)
unfolding out_name from
outputs-only no_output = refl
outputs-only (one_output d r) = ap₂ (λ (x : List ℕ) (y : List (List ℕ)). x ∷ y) (ap (λ (x : List ℕ). 111 ∷ x) (decimal-only d)) (outputs-only r)

outputs_are : (k n : ℕ) → OutputNames k n (map out_name (from k n))
unfolding out_name from
outputs_are k zero = no_output
outputs_are k (suc n) = one_output (decimal_form k) (outputs_are (suc k) n)

spaced : (key : List ℕ) (ws : List (List ℕ)) → key ++ each (λ (n : List ℕ). 32 ∷ n) ws ≡ joined (key ∷ ws)
unfolding each
spaced key [] = append-nil key
spaced key (w ∷ ws) = ap (λ (x : List ℕ). key ++ (32 ∷ x)) (spaced w ws)

-- the two lines as they are printed for the graph
abbrev pub inputs_line : Graph → List ℕ
inputs_line g = text ".inputs" ++ each (λ (n : List ℕ). 32 ∷ n) (input_nets g)

abbrev pub outputs_line : Graph → List ℕ
outputs_line g = text ".outputs" ++ each (λ (n : List ℕ). 32 ∷ n) (output_nets g)

pub inputs-line : (g : Graph) → (ws : List (List ℕ)) × InputNames g.inputs ws × (inputs_line g ≡ joined (text ".inputs" ∷ ws))
unfolding input_nets
inputs-line g = (map (λ (v : ℕ). net_name (literal false v)) g.inputs, inputs_are g.inputs, spaced (text ".inputs") (input_nets g))

pub inputs-back : (g : Graph) {ws : List (List ℕ)} → InputNames g.inputs ws → joined (text ".inputs" ∷ ws) ≡ inputs_line g
unfolding input_nets
inputs-back g r = ap (λ (x : List (List ℕ)). joined (text ".inputs" ∷ x)) (inputs-only r) ∙ sym (spaced (text ".inputs") (input_nets g))

pub outputs-line : (g : Graph) → (ws : List (List ℕ)) × OutputNames zero (length g.outputs) ws × (outputs_line g ≡ joined (text ".outputs" ∷ ws))
unfolding output_nets below
outputs-line g = (map out_name (from 0 (length g.outputs)), outputs_are 0 (length g.outputs), spaced (text ".outputs") (output_nets g))

pub outputs-back : (g : Graph) {ws : List (List ℕ)} → OutputNames zero (length g.outputs) ws → joined (text ".outputs" ∷ ws) ≡ outputs_line g
unfolding output_nets below
outputs-back g r = ap (λ (x : List (List ℕ)). joined (text ".outputs" ∷ x)) (outputs-only r) ∙ sym (spaced (text ".outputs") (output_nets g))

-- an output's own name
pub out_name_lem : {k : ℕ} {w : List ℕ} → Decimal w k → 111 ∷ w ≡ out_name k
unfolding out_name
out_name_lem d = ap (λ (x : List ℕ). 111 ∷ x) (decimal-only d)

pub out_decimal : (k : ℕ) → (w : List ℕ) × Decimal w k × (out_name k ≡ 111 ∷ w)
unfolding out_name
out_decimal k = (decimal k, decimal_form k, refl)

-- a line of these fields
pub of_fields : (w : List ℕ) (ws : List (List ℕ)) → fields w ≡ ws → w ≡ joined ws
of_fields w ws e = let j = joins w in j.is_whole ∙ ap joined (sym j.are_fields ∙ e)

-- ---- a gate line

abbrev made_at : ℕ → Cell → List (List ℕ) → Driver
made_at at c nets = record { offset = at; table = c.table; uses = take c.pins nets; net = get_or nets c.pins [] }

module _ (cells : List Cell) (fits : T (library_fits cells)) (at : ℕ) where
  pub gate_form_lem : (w : List ℕ) (d : Driver) → T (same (get_or (fields w) 0 []) (text ".gate")) → gate_of_fields cells at (fields w) ≡ Some d → GateWords cells at w d
  unfolding gate_of_fields below
  gate_form_lem w d t e = go (fields w) refl t e
    where
      go : (vs : List (List ℕ)) → fields w ≡ vs → T (same (get_or vs 0 []) (text ".gate")) → gate_of_fields cells at vs ≡ Some d → GateWords cells at w d
      go [] f u q = unfold gate_of_fields in let z : ◌≡◌ {A = ℕ} 0 1 = cc in absurd (omega arith)
      go (k ∷ []) f u q = unfold gate_of_fields in let z : ◌≡◌ {A = ℕ} 0 1 = cc in absurd (omega arith)
      go (k ∷ name ∷ ws) f u q =
          unfold gate_of_fields below in
          let a = then_out (cell_named cells name) (λ c. and_then (bound_nets (map (λ (j : ℕ). 65 + j) (below c.pins) ++ (79 ∷ [])) ws) (λ nets. Some (made_at at c nets))) d q in
          let b = then_out (bound_nets (map (λ (j : ℕ). 65 + j) (below a.0.pins) ++ (79 ∷ [])) ws) (λ nets. Some (made_at at a.0 nets)) d a.2 in
          let n = named_form cells name a.0 a.1 in
          let r = pins_form 0 a.0.pins ws b.0 b.1 in
          let h : Some (made_at at a.0 b.0) ≡ Some d = b.2 in
          let is : made_at at a.0 b.0 ≡ d = cc in
          let uses : r.0 ≡ d.uses = sym (take-front r.0 r.1) ∙ ap₂ (λ (i : ℕ) (x : List (List ℕ)). take i x) r.3 (sym r.2) ∙ ap (λ (x : Driver). x.uses) is in
          let net : r.1 ≡ d.net = sym (last-is r.0 r.1) ∙ ap₂ (λ (i : ℕ) (x : List (List ℕ)). get_or x i []) r.3 (sym r.2) ∙ ap (λ (x : Driver). x.net) is in
          record {
            cell = a.0;
            listed = n.0;
            nets = ws;
            whole = of_fields w _ (f ∙ ap₂ (λ (x y : List ℕ). x ∷ y ∷ ws) (same-eq k (text ".gate") u) (sym n.1));
            are_nets = subst (λ (x : List (List ℕ)). Pins 65 a.0.pins ws x d.net) uses (subst (Pins 65 a.0.pins ws r.0) net r.4);
            table = sym (ap (λ (x : Driver). x.table) is);
            place = sym (ap (λ (x : Driver). x.offset) is);
          }

  pub words-free : (s : ℕ) → s < 33 → (w : List ℕ) (d : Driver) (g : GateWords cells at w d) → AllFree s (text ".gate" ∷ name_of g.cell ∷ g.nets)
  unfolding text all
  words-free s h w d g = (word-free s h (text ".gate") tt, (cell_free s (omega arith) g.cell (library-cell cells fits g.cell g.listed), pins-free s h (lit< tt) g.are_nets))

  pub gate-fields : (w : List ℕ) (d : Driver) (g : GateWords cells at w d) → fields w ≡ text ".gate" ∷ name_of g.cell ∷ g.nets
  gate-fields w d g = ap fields g.whole ∙ fields-joined (text ".gate") (name_of g.cell ∷ g.nets) (words-free 32 (lit< tt) w d g)

  pub gate-back : (w : List ℕ) (d : Driver) → GateWords cells at w d → gate_of_fields cells at (fields w) ≡ Some d
  unfolding gate_of_fields below and_then
  gate-back w d g =
      let c = g.cell in
      let p = pins-back 0 refl g.are_nets in
      ap (gate_of_fields cells at) (gate-fields w d g)
      ∙ ap (λ (o : Option Cell). and_then o (λ x. and_then (bound_nets (map (λ (j : ℕ). 65 + j) (below x.pins) ++ (79 ∷ [])) g.nets) (λ nets. Some (record { offset = at; table = x.table; uses = take x.pins nets; net = get_or nets x.pins [] }))))
      (named_back cells fits c g.listed)
      ∙ ap (λ (o : Option (List (List ℕ))). and_then o (λ nets. Some (record { offset = at; table = c.table; uses = take c.pins nets; net = get_or nets c.pins [] }))) p.0
      ∙ ap₂ (λ (x : List (List ℕ)) (y : List ℕ). Some (record { offset = at; table = c.table; uses = x; net = y }))
      (ap (λ (i : ℕ). take i (d.uses ++ (d.net ∷ []))) (sym p.1) ∙ take-front d.uses d.net) (ap (λ (i : ℕ). get_or (d.uses ++ (d.net ∷ [])) i []) (sym p.1) ∙ last-is d.uses d.net)
      ∙ ap₂ (λ (x y : ℕ). Some (record { offset = x; table = y; uses = d.uses; net = d.net })) (sym g.place) (sym g.table)
