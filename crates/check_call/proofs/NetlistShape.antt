-- What is read of a netlist has its form: drivers of at most four pins, nets of 1 to 8 letters or digits, and the outputs' drivers last.
use Rattle.base.specs.{ℕ, zero, suc, ◌+◌, ◌-◌, ◌≤◌, ◌<◌, arith, add-zero, ◌≡◌, refl, sym, ◌∙◌, ap, subst, Bool, true, false, cond, ◌&&◌}
use Rattle.base.specs.{Some, List, [], ◌∷◌, ◌++◌, map, Memᴰ, Memᴰ-head, Memᴰ-tail, Memᴰ-not-nil}
use Rattle.base.specs.{Memᴰ-eq_of_singleton, T, eqb, length, take, get_or, length-append, length-take-le}
use Rattle.model.specs.{all, from, below, same, and_then, only, Line, ended_by_ten, text, decimal, lines_from, fields, is_letter, between, holds}
use Rattle.model.specs.{next, from?, name_of, literal, out_name, Driver, is_net, is_line, pin_net, bound_nets, cell_named, gate_of_fields}
use Rattle.model.specs.{gate_driver, is_gate, name_driver, past_row, past_lines, preamble_of, read_names, read_drivers, read_netlist}
use Rattle.model.specs.Graph.{Graph}
use Rattle.model.specs.declared.Cell.{Cell}
use Rattle.theory_graph.proofs.{get_or_in}
use Rattle.theory_text.proofs.{holds-once, fault_never, unless_out, next_out, from_out, then_out, only_out}
use Rattle.theory_check.proofs.{net_form}
use Rattle.check_names.proofs.{pin-named}
use Rattle.check_reader.proofs.{own_name, out_is}
use Rattle.check_nets.specs.{no_driver}
use Rattle.check_call.specs.{Formed}

-- a driver of the form
pub record Form (d : Driver) : Type 0 where
  pub pins : length d.uses ≤ 4
  pub own : T (is_net d.net)
  pub used : (u : List ℕ) → Memᴰ u d.uses → T (is_net u)

-- ---- a gate's line

bound-long : (bs : List ℕ) (ws ns : List (List ℕ)) → bound_nets bs ws ≡ Some ns → length ns ≡ length bs
unfolding bound_nets
bound-long [] [] ns e = let z : [] ≡ ns = cc in sym (ap length z)
bound-long [] (w ∷ ws) ns e = absurd (let z : ◌≡◌ {A = ℕ} 0 1 = cc in omega arith)
bound-long (b ∷ bs) [] ns e = absurd (let z : ◌≡◌ {A = ℕ} 0 1 = cc in omega arith)
bound-long (b ∷ bs) (w ∷ ws) ns e =
    let a = then_out (pin_net b w) (λ n. and_then (bound_nets bs ws) (λ rest. Some (n ∷ rest))) ns e in
    let c = then_out (bound_nets bs ws) (λ rest. Some (a.0 ∷ rest)) ns a.2 in let z : a.0 ∷ c.0 ≡ ns = cc c.2 in
    sym (ap length z) ∙ ap suc (bound-long bs ws c.0 c.1)

bound-nets : (bs : List ℕ) (ws ns : List (List ℕ)) → bound_nets bs ws ≡ Some ns → (n : List ℕ) → Memᴰ n ns → T (is_net n)
unfolding bound_nets
bound-nets [] [] ns e n m = let z : [] ≡ ns = cc in absurd (Memᴰ-not-nil (subst (λ (xs : List (List ℕ)). Memᴰ n xs) (sym z) m))
bound-nets [] (w ∷ ws) ns e n m = absurd (let z : ◌≡◌ {A = ℕ} 0 1 = cc in omega arith)
bound-nets (b ∷ bs) [] ns e n m = absurd (let z : ◌≡◌ {A = ℕ} 0 1 = cc in omega arith)
bound-nets (b ∷ bs) (w ∷ ws) ns e n m =
    let a = then_out (pin_net b w) (λ x. and_then (bound_nets bs ws) (λ rest. Some (x ∷ rest))) ns e in
    let c = then_out (bound_nets bs ws) (λ rest. Some (a.0 ∷ rest)) ns a.2 in let z : a.0 ∷ c.0 ≡ ns = cc c.2 in
    go a.0 c.0 (subst T (sym (pin-named b w a.0 a.1)) tt) (subst (λ (xs : List (List ℕ)). Memᴰ n xs) (sym z) m) (bound-nets bs ws c.0 c.1)
  where
    go : (x : List ℕ) (xs : List (List ℕ)) → T (is_net x) → Memᴰ n (x ∷ xs) → ((y : List ℕ) → Memᴰ y xs → T (is_net y)) → T (is_net n)
    go x xs t (Memᴰ-head q) more = subst (λ (y : List ℕ). T (is_net y)) (sym q) t
    go x xs t (Memᴰ-tail q) more = more n q

take_in : (n : ℕ) (xs : List (List ℕ)) (u : List ℕ) → Memᴰ u (take n xs) → Memᴰ u xs
take_in zero xs u m = absurd (Memᴰ-not-nil m)
take_in (suc n) [] u m = absurd (Memᴰ-not-nil m)
take_in (suc n) (x ∷ xs) u (Memᴰ-head e) = Memᴰ-head e
take_in (suc n) (x ∷ xs) u (Memᴰ-tail m) = Memᴰ-tail (take_in n xs u m)

below-long : (f : ℕ → ℕ) (n i : ℕ) → length (map f (from i n)) ≡ n
unfolding from
below-long f zero i = refl
below-long f (suc n) i = ap suc (below-long f n (suc i))

named-few : (cells : List Cell) → ((c : Cell) → Memᴰ c cells → c.pins ≤ 4) → (w : List ℕ) (c : Cell) → cell_named cells w ≡ Some c → c.pins ≤ 4
unfolding cell_named
named-few [] h w c e = absurd (let z : ◌≡◌ {A = ℕ} 0 1 = cc in omega arith)
named-few (x ∷ cells) h w c e = go (same (name_of x) w) e (named-few cells (λ y m. h y (Memᴰ-tail m)) w c)
  where
    go : (b : Bool) → cond b (Some x) (cell_named cells w) ≡ Some c → (cell_named cells w ≡ Some c → c.pins ≤ 4) → c.pins ≤ 4
    go true q more = let z : x ≡ c = cc in subst (λ (y : Cell). y.pins ≤ 4) z (h x (Memᴰ-head refl))
    go false q more = more q

module _ (cells : List Cell) (few : (c : Cell) → Memᴰ c cells → c.pins ≤ 4) where
  fields_form : (at : ℕ) (ws : List (List ℕ)) (d : Driver) → gate_of_fields cells at ws ≡ Some d → Form d
  unfolding gate_of_fields below
  fields_form at [] d e = absurd (let z : ◌≡◌ {A = ℕ} 0 1 = cc in omega arith)
  fields_form at (k ∷ []) d e = absurd (let z : ◌≡◌ {A = ℕ} 0 1 = cc in omega arith)
  fields_form at (k ∷ name ∷ ws) d e =
      let a = then_out (cell_named cells name) _ d e in let c : Cell = a.0 in
      let b = then_out (bound_nets (map (λ (j : ℕ). 65 + j) (from 0 c.pins) ++ (79 ∷ [])) ws) _ d a.2 in
      let ns : List (List ℕ) = b.0 in
      let is : record { offset = at; table = c.table; uses = take c.pins ns; net = get_or ns c.pins [] } ≡ d = cc b.2 in
      let long : length ns ≡ c.pins + 1 = bound-long (map (λ (j : ℕ). 65 + j) (from 0 c.pins) ++ (79 ∷ [])) ws ns b.1 ∙ length-append (map (λ (j : ℕ). 65 + j) (from 0 c.pins)) (79 ∷ []) ∙ ap (λ (n : ℕ). n + 1) (below-long (λ (j : ℕ). 65 + j) c.pins 0) in
      let nets = bound-nets (map (λ (j : ℕ). 65 + j) (from 0 c.pins) ++ (79 ∷ [])) ws ns b.1 in
      subst Form is (record {
        pins = omega (arith, length-take-le c.pins ns (omega arith), named-few cells few name c a.1);
        own = nets (get_or ns c.pins []) (get_or_in ns c.pins [] (omega arith));
        used = λ u m. nets u (take_in c.pins ns u m);
      })

  gate_form_lem : (l : Line) (d : Driver) → gate_driver cells l ≡ Some d → Form d
  unfolding gate_driver
  gate_form_lem l d e = let a = then_out (only (ended_by_ten l) (fields l.bytes)) (gate_of_fields cells l.offset) d e in fields_form l.offset a.0 d a.2

-- ---- an output's lines

out_form : (k : ℕ) → k < 4096 → T (is_net (out_name k))
unfolding is_net all is_letter between literal
out_form k h = let z : T (is_net (112 ∷ decimal k)) = subst (λ (w : List ℕ). T (is_net w)) (own_name k) (net_form (literal false k) (omega arith)).0 in subst (λ (w : List ℕ). T (is_net w)) (sym (out_is k)) z

name_form : (k : ℕ) (l : Line) (d : Driver) → k < 4096 → name_driver k l ≡ Some d → Form d × (d.net ≡ out_name k)
unfolding name_driver
name_form k l d h e =
    let ws = fields l.bytes in
    let r = only_out (ended_by_ten l && (eqb (length ws) 3 && (same (get_or ws 0 []) (text ".names") && (is_net (get_or ws 1 []) && same (get_or ws 2 []) (out_name k)))))
    (record { offset = l.offset; table = 2; uses = get_or ws 1 [] ∷ []; net = out_name k }) d e in
    let t : T (is_net (get_or ws 1 [])) = third (ended_by_ten l) (eqb (length ws) 3) (same (get_or ws 0 []) (text ".names")) (is_net (get_or ws 1 [])) (same (get_or ws 2 []) (out_name k)) r.0 in
    subst (λ (x : Driver). Form x × (x.net ≡ out_name k)) r.1
    (record { pins = omega arith; own = out_form k h; used = λ u m. subst (λ (w : List ℕ). T (is_net w)) (sym (Memᴰ-eq_of_singleton m)) t }, refl)
  where
    third : (a b c x y : Bool) → T (a && (b && (c && (x && y)))) → T x
    third true true true true y t = tt
    third true true true false y t = t
    third true true false x y t = absurd t
    third true false c x y t = absurd t
    third false b c x y t = absurd t

-- ---- the drivers

-- those of outputs from output k on
pub record Outs (k left : ℕ) (ds : List Driver) : Type 0 where
  pub forms : (d : Driver) → Memᴰ d ds → Form d
  pub long : length ds ≡ left
  pub nets : (j : ℕ) → j < left → (get_or ds j no_driver).net ≡ out_name (k + j)

names-outs : (end k left : ℕ) (ls : List Line) (ds : List Driver) → k + left ≤ 4096 → read_names end k left ls ≡ holds ds → Outs k left ds
unfolding read_names
names-outs end k zero [] ds h e = absurd (fault_never e)
names-outs end k zero (l ∷ ls) ds h e =
    subst (Outs k 0) (holds-once (unless_out (is_line (text ".end") l) 32 l.offset (holds []) ds e).1) (record { forms = λ d m. absurd (Memᴰ-not-nil m); long = refl; nets = λ j q. absurd (omega arith) })
names-outs end k (suc left) [] ds h e = absurd (fault_never e)
names-outs end k (suc left) (l ∷ ls) ds h e =
    let a = next_out (from? (name_driver k l) 32 l.offset) _ ds e in
    let b = next_out (past_row end ls) (λ rest. next (read_names end (suc k) left rest) (λ es. holds (a.0 ∷ es))) ds a.2 in
    let c = next_out (read_names end (suc k) left b.0) (λ es. holds (a.0 ∷ es)) ds b.2 in
    let f = name_form k l a.0 (omega arith) (from_out (name_driver k l) 32 l.offset a.0 a.1) in
    subst (Outs k (suc left)) (holds-once c.2) (put a.0 c.0 f (names-outs end (suc k) left b.0 c.0 (omega arith) c.1))
  where
    put : (d : Driver) (es : List Driver) → Form d × (d.net ≡ out_name k) → Outs (suc k) left es → Outs k (suc left) (d ∷ es)
    put d es f o = record { forms = each; long = ap suc o.long; nets = net }
      where
        each : (x : Driver) → Memᴰ x (d ∷ es) → Form x
        each x (Memᴰ-head q) = subst Form (sym q) f.0
        each x (Memᴰ-tail m) = o.forms x m

        net : (j : ℕ) → j < suc left → (get_or (d ∷ es) j no_driver).net ≡ out_name (k + j)
        net zero q = f.1 ∙ ap out_name (sym (add-zero k))
        net (suc j) q = o.nets j (omega arith) ∙ ap out_name (let z : suc k + j ≡ k + suc j = omega arith in z)

outs-formed : (outs : ℕ) (ds : List Driver) → Outs 0 outs ds → Formed outs ds
outs-formed outs ds o = record {
  pins = λ d m. (o.forms d m).pins;
  own = λ d m. (o.forms d m).own;
  used = λ d m. (o.forms d m).used;
  capacity = omega (arith, o.long);
  last = λ k l. ap (λ (i : ℕ). (get_or ds i no_driver).net) (let z : length ds - outs + k ≡ k = omega (arith, o.long) in z) ∙ o.nets k l ∙ ap out_name (let z : 0 + k ≡ k = omega arith in z);
}

-- one driver before others
formed-more : (outs : ℕ) (d : Driver) (ds : List Driver) → Form d → Formed outs ds → Formed outs (d ∷ ds)
formed-more outs d ds f o = record {
  pins = λ x m. (each x m).pins;
  own = λ x m. (each x m).own;
  used = λ x m. (each x m).used;
  capacity = omega (arith, o.capacity);
  last = λ k l. ap (λ (i : ℕ). (get_or (d ∷ ds) i no_driver).net) (let z : suc (length ds) - outs + k ≡ suc (length ds - outs + k) = omega (arith, o.capacity) in z) ∙ o.last k l;
}
  where
    each : (x : Driver) → Memᴰ x (d ∷ ds) → Form x
    each x (Memᴰ-head q) = subst Form (sym q) f
    each x (Memᴰ-tail m) = record { pins = o.pins x m; own = o.own x m; used = o.used x m }

module _ (cells : List Cell) (few : (c : Cell) → Memᴰ c cells → c.pins ≤ 4) (end outs : ℕ) (small : outs ≤ 4096) where
  drivers-formed : (ls : List Line) (ds : List Driver) → read_drivers cells end outs ls ≡ holds ds → Formed outs ds
  unfolding read_drivers
  drivers-formed [] ds e = outs-formed outs ds (names-outs end 0 outs [] ds (omega arith) e)
  drivers-formed (l ∷ ls) ds e = go (is_gate l) e (drivers-formed ls)
    where
      go : (b : Bool) → cond b (next (from? (gate_driver cells l) 32 l.offset) (λ d. next (read_drivers cells end outs ls) (λ es. holds (d ∷ es)))) (read_names end 0 outs (l ∷ ls)) ≡ holds ds
          → ((es : List Driver) → read_drivers cells end outs ls ≡ holds es → Formed outs es) → Formed outs ds
      go true q later =
          let a = next_out (from? (gate_driver cells l) 32 l.offset) _ ds q in
          let b = next_out (read_drivers cells end outs ls) (λ es. holds (a.0 ∷ es)) ds a.2 in
          subst (Formed outs) (holds-once b.2) (formed-more outs a.0 b.0 (gate_form_lem cells few l a.0 (from_out (gate_driver cells l) 32 l.offset a.0 a.1)) (later b.0 b.1))
      go false q later = outs-formed outs ds (names-outs end 0 outs (l ∷ ls) ds (omega arith) q)

pub netlist-formed : (cells : List Cell) → ((c : Cell) → Memᴰ c cells → c.pins ≤ 4) → (g : Graph) → length g.outputs ≤ 4096 → (s : List ℕ) (ds : List Driver) → read_netlist cells g s ≡ holds ds
    → Formed (length g.outputs) ds
unfolding read_netlist
netlist-formed cells few g small s ds e =
    let l = next_out (past_lines (length s) (preamble_of g) (lines_from 0 [] s)) (read_drivers cells (length s) (length g.outputs)) ds e in
    drivers-formed cells few (length s) (length g.outputs) small l.0 ds l.2
