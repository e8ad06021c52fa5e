-- The outputs' own names, and the wires that lead to them from the outputs' nets.
use Rattle.base.specs.{ℕ, zero, suc, ◌+◌, ◌<◌, le_of_suc-le-suc, not-suc-le-zero, zero-add, add-zero, add-suc, suc-add, arith, ◌≡◌, refl}
use Rattle.base.specs.{sym, ◌∙◌, ap, Bool, true, false, cond, List, [], ◌∷◌, map, head-eq_of_cons-eq, tail-eq_of_cons-eq, Memᴰ}
use Rattle.base.specs.{Memᴰ-head, Memᴰ-tail, eqb, length, get_or}
use Rattle.model.specs.{from, below, as_digits, decimal, negated, var_of, Net, of_phase, of_pair, net_name, label, out_name, Wire}
use Rattle.theory_graph.proofs.{map-map, map_same, get_or_in, by_bool}
use Rattle.theory_text.proofs.{wires_from, decimal-value}
use Rattle.theory_demands.proofs.ChosenGates.{by_name, by_name_lem}

-- ---- names

-- no two outputs share a name
pub out_once : (j k : ℕ) → out_name j ≡ out_name k → j ≡ k
unfolding out_name
out_once j k e = sym (decimal-value j) ∙ ap (as_digits 0) (tail-eq_of_cons-eq e) ∙ decimal-value k

-- no output has a net's name
pub out_net : (k l : ℕ) → ¬ (out_name k ≡ net_name l)
unfolding out_name net_name
out_net k l e = go (negated l) (head-eq_of_cons-eq e)
  where
    go : (b : Bool) → ¬ (◌≡◌ {A = ℕ} 111 (cond b 109 112))
    go true q = omega arith
    go false q = omega arith

-- nor has it the name of a gate's net
pub out_label : (k : ℕ) (n : Net) → ¬ (out_name k ≡ label n)
unfolding label out_name
out_label k (of_phase l) e = out_net k l e
out_label k (of_pair l) e = let q : ◌≡◌ {A = ℕ} 111 115 = head-eq_of_cons-eq e in omega arith

-- ---- wires

-- where the wires lead to, and where they come from
targets-from : (i : ℕ) (outs : List ℕ) → map (λ (x : Wire). x.target) (wires_from i outs) ≡ map out_name (from i (length outs))
unfolding wires_from from
targets-from i [] = refl
targets-from i (l ∷ ls) = ap (λ (ns : List (List ℕ)). out_name i ∷ ns) (targets-from (suc i) ls)

pub wire-targets : (outs : List ℕ) → map (λ (x : Wire). x.target) (wires_from 0 outs) ≡ map out_name (below (length outs))
unfolding below
wire-targets outs = targets-from 0 outs

sources-from : (i : ℕ) (outs : List ℕ) → map (λ (x : Wire). x.source) (wires_from i outs) ≡ map net_name outs
unfolding wires_from
sources-from i [] = refl
sources-from i (l ∷ ls) = ap (λ (ns : List (List ℕ)). net_name l ∷ ns) (sources-from (suc i) ls)

pub wire-sources : (outs : List ℕ) → map (λ (x : Wire). x.source) (wires_from 0 outs) ≡ map net_name outs
wire-sources outs = sources-from 0 outs

-- the wire of output j of those from output i on
abbrev wire_at : ℕ → List ℕ → ℕ → Wire
wire_at i outs j = record { source = net_name (get_or outs j 0); target = out_name (i + j) }

wire_in : (i : ℕ) (outs : List ℕ) (j : ℕ) → j < length outs → Memᴰ (wire_at i outs j) (wires_from i outs)
unfolding wires_from
wire_in i [] j h = absurd (not-suc-le-zero h)
wire_in i (l ∷ ls) zero h = Memᴰ-head (ap (λ (n : ℕ). record { source = net_name l; target = out_name n }) (add-zero i))
wire_in i (l ∷ ls) (suc j) h = Memᴰ-tail (rw (suc-add i j ∙ sym (add-suc i j)) at (wire_in (suc i) ls j (le_of_suc-le-suc h)))

record IsWire (i : ℕ) (outs : List ℕ) (x : Wire) : Type 0 where
  at : ℕ
  here : at < length outs
  is : x ≡ wire_at i outs at

wire_out : (i : ℕ) (outs : List ℕ) (x : Wire) → Memᴰ x (wires_from i outs) → IsWire i outs x
unfolding wires_from
wire_out i (l ∷ ls) x (Memᴰ-head e) =
    record { at = 0; here = omega arith; is = e ∙ ap (λ (n : ℕ). record { source = net_name l; target = out_name n }) (sym (add-zero i)) }
wire_out i (l ∷ ls) x (Memᴰ-tail m) =
    let r = wire_out (suc i) ls x m in record {
      at = suc r.at;
      here = omega (arith, r.here);
      is = r.is ∙ ap (λ (n : ℕ). record { source = net_name (get_or ls r.at 0); target = out_name n }) (suc-add i r.at ∙ sym (add-suc i r.at));
    }
wire_out i [] x x3 = elim x3 [ ]

-- ---- what is read at an output's own name

-- values or arrivals of nets that the wires hand on: those of the outputs' names are those of their nets
module _ {X : Type 0} (f : List ℕ → X) (outs : List ℕ) (hands_on : (x : Wire) → Memᴰ x (wires_from 0 outs) → f x.target ≡ f x.source) where
  pub at-output : (k : ℕ) → k < length outs → f (out_name k) ≡ f (net_name (get_or outs k 0))
  at-output k h = ap (λ (n : ℕ). f (out_name n)) (sym (zero-add k)) ∙ hands_on (wire_at 0 outs k) (wire_in 0 outs k h)

  pub at-outputs : map f (map out_name (below (length outs))) ≡ map (λ (l : ℕ). f (net_name l)) outs
  at-outputs = cc (
    wire-targets outs,
    map-map f (λ (x : Wire). x.target) (wires_from 0 outs),
    map_same (λ (x : Wire). f x.target)
        (λ (x : Wire). f x.source) (wires_from 0 outs) hands_on,
    map-map f (λ (x : Wire). x.source)
        (wires_from 0 outs),
    wire-sources outs,
    map-map f net_name outs,
  )

-- ---- a look-up by a net's name or an output's own

first_of : (n : Net) → (b : ℕ) × (bs : List ℕ) × (label n ≡ b ∷ bs) × (eqb b 111 ≡ false)
unfolding label net_name
first_of (of_phase l) = (cond (negated l) 109 112, decimal (var_of l), refl, (by_bool (negated l) (λ e. cc) (λ q. cc)))
first_of (of_pair l) = (115, net_name l, refl, refl)

module _ {X : Type 0} (d : X) (val : Net → X) (outs : List ℕ) (ns : List Net) where
  pub by_label : List ℕ → X
  by_label [] = by_name d val ns []
  by_label (b ∷ bs) = cond (eqb b 111) (val (of_phase (get_or outs (as_digits 0 bs) 0))) (by_name d val ns (b ∷ bs))

  pub by_net : (n : Net) → Memᴰ n ns → by_label (label n) ≡ val n
  unfolding by_label
  by_net n m = let f = first_of n in cc (f.2, f.3, by_name_lem d val ns n m)

  by_out : (k : ℕ) → by_label (out_name k) ≡ val (of_phase (get_or outs k 0))
  unfolding by_label out_name
  by_out k = ap (λ (n : ℕ). val (of_phase (get_or outs n 0))) (decimal-value k)

  -- the wires hand on what is looked up
  pub by_wire : ((l : ℕ) → Memᴰ l outs → Memᴰ (of_phase l) ns) → (x : Wire) → Memᴰ x (wires_from 0 outs) → by_label x.target ≡ by_label x.source
  unfolding label
  by_wire h x m =
      let r = wire_out 0 outs x m in
      let l = get_or outs r.at 0 in
      cc (r.is, by_out (0 + r.at), zero-add r.at, by_net (of_phase l) (h l (get_or_in outs r.at 0 r.here)))
