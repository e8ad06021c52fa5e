-- The inputs' nets: where the words have them, and their numbers.
use Rattle.base.specs.{ℕ, zero, suc, ◌+◌, ◌≤◌, ◌<◌, arith, add-zero, add-one, ◌≡◌, refl, sym, ◌∙◌, ap, subst, false, List, [], ◌∷◌, ◌++◌}
use Rattle.base.specs.{map, Memᴰ, Memᴰ-append_left, T, leb, leb→le, length, get_or, set, replicate, length-append, length-replicate}
use Rattle.base.specs.{get_or-append}
use Rattle.model.specs.{from, decimal, literal, order_from, topological_order, and_vars, net_name, is_net, input_nets}
use Rattle.model.specs.Graph.{Graph}
use Rattle.model.specs.declared.Header.{Header}
use Rattle.theory_graph.proofs.{map_out, all_of}
use Rattle.theory_check.proofs.{net_form}
use Rattle.base_words.specs.{put_at, zeros, slot_at}
use Rattle.base_words.proofs.{put-none, put-more, get_put}
use Rattle.graph_order.specs.{Fit, LoadedGraph}
use Rattle.graph_order.proofs.{fit_length, fit-capacity}
use Rattle.check_names.specs.{code}
use Rattle.check_reader.specs.{Framing}
use Rattle.check_reader.proofs.{own_name}
use Rattle.check_call.specs.{input_code, OrderedGraph}

-- ---- numbers one behind the other

from_last : (n i : ℕ) → from i (n + 1) ≡ from i n ++ ((i + n) ∷ [])
unfolding from
from_last zero i = ap (λ (k : ℕ). k ∷ []) (sym (add-zero i))
from_last (suc n) i =
    ap (from i) (let z : suc n + 1 ≡ suc (n + 1) = omega arith in z)
    ∙ ap (λ (ks : List ℕ). i ∷ ks) (from_last n (suc i) ∙ ap (λ (k : ℕ). from (suc i) n ++ (k ∷ [])) (let z : suc i + n ≡ i + suc n = omega arith in z))

map-append : (f : ℕ → ℕ) (xs ys : List ℕ) → map f (xs ++ ys) ≡ map f xs ++ map f ys
map-append f [] ys = refl
map-append f (x ∷ xs) ys = ap (λ (zs : List ℕ). f x ∷ zs) (map-append f xs ys)

pub map-long : (f : ℕ → ℕ) (n i : ℕ) → length (map f (from i n)) ≡ n
unfolding from
map-long f zero i = refl
map-long f (suc n) i = ap suc (map-long f n (suc i))

map_at : (f : ℕ → ℕ) (n i k : ℕ) → k < n → get_or (map f (from i n)) k 0 ≡ f (i + k)
unfolding from
map_at f zero i k h = absurd (omega arith)
map_at f (suc n) i zero h = ap f (sym (add-zero i))
map_at f (suc n) i (suc k) h = map_at f n (suc i) k (omega arith) ∙ ap f (let z : suc i + k ≡ i + suc k = omega arith in z)

-- a step of the loop that stores them
pub codes-more : (f : ℕ → ℕ) (codes : List ℕ) (i v : ℕ) → codes ≡ put_at (zeros 12) 0 (map f (from 0 i)) → i < 12 → v ≡ f i → set codes i v ≡ put_at (zeros 12) 0 (map f (from 0 (i + 1)))
codes-more f codes i v e h is =
    let long : length (map f (from 0 i)) ≡ i = map-long f i 0 in let twelve : length (zeros 12) ≡ 12 = length-replicate {A = ℕ} 12 0 in
    let at : i ≡ 0 + length (map f (from 0 i)) = omega arith in
    ap (λ (w : List ℕ). set w i v) e ∙ ap (λ (k : ℕ). set (put_at (zeros 12) 0 (map f (from 0 i))) k v) at
    ∙ put-more (zeros 12) 0 (map f (from 0 i)) v (omega arith)
    ∙ ap (put_at (zeros 12) 0) (ap (λ (x : ℕ). map f (from 0 i) ++ (x ∷ [])) (is ∙ ap f (let z : i ≡ 0 + i = omega arith in z)) ∙ sym (map-append f (from 0 i) ((0 + i) ∷ [])) ∙ sym (ap (map f) (from_last i 0)))

pub codes-none : (f : ℕ → ℕ) → replicate 12 0 ≡ put_at (zeros 12) 0 (map f (from 0 0))
unfolding from
codes-none f = sym (put-none (zeros 12) 0)

pub code_is : (w : List ℕ) (m i : ℕ) → input_code w m i ≡ code (112 ∷ decimal (slot_at w m (i + 1)))
unfolding input_code
code_is w m i = refl

-- ---- those of a graph that is ordered

module _ (w : List ℕ) (h : Header) (g : Graph) (p : OrderedGraph w h g) where
  hold : LoadedGraph p.before h w g (topological_order g)
  hold = p.graph_loaded

  fits : Fit h w
  fits = fit_length h p.before w p.fit hold.represented.long

  -- the inputs stand behind variable 0
  input-slot : (k : ℕ) → k < length g.inputs → (k + 1 < length (topological_order g)) × (get_or (topological_order g) (k + 1) 0 ≡ get_or g.inputs k 0)
  unfolding topological_order
  input-slot k l =
      let rest : List ℕ = order_from (length g.ands) g.ands (0 ∷ g.inputs) in (
        omega (arith, length-append g.inputs rest),
        ap (λ (i : ℕ). get_or (0 ∷ g.inputs ++ rest) i 0) (add-one k) ∙ get_or-append g.inputs rest 0 k l,
      )

  slot_is : (k : ℕ) → k < length g.inputs → slot_at w h.size (k + 1) ≡ get_or g.inputs k 0
  slot_is k l = let i = input-slot k l in hold.represented.in_order.slots (k + 1) i.0 ∙ i.1

  pub ordered-preamble : Framing w h g
  ordered-preamble = record {
    capacity = fit-capacity h w fits;
    inputs = hold.ins;
    outputs = hold.outs;
    few = omega (arith, hold.ins, p.few);
    within = omega (arith, fits.lines);
    few_outputs = fits.outs;
    slots = λ i l. slot_is i (omega (arith, hold.ins));
  }

  nets-long : length (input_nets g) ≡ length g.inputs
  unfolding input_nets
  nets-long = go g.inputs
    where
      go : (xs : List ℕ) → length (map (λ (v : ℕ). net_name (literal false v)) xs) ≡ length xs
      go [] = refl
      go (x ∷ xs) = ap suc (go xs)

  net-at : (k : ℕ) → k < length g.inputs → get_or (input_nets g) k [] ≡ 112 ∷ decimal (get_or g.inputs k 0)
  unfolding input_nets
  net-at k l = go g.inputs k l
    where
      go : (xs : List ℕ) (j : ℕ) → j < length xs → get_or (map (λ (v : ℕ). net_name (literal false v)) xs) j [] ≡ 112 ∷ decimal (get_or xs j 0)
      go [] j l = absurd (omega arith)
      go (x ∷ xs) zero l = own_name x
      go (x ∷ xs) (suc j) l = go xs j (omega arith)

  pub codes_are : (ins : List ℕ) → ins ≡ put_at (zeros 12) 0 (map (input_code w h.size) (from 0 h.inputs)) → (k : ℕ) → k < h.inputs → get_or ins k 0 ≡ code (get_or (input_nets g) k [])
  codes_are ins e k l =
      let here : k < length g.inputs = omega (arith, hold.ins) in
      let long : length (map (input_code w h.size) (from 0 h.inputs)) ≡ h.inputs = map-long (input_code w h.size) h.inputs 0 in
      let twelve : length (zeros 12) ≡ 12 = length-replicate {A = ℕ} 12 0 in
      ap (λ (x : List ℕ). get_or x k 0) e
      ∙ ap (λ (i : ℕ). get_or (put_at (zeros 12) 0 (map (input_code w h.size) (from 0 h.inputs))) i 0) (let z : k ≡ 0 + k = omega arith in z)
      ∙ get_put (zeros 12) 0 (map (input_code w h.size) (from 0 h.inputs)) (omega (arith, hold.ins, p.few)) k (omega arith)
      ∙ map_at (input_code w h.size) h.inputs 0 k l
      ∙ ap (input_code w h.size) (let z : 0 + k ≡ k = omega arith in z)
      ∙ code_is w h.size k
      ∙ ap (λ (v : ℕ). code (112 ∷ decimal v)) (slot_is k here)
      ∙ sym (ap code (net-at k here))

  pub nets_form : (u : List ℕ) → Memᴰ u (input_nets g) → T (is_net u)
  unfolding input_nets literal
  nets_form u m =
      let v = map_out (λ (x : ℕ). net_name (literal false x)) g.inputs m in
      let small : v.0 ≤ 4095 = omega (arith, inputs-small v.0 v.1, fits.capacity.small) in
      subst (λ (x : List ℕ). T (is_net x)) (sym v.2) (net_form (literal false v.0) (omega arith)).0
    where
      inputs-small : (v : ℕ) → Memᴰ v g.inputs → v ≤ h.size
      inputs-small v n = omega (arith, leb→le v g.size (all_of (λ (x : ℕ). leb x g.size) (g.inputs ++ and_vars g) p.accepted.in_range v (Memᴰ-append_left (and_vars g) n)), hold.size)

  pub inputs-counted : h.inputs ≡ length (input_nets g)
  inputs-counted = sym (nets-long ∙ hold.ins)
