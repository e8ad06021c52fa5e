-- Names one behind the other, and those of a graph.
use Rattle.base.specs.{ℕ, zero, suc, ◌+◌, ◌-◌, ◌*◌, ◌≤◌, ◌<◌, arith, add-zero, add-one, ◌≡◌, refl, sym, ◌∙◌, ap, ap₂, Bool, false, cond}
use Rattle.base.specs.{List, [], ◌∷◌, ◌++◌, map, length, get_or, length-append}
use Rattle.model.specs.{from, below, each, text, decimal, literal, net_name, out_name, input_nets, output_nets, preamble_of}
use Rattle.model.specs.Graph.{Graph}
use Rattle.model.specs.declared.Header.{Header}
use Rattle.theory_graph.proofs.{lit_var, lit_neg}
use Rattle.base_words.specs.{slot_at}
use Rattle.base_text.proofs.{dec_below}
use Rattle.check_reader.specs.{names_from, input_name, Framing}

-- ---- names

module _ (name : ℕ → List ℕ) where
  pub names-next : (n i : ℕ) → i < n → names_from name i (n - i) ≡ (32 ∷ name i) ++ names_from name (i + 1) (n - (i + 1))
  unfolding names_from
  names-next n i h =
      let e : n - i ≡ suc (n - (i + 1)) = omega arith in
      ap (names_from name i) e ∙ ap (λ (k : ℕ). (32 ∷ name i) ++ names_from name k (n - (i + 1))) (sym (add-one i))

  pub names-none : (n i : ℕ) → n ≤ i → names_from name i (n - i) ≡ []
  unfolding names_from
  names-none n i h = let e : n - i ≡ 0 = omega arith in ap (names_from name i) e

  -- the names of a list's elements, where each stands at its place
  pub names-each : (xs : List (List ℕ)) (i : ℕ) → ((j : ℕ) → j < length xs → name (i + j) ≡ get_or xs j []) → names_from name i (length xs) ≡ each (λ (n : List ℕ). 32 ∷ n) xs
  unfolding names_from each
  names-each [] i h = refl
  names-each (x ∷ xs) i h =
      ap₂ (λ (y rest : List ℕ). (32 ∷ y) ++ rest) (ap name (sym (add-zero i)) ∙ h 0 (omega arith))
      (names-each xs (suc i) (λ j l. let e : suc i + j ≡ i + suc j = omega arith in ap name e ∙ h (suc j) (omega arith)))

pub out_is : (k : ℕ) → out_name k ≡ 111 ∷ decimal k
unfolding out_name
out_is k = refl

pub digits-few : (n : ℕ) → n ≤ 65535 → length (decimal n) ≤ 5
digits-few n h = dec_below 4 n (let z : n < 100000 = omega arith in z)

pub input-is : (w : List ℕ) (m i : ℕ) → input_name w m i ≡ 112 ∷ decimal (slot_at w m (i + 1))
unfolding input_name
input-is w m i = refl

-- short names
names-few : (name : ℕ → List ℕ) (bound : ℕ) → ((k : ℕ) → k < bound → length (name k) ≤ 6) → (n i : ℕ) → i + n ≤ bound → length (names_from name i n) ≤ 7 * n
unfolding names_from
names-few name bound h zero i l = omega arith
names-few name bound h (suc n) i l = omega (arith, h i (omega arith), names-few name bound h n (suc i) (omega arith), length-append (name i) (names_from name (suc i) n))

pub outs-short : (n : ℕ) → n ≤ 4096 → length (names_from out_name 0 n) ≤ 7 * n
outs-short n h = names-few out_name 4096 (λ k l. omega (arith, ap length (out_is k), digits-few k (omega arith))) n 0 (omega arith)

pub inputs_short : (w : List ℕ) (m : ℕ) → ((i : ℕ) → slot_at w m (i + 1) ≤ 65535) → (n : ℕ) → length (names_from (input_name w m) 0 n) ≤ 7 * n
inputs_short w m h n = names-few (input_name w m) n (λ k l. omega (arith, ap length (input-is w m k), digits-few (slot_at w m (k + 1)) (h k))) n 0 (omega arith)

-- ---- the graph's

-- an input's own positive net
pub own_name : (v : ℕ) → net_name (literal false v) ≡ 112 ∷ decimal v
unfolding net_name
own_name v = ap₂ (λ (b : Bool) (x : ℕ). cond b 109 112 ∷ decimal x) (lit_neg false v) (lit_var false v)

get_d_map : (f : ℕ → List ℕ) (xs : List ℕ) (j : ℕ) → j < length xs → get_or (map f xs) j [] ≡ f (get_or xs j 0)
get_d_map f [] j h = absurd (omega arith)
get_d_map f (x ∷ xs) zero h = refl
get_d_map f (x ∷ xs) (suc j) h = get_d_map f xs j (omega arith)

length-map : (f : ℕ → List ℕ) (xs : List ℕ) → length (map f xs) ≡ length xs
length-map f [] = refl
length-map f (x ∷ xs) = ap suc (length-map f xs)

length_from : (n i : ℕ) → length (from i n) ≡ n
unfolding from
length_from zero i = refl
length_from (suc n) i = ap suc (length_from n (suc i))

get_or-from : (n i j : ℕ) → j < n → get_or (from i n) j 0 ≡ i + j
unfolding from
get_or-from zero i j h = absurd (omega arith)
get_or-from (suc n) i zero h = sym (add-zero i)
get_or-from (suc n) i (suc j) h = get_or-from n (suc i) j (omega arith) ∙ (let e : suc i + j ≡ i + suc j = omega arith in e)

module _ (w : List ℕ) (h : Header) (g : Graph) (f : Framing w h g) where
  pub input-names : names_from (input_name w h.size) 0 h.inputs ≡ each (λ (n : List ℕ). 32 ∷ n) (input_nets g)
  unfolding input_nets
  input-names =
      let long : length (map (λ (v : ℕ). net_name (literal false v)) g.inputs) ≡ h.inputs = length-map _ g.inputs ∙ f.inputs in
      ap (names_from (input_name w h.size) 0) (sym long)
      ∙ names-each (input_name w h.size) (map (λ (v : ℕ). net_name (literal false v)) g.inputs) 0 (λ j l.
      let here : j < h.inputs = omega arith in
      let e : 0 + j ≡ j = omega arith in
      ap (input_name w h.size) e ∙ input-is w h.size j ∙ ap (λ (v : ℕ). 112 ∷ decimal v) (f.slots j here) ∙ sym (own_name (get_or g.inputs j 0))
      ∙ sym (get_d_map (λ (v : ℕ). net_name (literal false v)) g.inputs j (omega (arith, f.inputs))))

  pub output-names : names_from out_name 0 h.outputs ≡ each (λ (n : List ℕ). 32 ∷ n) (output_nets g)
  unfolding output_nets below
  output-names =
      let long : length (map out_name (from 0 (length g.outputs))) ≡ h.outputs = length-map out_name (from 0 (length g.outputs)) ∙ length_from (length g.outputs) 0 ∙ f.outputs in
      ap (names_from out_name 0) (sym long)
      ∙ names-each out_name (map out_name (from 0 (length g.outputs))) 0 (λ j l.
      let here : j < length g.outputs = omega (arith, f.outputs) in
      sym (get_d_map out_name (from 0 (length g.outputs)) j (omega (arith, length_from (length g.outputs) 0)) ∙ ap out_name (get_or-from (length g.outputs) 0 j here)))

  pub preamble-is : preamble_of g ≡ text ".model top" ∷ (text ".inputs" ++ names_from (input_name w h.size) 0 h.inputs) ∷ (text ".outputs" ++ names_from out_name 0 h.outputs) ∷ []
  unfolding preamble_of
  preamble-is = sym (ap₂ (λ (ins outs : List ℕ). text ".model top" ∷ (text ".inputs" ++ ins) ∷ (text ".outputs" ++ outs) ∷ []) input-names output-names)
