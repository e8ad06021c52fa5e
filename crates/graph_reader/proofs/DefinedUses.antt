-- What the lines use is defined, as the words that they are stored in have it:
--     Passing          a loop over numbers from 0 on: what those from here on pass is what all pass
--     line_defined       where the words say that all is defined, it is so of each line
use Rattle.base.specs.{◌≡◌, sym, ap, ◌∙◌, subst, Bool, true, false, ◌&&◌, List, ◌∷◌, Memᴰ, ℕ, suc, ◌+◌, ◌-◌, ◌*◌, ◌/◌, ◌≤◌, ◌<◌}
use Rattle.base.specs.{add-one, arith, T, leb, get_or, eq-eqb}
use Rattle.model.specs.{from, below, all, node, var_of, Kind, an_input, an_output, an_and, Item, same_kind, is_kind, graph_of}
use Rattle.model.specs.declared.Header.{Header}
use Rattle.theory_graph.proofs.{map_in, keep_in, below_in, all_of, is_true}
use Rattle.base_words.specs.{constant_kind, and_kind, kind_at, left_at, right_at, output_at}
use Rattle.base_text.proofs.{and_left, and_right}
use Rattle.graph_order.specs.{kind_of, left_of, right_of, LoadedGraph}
use Rattle.graph_order.proofs.{mem_index}
use Rattle.graph_loading.specs.declared.Literals.{Literals}
use Rattle.graph_loading.proofs.{code, Short, item_of, and_of}
use Rattle.graph_reader.specs.{is_defined, uses_defined, output_defined, operands_defined, words_defined}

-- ---- a loop over the numbers below n

pub record Passing (p : ℕ → Bool) (n i : ℕ) : Type 0 where
  pub upto : i ≤ n
  pub rest : all p (below n) ≡ all p (from i (n - i))

pub passing_first : (p : ℕ → Bool) (n : ℕ) → Passing p n 0
unfolding below
passing_first p n = let e : n ≡ n - 0 = omega arith in record { upto = omega arith; rest = ap (λ (k : ℕ). all p (from 0 k)) e }

module _ (p : ℕ → Bool) (n i : ℕ) (r : Passing p n i) where
  passing_one : i < n → all p (below n) ≡ (p i && all p (from (i + 1) (n - (i + 1))))
  unfolding all from
  passing_one l =
      let e : n - i ≡ suc (n - (i + 1)) = omega arith in
      r.rest ∙ ap (λ (k : ℕ). all p (from i k)) e ∙ ap (λ (j : ℕ). p i && all p (from j (n - (i + 1)))) (sym (add-one i))

  pub passing_on : i < n → p i ≡ true → Passing p n (i + 1)
  passing_on l e = record { upto = omega arith; rest = passing_one l ∙ rw e }

  pub passing_stop : i < n → p i ≡ false → all p (below n) ≡ false
  passing_stop l e = passing_one l ∙ rw e

  pub passing_end : n ≤ i → all p (below n) ≡ true
  unfolding all from
  passing_end l = let e : n - i ≡ 0 = omega arith in r.rest ∙ ap (λ (k : ℕ). all p (from i k)) e

each_below : (p : ℕ → Bool) (n : ℕ) → all p (below n) ≡ true → (i : ℕ) → i < n → p i ≡ true
each_below p n e i l = is_true (p i) (all_of p (below n) (subst T (sym e) tt) i (below_in n i l))

-- ---- the lines

and-defined : (w : List ℕ) (m v : ℕ) → operands_defined w m v ≡ true → kind_at w m v ≡ and_kind → (is_defined w m (left_at w m v) && is_defined w m (right_at w m v)) ≡ true
unfolding operands_defined
and-defined w m v e k = rw (eq-eqb (kind_at w m v) and_kind k) at e

module _ (h : Header) (w₀ w : List ℕ) (is : List Item) (hold : LoadedGraph w₀ h w (graph_of h.size is) (0 ∷ (graph_of h.size is).inputs)) (all_defined : words_defined w h ≡ true) where
  output-is : (i : ℕ) → i < h.outputs → is_defined w h.size (output_at w h.size i) ≡ true
  unfolding words_defined output_defined
  output-is i l =
      and_right (leb (output_at w h.size i) (2 * h.size + 1)) (is_defined w h.size (output_at w h.size i))
      (each_below (output_defined w h.size) h.outputs (and_left (all (output_defined w h.size) (below h.outputs)) (all (operands_defined w h.size) (below (h.size + 1))) all_defined) i l)

  and_is : (v : ℕ) → v ≤ h.size → kind_at w h.size v ≡ and_kind → (is_defined w h.size (left_at w h.size v) && is_defined w h.size (right_at w h.size v)) ≡ true
  unfolding words_defined
  and_is v l =
      and-defined w h.size v
      (each_below (operands_defined w h.size) (h.size + 1) (and_right (all (output_defined w h.size) (below h.outputs)) (all (operands_defined w h.size) (below (h.size + 1))) all_defined) v (omega arith))

  zero_is : is_defined w h.size 0 ≡ true
  unfolding is_defined node
  zero_is = let k : kind_at w h.size 0 ≡ constant_kind = hold.represented.kinds 0 (omega arith) in rw k

  outputs_have : (at : ℕ) (l : Literals) → Memᴰ (item_of an_output at l) is → Memᴰ l.first (graph_of h.size is).outputs
  unfolding graph_of is_kind same_kind
  outputs_have at l i = map_in (λ (x : Item). get_or x.literals 0 0) (keep_in (is_kind an_output) i tt)

  ands_have : (at : ℕ) (l : Literals) → Memᴰ (item_of an_and at l) is → Memᴰ (and_of l) (graph_of h.size is).ands
  unfolding graph_of is_kind same_kind var_of
  ands_have at l i = map_in (λ (x : Item). record { var = var_of (get_or x.literals 0 0); left = get_or x.literals 1 0; right = get_or x.literals 2 0 }) (keep_in (is_kind an_and) i tt)

  pub line_defined : (k : Kind) (at : ℕ) (l : Literals) → Short k l → Memᴰ (item_of k at l) is → uses_defined w h.size (code k) l ≡ true
  unfolding uses_defined
  line_defined an_input at l e i = rw (e.0, e.1, zero_is)
  line_defined an_output at l e i =
      let j = mem_index (graph_of h.size is).outputs l.first (outputs_have at l i) in
      ap (is_defined w h.size) (sym (hold.represented.outs j.0 j.1 ∙ j.2)) ∙ output-is j.0 (omega (arith, j.1, hold.outs))
  line_defined an_and at l e i =
      let a = hold.sure (and_of l) (ands_have at l i) in
      let k : kind_at w h.size (l.first / 2) ≡ and_kind = hold.represented.kinds (l.first / 2) a.var ∙ ap kind_of a.node in
      let x : left_at w h.size (l.first / 2) ≡ l.left = hold.represented.lefts (l.first / 2) a.var ∙ ap left_of a.node in
      let y : right_at w h.size (l.first / 2) ≡ l.right = hold.represented.rights (l.first / 2) a.var ∙ ap right_of a.node in
      rw (x, y) at (and_is (l.first / 2) a.var k)
