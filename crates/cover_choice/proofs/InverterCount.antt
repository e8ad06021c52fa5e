-- How many variables are ordered, and how many cuts one has:
--     few-ordered, all-ordered      at most all variables, and all that are defined
--     few-cuts, count-few         at most as many as the limit
use Rattle.base.specs.{ℕ, zero, suc, ◌+◌, ◌≤◌, arith, ◌≡◌, refl, sym, ap, subst, Bool, true, false, List, [], ◌∷◌, ◌++◌, Memᴰ}
use Rattle.base.specs.{Memᴰ-not-nil, T, ltb, length, length-append, length-map, ltb-false}
use Rattle.model.specs.{cut_limit, below, from, And, topological_order, and_vars, cuts_of, over_limit}
use Rattle.model.specs.Graph.{Graph, span}
use Rattle.theory_graph.proofs.{below_in, keep_in, order-once, order_small, defined-ordered, length-order, cuts-none}
use Rattle.theory_graph.specs.AcceptedGraph.{Accepted}
use Rattle.theory_order.proofs.{no_more, by_elem, distinct-yes}
use Rattle.base_words.specs.{count_at, RepresentsCuts}
use Rattle.base_words.proofs.{represented-count}

length_from : (i n : ℕ) → length (from i n) ≡ n
unfolding from
length_from i zero = refl
length_from i (suc n) = ap suc (length_from (suc i) n)

length-below : (n : ℕ) → length (below n) ≡ n
unfolding below
length-below n = length_from 0 n

pub few-ordered : (g : Graph) → Accepted g → length (topological_order g) ≤ g.size + 1
few-ordered g ok =
    omega (
      arith,
      no_more (topological_order g) (below (g.size + 1)) (order-once g ok) (λ v m. let h : v ≤ g.size = order_small g ok v m in below_in (g.size + 1) v (omega arith)),
      length-below (g.size + 1),
    )

pub all-ordered : (g : Graph) → Accepted g → length (topological_order g) ≡ length g.inputs + length g.ands + 1
unfolding span
all-ordered g ok =
    let all : List ℕ = 0 ∷ g.inputs ++ and_vars g in
    let n : length all ≤ length (topological_order g) = no_more all (topological_order g) (distinct-yes all ok.defined) (λ u m. defined-ordered g ok u m) in
    omega (arith, n, length-order g, length-append g.inputs (and_vars g), length-map g.ands (λ (a : And). a.var))

pub few-cuts : (g : Graph) → over_limit g ≡ [] → (v : ℕ) → length (cuts_of g v) ≤ cut_limit
unfolding over_limit cuts_of
few-cuts g free v = by_elem v (topological_order g) (λ m. go m (ltb cut_limit (length (cuts_of g v))) refl) (λ n. omega (arith, ap length (cuts-none g v n)))
  where
    go : Memᴰ v (topological_order g) → (t : Bool) → ltb cut_limit (length (cuts_of g v)) ≡ t → length (cuts_of g v) ≤ cut_limit
    go m true e = absurd (Memᴰ-not-nil (subst (λ (l : List ℕ). Memᴰ v l) free (keep_in (λ (u : ℕ). ltb cut_limit (length (cuts_of g u))) m (subst T (sym e) tt))))
    go m false e = ltb-false cut_limit (length (cuts_of g v)) e

pub count-few : (w : List ℕ) (g : Graph) → Accepted g → over_limit g ≡ [] → RepresentsCuts w g → (v : ℕ) → v ≤ g.size → count_at w g.size v ≤ cut_limit
count-few w g ok free h v l = omega (arith, represented-count w g h v l, few-cuts g free v)
