-- The functions that `functions` leaves are those of `model`, where the words represent a graph:
--     word-is-table               a cut's function in the words is `cut_table`
--     functions_of_lem                so for all cuts of a variable
use Rattle.base.specs.{◌≡◌, refl, sym, ap, ◌∙◌, List, [], ◌∷◌, map, ℕ, zero, suc, ◌/◌, ◌≤◌, ◌<◌, arith, length}
use Rattle.model.specs.Graph.{Graph, span}
use Rattle.model.specs.{node, cut_table}
use Rattle.base_words.specs.{kind_at, left_at, right_at, position_at, node_at, cuts_at, AllGood, Sound}
use Rattle.cut_functions.specs.{leaf_word, node_word, or_word, walk_word, Ordered, cut_word, functions_of}
use Rattle.cut_functions.proofs.ConeWalks.{node-word, fuel}
use Rattle.cut_functions.proofs.ConeTables.{walk-table}

module _ (w : List ℕ) (m : ℕ) (p : Ordered w m) (ls : List ℕ) where
  module _ (g : Graph) (nodes : (u : ℕ) → u ≤ m → node_at w m u ≡ node g u) where
    word-nodes : (f u : ℕ) → u ≤ m → walk_word f (node_at w m) ls u ≡ walk_word f (node g) ls u
    unfolding walk_word node_at
    word-nodes zero u h = refl
    word-nodes (suc f) u h =
        ap (or_word (leaf_word ls 0 u))
        (node-word (walk_word f (node_at w m) ls) (walk_word f (node g) ls) (kind_at w m u) (left_at w m u) (right_at w m u)
        (λ k. word-nodes f (left_at w m u / 2) (omega (arith, p.lefts u h)))
        (λ k. word-nodes f (right_at w m u / 2) (omega (arith, p.rights u h)))
        ∙ ap (node_word (walk_word f (node g) ls)) (nodes u h))

    -- "A cut's function" in the words is that of `model`, for a variable that is ordered
    pub word-is-table : length ls ≤ 4 → (v : ℕ) → v ≤ m → 0 < position_at w m v → position_at w m v ≤ span g → cut_word w m v ls ≡ cut_table g ls v
    unfolding cut_word
    word-is-table few v h alive long =
        fuel w m p ls (position_at w m v) (span g) v h alive (omega arith) long ∙ word-nodes (span g) v h ∙ sym (walk-table g ls few v)

-- all functions of an ordered variable
pub functions_of_lem : (w : List ℕ) (m : ℕ) → Ordered w m → (g : Graph) → ((u : ℕ) → u ≤ m → node_at w m u ≡ node g u) → (v : ℕ) → v ≤ m → Sound w m v
    → 0 < position_at w m v → position_at w m v ≤ span g → functions_of w m v ≡ map (λ (c : List ℕ). cut_table g c v) (cuts_at w m v)
unfolding functions_of
functions_of_lem w m p g nodes v h s alive long = each (cuts_at w m v) s.good
  where
    each : (cs : List (List ℕ)) → AllGood cs → map (cut_word w m v) cs ≡ map (λ (c : List ℕ). cut_table g c v) cs
    each [] good = refl
    each (c ∷ cs) good = λ i. word-is-table w m p c g nodes good.0.0 v h alive long i ∷ each cs good.1 i
