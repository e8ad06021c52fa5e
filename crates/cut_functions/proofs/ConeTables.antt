-- The word that a walk finds is the table of `model`: bit r of it is what the walk of `model` gives in row r.
--     walk-bit                    a bit of the word
--     walk-table                  the word is `tabulate` of the walk
use Rattle.base.specs.{◌≡◌, refl, sym, ap, ap₂, ◌∙◌, Bool, true, false, not, cond, ◌&&◌, None, Some, ◌⊎◌, inl, inr, List, [], ◌∷◌, ℕ, zero}
use Rattle.base.specs.{suc, ◌+◌, ◌≤◌, ◌<◌, arith, and_le_l, eqb, ltb, length, lt-ltb}
use Rattle.model.specs.{bit, flip, or_else, Node, constant, input, undefined, both, node, var_of, negated, literal_value, node_value, leaf_bit}
use Rattle.model.specs.{walk, cut_table, phase_table, value}
use Rattle.model.specs.Graph.{Graph, span}
use Rattle.base_truth.specs.{leaf_table}
use Rattle.base_truth.proofs.{table-small, tabulate-same, tabulate-value, value-and, value_complement, value_pattern}
use Rattle.cut_functions.specs.{leaf_word, literal_word, node_word, or_word, walk_word}

-- a leaf's table is a word, and its rows are the leaf's bits
pub leaf_small : (j : ℕ) → leaf_table j < 65536
unfolding leaf_table
leaf_small j = table-small (λ r. bit r j)

leaf_row : (j r : ℕ) → r < 16 → bit (leaf_table j) r ≡ bit r j
unfolding value
leaf_row j r h = value_pattern j r h

-- a leaf by its word and by its bit: both say that v is none, or both are those of leaf j
Both : List ℕ → ℕ → ℕ → ℕ → Type 0
Both ls i r v = ((leaf_word ls i v ≡ 65536) × (leaf_bit ls i r v ≡ None)) ⊎ ((j : ℕ) × (j < 4) × (leaf_word ls i v ≡ leaf_table j) × (leaf_bit ls i r v ≡ Some (bit r j)))

leaf_both : (ls : List ℕ) (i r v : ℕ) → i + length ls ≤ 4 → Both ls i r v
unfolding Both leaf_word leaf_bit
leaf_both [] i r v h = inl (refl, refl)
leaf_both (x ∷ xs) i r v h = by (eqb v x) (leaf_both xs (suc i) r v (omega arith))
  where
    by : (t : Bool) → Both xs (suc i) r v
        → ((cond t (leaf_table i) (leaf_word xs (suc i) v) ≡ 65536) × (cond t (Some (bit r i)) (leaf_bit xs (suc i) r v) ≡ None))
        ⊎ ((j : ℕ) × (j < 4) × (cond t (leaf_table i) (leaf_word xs (suc i) v) ≡ leaf_table j) × (cond t (Some (bit r i)) (leaf_bit xs (suc i) r v) ≡ Some (bit r j)))
    by true rest = inr (i, omega arith, refl, refl)
    by false rest = rest

-- every word that a walk finds has 16 bits
literal-small : (look : ℕ → ℕ) (l : ℕ) → ((u : ℕ) → look u < 65536) → literal_word look l < 65536
unfolding literal_word phase_table
literal-small look l h = by (negated l)
  where
    by : (t : Bool) → phase_table t (look (var_of l)) < 65536
    by true = omega arith
    by false = h (var_of l)

node-small : (look : ℕ → ℕ) (k : Node) → ((u : ℕ) → look u < 65536) → node_word look k < 65536
unfolding node_word
node-small look constant h = omega arith
node-small look input h = omega arith
node-small look undefined h = omega arith
node-small look (both l r) h = omega (arith, and_le_l (literal_word look l) (literal_word look r), literal-small look l h)

pub walk-small : (f : ℕ) (nodes : ℕ → Node) (ls : List ℕ) (v : ℕ) → walk_word f nodes ls v < 65536
unfolding walk_word
walk-small zero nodes ls v = omega arith
walk-small (suc f) nodes ls v = by (ltb (leaf_word ls 0 v) 65536) refl (node-small (walk_word f nodes ls) (nodes v) (walk-small f nodes ls))
  where
    by : (t : Bool) → ltb (leaf_word ls 0 v) 65536 ≡ t → node_word (walk_word f nodes ls) (nodes v) < 65536
        → cond t (leaf_word ls 0 v) (node_word (walk_word f nodes ls) (nodes v)) < 65536
    by true e h = borrow.Author.Tests.ltb-true (leaf_word ls 0 v) 65536 e
    by false e h = h

module _ (g : Graph) (ls : List ℕ) (few : length ls ≤ 4) (r : ℕ) (row : r < 16) where
  literal-bit : (look : ℕ → ℕ) (val : ℕ → Bool) (l : ℕ) → ((u : ℕ) → look u < 65536) → ((u : ℕ) → bit (look u) r ≡ val u) → bit (literal_word look l) r ≡ literal_value val l
  unfolding literal_word phase_table literal_value flip value
  literal-bit look val l small same = by (negated l)
    where
      by : (t : Bool) → bit (phase_table t (look (var_of l))) r ≡ flip t (val (var_of l))
      by true = value_complement (look (var_of l)) r (small (var_of l)) row ∙ ap not (same (var_of l))
      by false = same (var_of l)

  zero_bit : (q : ℕ) → bit 0 q ≡ false
  unfolding bit
  zero_bit zero = refl
  zero_bit (suc q) = zero_bit q

  node-bit : (look : ℕ → ℕ) (val : ℕ → Bool) (v : ℕ) (k : Node) → ((u : ℕ) → look u < 65536) → ((u : ℕ) → bit (look u) r ≡ val u)
      → bit (node_word look k) r ≡ node_value (λ u. false) val v k
  unfolding node_word node_value value
  node-bit look val v constant small same = zero_bit r
  node-bit look val v input small same = zero_bit r
  node-bit look val v undefined small same = zero_bit r
  node-bit look val v (both l q) small same =
      value-and (literal_word look l) (literal_word look q) r ∙ ap₂ ◌&&◌ (literal-bit look val l small same) (literal-bit look val q small same)

  pub walk-bit : (f v : ℕ) → bit (walk_word f (node g) ls v) r ≡ walk f g ls r v
  unfolding walk_word walk or_else Both
  walk-bit zero v = zero_bit r
  walk-bit (suc f) v =
      by (leaf_both ls 0 r v (omega arith)) (node-bit (walk_word f (node g) ls) (walk f g ls r) v (node g v) (walk-small f (node g) ls) (walk-bit f))
    where
      word : ℕ
      word = node_word (walk_word f (node g) ls) (node g v)

      value : Bool
      value = node_value (λ u. false) (walk f g ls r) v (node g v)

      by : Both ls 0 r v → bit word r ≡ value → bit (or_word (leaf_word ls 0 v) word) r ≡ or_else (leaf_bit ls 0 r v) value
      by (inl e) h = rw (e.0, e.1) h
      by (inr e) h = rw (e.2, e.3, lt-ltb (leaf_table e.0) 65536 (leaf_small e.0)) (leaf_row e.0 r row)

-- "A cut's function" of `model` is the word that a walk finds, at the same fuel
pub walk-table : (g : Graph) (ls : List ℕ) → length ls ≤ 4 → (v : ℕ) → cut_table g ls v ≡ walk_word (span g) (node g) ls v
unfolding cut_table value
walk-table g ls few v =
    tabulate-same 16 (λ r. walk (span g) g ls r v) (value (walk_word (span g) (node g) ls v)) (λ r h. sym (walk-bit g ls few r h (span g) v))
    ∙ tabulate-value 16 (walk_word (span g) (node g) ls v) (walk-small (span g) (node g) ls v)
