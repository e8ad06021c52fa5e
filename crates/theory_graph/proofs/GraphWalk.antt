-- A walk over a cut gives the AIGER value of its root when the leaves carry theirs.
use Rattle.base.specs.{ℕ, suc, ◌≡◌, sym, ◌∙◌, ap, ap₂, Bool, true, false, not, cond, ◌&&◌, Some, List, [], ◌∷◌, Memᴰ, Memᴰ-head}
use Rattle.base.specs.{Memᴰ-tail, Memᴰ-not-nil, T, eqb, eqb→eq, eqb_no}
use Rattle.model.specs.{bit, or_else, constant, both, node, var_of, literal_value, node_value, leaf_bit, walk}
use Rattle.model.specs.Graph.{Graph}

-- the variables' values under an assignment of the inputs
abbrev pub Valuation : Graph → (ℕ → Bool) → (ℕ → Bool) → Type 0
Valuation g assignment w = (v : ℕ) → w v ≡ node_value assignment w v (node g v)

-- the leaves carry their values: bit i of the row is the value of leaf i
abbrev pub Carry : (ℕ → Bool) → ℕ → ℕ → List ℕ → Type 0
Carry w r i [] = Unit {0}
Carry w r i (x ∷ xs) = (bit r i ≡ w x) × Carry w r (suc i) xs

-- each way down from a variable ends at a leaf or at variable 0, after n steps at most
pub data Under (g : Graph) (leaves : List ℕ) : ℕ → ℕ → Type 0 where
  leaf : {n v : ℕ} → Memᴰ v leaves → Under g leaves (suc n) v
  nought : {n v : ℕ} → node g v ≡ constant → Under g leaves (suc n) v
  and : {n v l r : ℕ} → node g v ≡ both l r → Under g leaves n (var_of l) → Under g leaves n (var_of r) → Under g leaves (suc n) v

-- a leaf gives its bit; what is no leaf gives what is said of it
leaf_walk : (w : ℕ → Bool) (r i v : ℕ) (leaves : List ℕ) (rest : Bool) → Carry w r i leaves → (¬ Memᴰ v leaves → rest ≡ w v)
    → or_else (leaf_bit leaves i r v) rest ≡ w v
unfolding or_else leaf_bit
leaf_walk w r i v [] rest c other = other Memᴰ-not-nil
leaf_walk w r i v (x ∷ xs) rest c other = go (eqb v x) (eqb→eq v x) eqb_no (leaf_walk w r (suc i) v xs rest c.1)
  where
    neither : ¬ (v ≡ x) → ¬ Memᴰ v xs → ¬ Memᴰ v (x ∷ xs)
    neither a b (Memᴰ-head e) = a e
    neither a b (Memᴰ-tail m) = b m

    go : (t : Bool) → (T t → v ≡ x) → (T (not t) → ¬ (v ≡ x)) → ((¬ Memᴰ v xs → rest ≡ w v) → or_else (leaf_bit xs (suc i) r v) rest ≡ w v)
        → or_else (cond t (Some (bit r i)) (leaf_bit xs (suc i) r v)) rest ≡ w v
    go true same differ later = c.0 ∙ ap w (sym (same tt))
    go false same differ later = later (λ h. other (neither (differ tt) h))

module _ (g : Graph) (assignment w : ℕ → Bool) (is_value : Valuation g assignment w) (leaves : List ℕ) (r : ℕ) (carry : Carry w r 0 leaves) where
  literal_cong : (u : ℕ → Bool) (l : ℕ) → u (var_of l) ≡ w (var_of l) → literal_value u l ≡ literal_value w l
  unfolding literal_value
  literal_cong u l e = ap (Rattle.model.specs.Base.flip (Rattle.model.specs.Graph.negated l)) e

  -- "A cut's function" is the value of its root
  pub walk-value : (n v : ℕ) → Under g leaves n v → walk n g leaves r v ≡ w v
  unfolding walk node_value
  walk-value (suc n) v (leaf m) = leaf_walk w r 0 v leaves _ carry (λ h. absurd (h m))
  walk-value (suc n) v (nought e) = leaf_walk w r 0 v leaves _ carry
      (λ h. ap (node_value (λ u. false) (walk n g leaves r) v) e ∙ sym (is_value v ∙ ap (node_value assignment w v) e))
  walk-value (suc n) v (and {l = l} {r = q} e a b) = leaf_walk w r 0 v leaves _ carry (λ h.
      ap (node_value (λ u. false) (walk n g leaves r) v) e ∙ ap₂ ◌&&◌ (literal_cong (walk n g leaves r) l (walk-value n (var_of l) a))
      (literal_cong (walk n g leaves r) q (walk-value n (var_of q) b)) ∙ sym (is_value v ∙ ap (node_value assignment w v) e))
  walk-value Prim.Native.Nat.zero v x' = elim x' [ ]
