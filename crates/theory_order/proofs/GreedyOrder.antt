-- "Placing order: variable 0 and the inputs first, then again and again the lowest-numbered AND whose operands are both placed", as a relation apart
-- from the definition.
--     ordering_iff                 the topological order is what the sentence says, and nothing else is
use Rattle.base.specs.{ℕ, zero, suc, ◌≤◌, le_antisymm, arith, ◌≡◌, refl, sym, ap, ap₂, subst, ◌↔◌, not, ◌&&◌, List, [], ◌∷◌, ◌++◌, map}
use Rattle.base.specs.{Memᴰ, Memᴰ-cast, length, yes_and}
use Rattle.model.specs.{elem, keep, lowest, And, var_of, ready, and_on, order_from, topological_order, Follows}
use Rattle.model.specs.Graph.{Graph}
use Rattle.theory_graph.proofs.{map_in, keep_in, elem-T, by_option}
use Rattle.theory_order.proofs.OrderSplits.{cons_tail, keep-length, lowest-none, lowest-least}
use Rattle.theory_order.proofs.OrderProperties.{waiting, in_not, next-step, fewer_wait}

-- behind those ordered already: nothing, where no AND is left whose operands are ordered; else the lowest such AND, and so on behind it
pub data Greedy (g : Graph) : List ℕ → List ℕ → Type 0 where
  ends : {ordered : List ℕ} → ((w : ℕ) → Follows g ordered w → ¬ ¬ Memᴰ w ordered) → Greedy g ordered []
  goes : {ordered : List ℕ} {v : ℕ} {vs : List ℕ} → Follows g ordered v → ¬ Memᴰ v ordered → ((w : ℕ) → Follows g ordered w → ¬ Memᴰ w ordered → v ≤ w)
      → Greedy g (v ∷ ordered) vs → Greedy g ordered (v ∷ vs)

some-length : {a : And} (xs : List And) → Memᴰ a xs → ¬ (length xs ≤ 0)
some-length (x ∷ xs) n k = omega arith
some-length {a = a} [] n k = elim n [ ]

module _ (g : Graph) where
  waits : (ordered : List ℕ) (w : ℕ) (f : Follows g ordered w) → ¬ Memᴰ w ordered → ¬ Memᴰ f.line.var ordered
  waits ordered w f n m = n (Memᴰ-cast (sym f.is_var) m)

  ready_in : (ordered : List ℕ) (w : ℕ) → Follows g ordered w → ¬ Memᴰ w ordered → Memᴰ w (map (λ (a : And). a.var) (keep (ready ordered) g.ands))
  unfolding ready
  ready_in ordered w f n = Memᴰ-cast (sym f.is_var) (map_in (λ (a : And). a.var) (keep_in (ready ordered) f.is_line
      (yes_and (not (elem f.line.var ordered)) (elem (var_of f.line.left) ordered && elem (var_of f.line.right) ordered)
      (in_not f.line.var ordered (waits ordered w f n)) (yes_and (elem (var_of f.line.left) ordered)
      (elem (var_of f.line.right) ordered) (elem-T (var_of f.line.left) ordered f.left)
      (elem-T (var_of f.line.right) ordered f.right)))))

  -- the definition does what the sentence says
  order_greedy : (fuel : ℕ) (ordered : List ℕ) → length (keep (waiting ordered) g.ands) ≤ fuel → Greedy g ordered (order_from fuel g.ands ordered)
  unfolding order_from and_on
  order_greedy zero ordered h = ends (λ w f n. some-length (keep (waiting ordered) g.ands) (keep_in (waiting ordered) f.is_line (in_not f.line.var ordered (waits ordered w f n))) h)
  order_greedy (suc fuel) ordered h = by_option (lowest (map (λ (a : And). a.var) (keep (ready ordered) g.ands)))
      (λ e. rw e (ends (λ w f n. lowest-none (map (λ (a : And). a.var) (keep (ready ordered) g.ands)) e w (ready_in ordered w f n))))
      (λ q p. rw p (let t = (rw p at (next-step g ordered)) q refl in goes t.follows t.new
      (λ w f n. lowest-least (map (λ (a : And). a.var) (keep (ready ordered) g.ands)) q p w (ready_in ordered w f n))
      (order_greedy fuel (q ∷ ordered) (omega (arith, fewer_wait g ordered q t)))))

  -- and only one list does
  greedy_once : {ordered vs us : List ℕ} → Greedy g ordered vs → Greedy g ordered us → vs ≡ us
  greedy_once (ends a) (ends b) = refl
  greedy_once (ends a) (goes {v = w} f n b m) = absurd (a w f n)
  greedy_once (goes {v = v} f n a m) (ends b) = absurd (b v f n)
  greedy_once {ordered} (goes {v = v} f n a m) (goes {v = w} {vs = us} k o b q) =
      let e : v ≡ w = le_antisymm (a w k o) (b v f n) in
      ap₂ (λ (x : ℕ) (xs : List ℕ). x ∷ xs) e (greedy_once m (subst (λ (x : ℕ). Greedy g (x ∷ ordered) us) (sym e) q))

  pub ordering_iff : (vs : List ℕ) → Greedy g (0 ∷ g.inputs) vs ↔ (0 ∷ g.inputs ++ vs ≡ topological_order g)
  unfolding topological_order
  ordering_iff vs =
      let all-greedy = order_greedy (length g.ands) (0 ∷ g.inputs) (keep-length (waiting (0 ∷ g.inputs)) g.ands) in
      ((λ m. ap (λ (xs : List ℕ). 0 ∷ g.inputs ++ xs) (greedy_once m all-greedy)), (λ e. rw (same-behind (0 ∷ g.inputs) e) all-greedy))
    where
      same-behind : {ys zs : List ℕ} (xs : List ℕ) → xs ++ ys ≡ xs ++ zs → ys ≡ zs
      same-behind [] e = e
      same-behind (x ∷ xs) e = same-behind xs (cons_tail e)
