-- Orders of the ANDs and sets of cuts as document 01's sentences have them, apart from the definitions that compute them: what 15 and 16 are stated by.
use Rattle.std.specs.Prelude.{◌≤◌, ◌<◌, ◌≡◌, ◌⊎◌, ◌↔◌, ◌∷◌, ◌++◌}
use Rattle.base.specs.{ℕ, List, [], Memᴰ, length}
use Rattle.model.specs.Limits.{cut_limit}
use Rattle.model.specs.Graph.{And, Graph, var_of, and_vars, topological_order}
use Rattle.model.specs.Demands.{Distinct}

-- ---- orders

-- v is the variable of an AND whose operands' variables are both in the list
pub record Follows (g : Graph) (before : List ℕ) (v : ℕ) : Type 0 where
  pub line : And
  pub is_line : Memᴰ line g.ands
  pub is_var : line.var ≡ v
  pub left : Memᴰ (var_of line.left) before
  pub right : Memᴰ (var_of line.right) before

-- an order of ANDs: none twice, and each one's operands are variable 0, inputs, or ANDs that stand before it
pub record Order (g : Graph) (vs : List ℕ) : Type 0 where
  pub once : Distinct vs
  pub follows : (pre : List ℕ) (v : ℕ) (post : List ℕ) → vs ≡ pre ++ (v ∷ post) → Follows g (0 ∷ g.inputs ++ pre) v

-- v stands in some order
pub record Stands (g : Graph) (v : ℕ) : Type 0 where
  pub order : List ℕ
  pub is_order : Order g order
  pub is_in : Memᴰ v order

-- an order of all ANDs
pub record OrderOfAll (g : Graph) : Type 0 where
  pub order : List ℕ
  pub is_order : Order g order
  pub has_all : (v : ℕ) → Memᴰ v (and_vars g) → Memᴰ v order

-- ---- cuts: "The cut set of variable 0 is {∅}; of input i, {{i}}; of AND n, {{n}} and every union of a cut of one operand's variable with a cut of the
-- other's that has at most four members."

-- each element is less than all that come after it
abbrev pub Ascending {ℓ} : {A : Type 0} → (A → A → Type ℓ) → List A → Type ℓ
Ascending less [] = Unit
Ascending {A = A} less (x ∷ xs) = ((y : A) → Memᴰ y xs → less x y) × Ascending less xs

-- z is the union of two sets, as an ascending list
pub record IsUnion (c d z : List ℕ) : Type 0 where
  pub ascends : Ascending ◌<◌ z
  pub has : (x : ℕ) → Memᴰ x z ↔ (Memᴰ x c ⊎ Memᴰ x d)

-- a cut of a variable
pub data IsCut (g : Graph) : ℕ → List ℕ → Type 0 where
  of_constant : IsCut g 0 []
  of_input : {i : ℕ} → Memᴰ i g.inputs → IsCut g i (i ∷ [])
  of_and : {a : And} → Memᴰ a g.ands → IsCut g a.var (a.var ∷ [])
  of_operands : {a : And} {c d z : List ℕ} → Memᴰ a g.ands → IsCut g (var_of a.left) c → IsCut g (var_of a.right) d → IsUnion c d z → length z ≤ 4
      → IsCut g a.var z

-- "more than 18 cuts": so many different ones
pub record Many (g : Graph) (v : ℕ) : Type 0 where
  pub cuts : List (List ℕ)
  pub once : Distinct cuts
  pub are_cuts : (c : List ℕ) → Memᴰ c cuts → IsCut g v c
  pub over : cut_limit < length cuts

-- "place, the first such variable in placing order"
pub record FirstOverLimit (g : Graph) (v : ℕ) : Type 0 where
  pub before : List ℕ
  pub behind : List ℕ
  pub is_ordered : topological_order g ≡ before ++ (v ∷ behind)
  pub many : Many g v
  pub few_before : (u : ℕ) → Memᴰ u before → ¬ Many g u
