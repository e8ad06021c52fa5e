-- The graph that a text spells, of any size: the text is what the graph is written as, in either form and with either line end, and a rest that is not read.
-- There is no reader to believe: one text spells one graph (`theory_certificate`, `one-graph`).
use Rattle.std.specs.Prelude.{◌+◌, ◌-◌, ◌*◌, ◌/◌, ◌%◌, ◌≤◌, ◌≡◌, ◌∷◌, ◌++◌}
use Rattle.base.specs.{ℕ, zero, suc, cond, List, [], map, Memᴰ, ltb, length}
use Rattle.model.specs.{from, each, text, decimal, And, and_vars}
use Rattle.model.specs.Graph.{Graph}

-- numbers in decimal, "one space between"
unfoldable pub numbers_text : ℕ → List ℕ → List ℕ
unfolding decimal each
numbers_text n ns = decimal n ++ each (λ (k : ℕ). 32 ∷ decimal k) ns

-- "M I L O A"
unfoldable pub counts_text : Graph → List ℕ
unfolding numbers_text
counts_text g = numbers_text g.size (length g.inputs ∷ 0 ∷ length g.outputs ∷ length g.ands ∷ [])

-- "`aag M I L O A`, then I input lines, O output lines and A lines `left right right`"
unfoldable pub ascii_lines : Graph → List (List ℕ)
unfolding text counts_text numbers_text
ascii_lines g =
    (text "aag " ++ counts_text g)
    ∷ (map (λ (v : ℕ). numbers_text (2 * v) []) g.inputs
    ++ (map (λ (l : ℕ). numbers_text l []) g.outputs
    ++ map (λ (a : And). numbers_text (2 * a.var) (a.left ∷ a.right ∷ [])) g.ands))

-- bytes that are these lines, each ended by byte 10 or by bytes 13 and 10, and a rest
pub data Lines : List (List ℕ) → List ℕ → List ℕ → Type 0 where
  none : {rest : List ℕ} → Lines [] rest rest
  ten : {l : List ℕ} {ls : List (List ℕ)} {bytes more rest : List ℕ} → bytes ≡ l ++ (10 ∷ more) → Lines ls more rest → Lines (l ∷ ls) bytes rest
  both : {l : List ℕ} {ls : List (List ℕ)} {bytes more rest : List ℕ} → bytes ≡ l ++ (13 ∷ 10 ∷ more) → Lines ls more rest → Lines (l ∷ ls) bytes rest

-- "A difference is in groups of seven bits, lowest first, the top bit set on all but the last byte", in at most so many groups and one
unfoldable pub groups : ℕ → ℕ → List ℕ
groups zero n = n ∷ []
groups (suc fuel) n = let more = groups fuel (n / 128) in cond (ltb n 128) (n ∷ []) ((128 + n % 128) ∷ more)

-- "Each AND is two differences, left minus first operand and first minus second"
unfoldable pub differences : And → List ℕ
unfolding groups
differences a = let d = 2 * a.var - a.left in let e = a.left - a.right in groups d d ++ groups e e

-- `aig M I L O A`, the output lines, and the ANDs' differences
unfoldable pub binary_text : Graph → List ℕ
unfolding text counts_text numbers_text differences each
binary_text g =
    text "aig " ++ (counts_text g ++ (10 ∷ (each (λ (l : ℕ). numbers_text l [] ++ (10 ∷ [])) g.outputs ++ each differences g.ands)))

-- "Inputs are variables 1 to I and ANDs follow in sequence", and no operand is over what it is taken from
pub record InSequence (g : Graph) : Type 0 where
  pub inputs : g.inputs ≡ from 1 (length g.inputs)
  pub ands : and_vars g ≡ from (suc (length g.inputs)) (length g.ands)
  pub falls : (a : And) → Memᴰ a g.ands → (a.left ≤ 2 * a.var) × (a.right ≤ a.left)

pub data Spells (bytes : List ℕ) (g : Graph) : Type 0 where
  ascii : (rest : List ℕ) → Lines (ascii_lines g) bytes rest → Spells bytes g
  binary : (rest : List ℕ) → InSequence g → bytes ≡ binary_text g ++ rest → Spells bytes g
