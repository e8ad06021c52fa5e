-- The graph, the topological order, and the value of a variable as AIGER has it.
use Rattle.std.specs.Prelude.{◌+◌, ◌*◌, ◌/◌, ◌%◌, ◌&&◌, ◌∷◌, ◌++◌, ◌≡◌}
use Rattle.base.specs.{ℕ, zero, suc, Bool, false, not, cond, Option, None, Some, List, [], map}
use Rattle.base.specs.{Memᴰ, eqb, length}
use Rattle.model.specs.Base.{flip, elem, keep, lowest, find, run}

-- a line `left right right`: the variable that it defines, and two literals
pub record And : Type 0 where
  pub var : ℕ
  pub left : ℕ
  pub right : ℕ

-- `aag M I L O A`: M, the inputs' variables, the outputs' literals, the ANDs; and, of an input's variable, when this input arrives: "The input
-- record gains this number"
pub record Graph : Type 0 where
  pub size : ℕ
  pub inputs : List ℕ
  pub outputs : List ℕ
  pub ands : List And
  pub input_arrival : ℕ → ℕ

-- "Literal 2v is variable v, 2v+1 its complement"
unfoldable pub var_of : ℕ → ℕ
var_of l = l / 2

-- a literal is a complement
unfoldable pub negated : ℕ → Bool
negated l = eqb (l % 2) 1

-- the literal of a variable, complemented or not
unfoldable pub literal : Bool → ℕ → ℕ
literal neg v = cond neg (2 * v + 1) (2 * v)

-- the other phase of a literal's variable
unfoldable pub opposite : ℕ → ℕ
unfolding literal negated var_of
opposite l = literal (not (negated l)) (var_of l)

-- what a variable is
pub data Node : Type 0 where
  constant input undefined : Node
  both : ℕ → ℕ → Node

-- the AND that defines a variable
unfoldable pub find_and : ℕ → List And → Node
find_and v [] = undefined
find_and v (a ∷ as') = let r = find_and v as' in cond (eqb v a.var) (both a.left a.right) r

-- "variable 0 is constant false"
unfoldable pub node : Graph → ℕ → Node
unfolding find_and elem
node g v = cond (eqb v 0) constant (cond (elem v g.inputs) input (find_and v g.ands))

-- an AND "whose operands are both placed", and that is not ordered itself
unfoldable pub ready : List ℕ → And → Bool
unfolding elem var_of
ready ordered a = not (elem a.var ordered) && (elem (var_of a.left) ordered && elem (var_of a.right) ordered)

-- v, and what comes after it; nothing where there is no v
unfoldable pub and_on : Option ℕ → (ℕ → List ℕ) → List ℕ
and_on None on = []
and_on (Some v) on = v ∷ on v

-- the ANDs that can be ordered after those ordered already, one after the other
unfoldable pub order_from : ℕ → List And → List ℕ → List ℕ
unfolding lowest ready keep and_on
order_from zero ands ordered = []
order_from (suc fuel) ands ordered =
    and_on (lowest (map (λ (a : And). a.var) (keep (ready ordered) ands))) (λ v. order_from fuel ands (v ∷ ordered))

-- the variables of the ANDs
abbrev pub and_vars : Graph → List ℕ
and_vars g = map (λ (a : And). a.var) g.ands

-- "variable 0 and the inputs first, then again and again the lowest-numbered AND whose operands are both placed"
-- document 01: "placing order"
unfoldable pub topological_order : Graph → List ℕ
unfolding order_from
topological_order g = 0 ∷ g.inputs ++ order_from (length g.ands) g.ands (0 ∷ g.inputs)

-- as many as variable 0, the inputs and the ANDs: no walk down from an ordered variable is longer
unfoldable pub span : Graph → ℕ
span g = suc (length g.inputs + length g.ands)

-- "Some AND can't be placed"
unfoldable pub unordered : Graph → List ℕ
unfolding keep elem topological_order
unordered g = let ordered = topological_order g in keep (λ (v : ℕ). not (elem v ordered)) (and_vars g)

-- ---- values

-- the value of a literal, given the variables' values
unfoldable pub literal_value : (ℕ → Bool) → ℕ → Bool
unfolding flip negated var_of
literal_value w l = flip (negated l) (w (var_of l))

-- the value of a variable, given the assignment of the inputs and the values of the variables ordered before it
unfoldable pub node_value : (ℕ → Bool) → (ℕ → Bool) → ℕ → Node → Bool
unfolding literal_value
node_value assignment w v constant = false
node_value assignment w v input = assignment v
node_value assignment w v undefined = false
node_value assignment w v (both l r) = literal_value w l && literal_value w r

-- the values of all variables under an assignment of the inputs (by variable), in topological order
unfoldable pub values : Graph → (ℕ → Bool) → List (ℕ × Bool)
unfolding run find topological_order node node_value
values g assignment = run (λ known v. node_value assignment (λ u. find false u known) v (node g v)) (topological_order g) []

-- the value of a variable under an assignment of the inputs
unfoldable pub value_of : Graph → (ℕ → Bool) → ℕ → Bool
unfolding values find
value_of g assignment v = find false v (values g assignment)

-- AIGER's value of each variable, as a relation: the constant is false, an input has its assignment, an AND is the AND of its literals
pub record GraphValues (g : Graph) (assignment w : ℕ → Bool) : Type 0 where
  pub at_constant : w 0 ≡ false
  pub at_inputs : (v : ℕ) → Memᴰ v g.inputs → w v ≡ assignment v
  pub at_ands : (a : And) → Memᴰ a g.ands → w a.var ≡ (literal_value w a.left && literal_value w a.right)
