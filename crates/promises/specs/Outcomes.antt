-- Every refusal of a call by its condition: those of its texts, 15 and 16; with `Earliest.Decided`, 17 and 18.
use Rattle.std.specs.Prelude.{◌<◌, ◌≡◌, ◌⊎◌, ◌↔◌}
use Rattle.base.specs.{ℕ, Memᴰ}
use Rattle.model.specs.Graph.{Graph}
use Rattle.model.specs.{topological_order, and_vars, refused, Call, Design, map_texts, Mappable, Stands, OrderOfAll, Many, FirstOverLimit}
use Rattle.promises.specs.Refusals.{ToDesign, TextsFault, Refusals}

-- "Some AND can't be placed; place, the lowest such variable": it stands in no order in which each AND comes behind its operands, and each lower one does
pub record LowestUnordered (g : Graph) (v : ℕ) : Type 0 where
  pub is_and : Memᴰ v (and_vars g)
  pub no_order : ¬ Stands g v
  pub lower : (u : ℕ) → Memᴰ u (and_vars g) → u < v → Stands g u

-- no ordered variable has "more than 18 cuts"
abbrev pub NoneOverLimit : Graph → Type 0
NoneOverLimit g = (v : ℕ) → Memᴰ v (topological_order g) → ¬ Many g v

-- the outcome of a call: the refusals of its texts; 15 and 16 behind them; and where neither comes, what `Decided` says of 17 and 18
pub record Outcomes (c : Call) : Type 0 where
  pub texts : Refusals c
  pub of_texts : (n k : ℕ) → TextsFault c n k → map_texts c ≡ refused n k
  pub fifteen : (d : Design) → ToDesign c d → (v : ℕ) → (map_texts c ≡ refused 15 v) ↔ LowestUnordered d.graph v
  pub sixteen : (d : Design) → ToDesign c d → OrderOfAll d.graph → (v : ℕ) → (map_texts c ≡ refused 16 v) ↔ FirstOverLimit d.graph v
  pub mappable : (d : Design) → Mappable c d ↔ (ToDesign c d × OrderOfAll d.graph × NoneOverLimit d.graph)
  pub only : (n k : ℕ) → map_texts c ≡ refused n k → TextsFault c n k ⊎ ((n ≡ 15) ⊎ (n ≡ 16) ⊎ (n ≡ 17) ⊎ (n ≡ 18))
