-- Request N12: which pairs are formed, and in which order, apart from the definition that lists them.
use Rattle.std.specs.Prelude.{◌+◌, ◌≤◌, ◌<◌, ◌≡◌, ◌⊎◌, ◌↔◌, ◌∷◌}
use Rattle.base.specs.{List, [], Memᴰ, length}
use Rattle.model.specs.Cells.{cell_at}
use Rattle.model.specs.Pairs.{Pair, pairs_of}
use Rattle.model.specs.declared.Cell.{Cell}

-- "for each root cell, pin and inner cell with at least one pin, .. form a pair feeding that pin, if the result has at most four pins": "its pins are the
-- root's in order, with the inner's, in order, at the fed pin's place", so that the fed pin itself is none of them
pub record Joined (cells : List Cell) (p : Pair) : Type 0 where
  pub root_line : p.root < length cells
  pub fed_pin : p.pin < (cell_at cells p.root).pins
  pub inner_line : p.inner < length cells
  pub some_pin : 1 ≤ (cell_at cells p.inner).pins
  pub few : (cell_at cells p.root).pins + (cell_at cells p.inner).pins ≤ 4 + 1

-- "for each root cell, pin and inner cell .., in that order of lines"
abbrev pub Before : Pair → Pair → Type 0
Before p q = (p.root < q.root) ⊎ ((p.root ≡ q.root) × ((p.pin < q.pin) ⊎ ((p.pin ≡ q.pin) × (p.inner < q.inner))))

-- each pair before all that follow it
abbrev pub Rising : List Pair → Type 0
Rising [] = Unit
Rising (p ∷ ps) = ((q : Pair) → Memᴰ q ps → Before p q) × Rising ps

-- "all pairs are kept": the list has those and no others, each once, in the document's order. No other list has
pub record PairsKept (cells : List Cell) : Type 0 where
  pub has : (p : Pair) → Memᴰ p (pairs_of cells) ↔ Joined cells p
  pub rising : Rising (pairs_of cells)
