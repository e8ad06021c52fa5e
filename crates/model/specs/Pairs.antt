-- Pairs of cells as one: "for each root cell, pin and inner cell with at least one pin, in that order of lines, form a pair feeding that pin, if the
-- result has at most four pins". A pair is a cell without a name, so that matching, covers and arrivals know cells alone.
use Rattle.std.specs.Prelude.{◌+◌, ◌-◌, ◌^◌, ◌&&◌, ◌∷◌, ◌++◌}
use Rattle.base.specs.{ℕ, zero, suc, Bool, true, false, List, [], map, leb, length, take, drop, get_or}
use Rattle.model.specs.Base.{bit, below, keep, each}
use Rattle.model.specs.Table.{value, row_of}
use Rattle.model.specs.Cuts.{tabulate}
use Rattle.model.specs.Cells.{cell_at}
use Rattle.model.specs.declared.Cell.{Cell}

-- the n elements from place p on as one
unfoldable pub splice {ℓ} : {A : Type ℓ} → ℕ → ℕ → (List A → A) → List A → List A
splice zero n f xs = f (take n xs) ∷ drop n xs
splice (suc p) n f [] = []
splice (suc p) n f (x ∷ xs) = x ∷ splice p n f xs

-- "Its pins are the root's in order, with the inner's, in order, at the fed pin's place."
unfoldable pub pair_pins : Cell → Cell → ℕ
pair_pins root inner = root.pins + inner.pins - 1

-- the root's value where the fed pin has the inner's, at the values of the pair's pins
unfoldable pub pair_value : Cell → ℕ → Cell → List Bool → Bool
unfolding value row_of splice
pair_value root pin inner bs = value root.table (row_of (splice pin inner.pins (λ (cs : List Bool). value inner.table (row_of cs)) bs))

-- in the rows of the pair's pins
unfoldable pub pair_table : Cell → ℕ → Cell → ℕ
unfolding tabulate pair_value pair_pins bit below
pair_table root pin inner = tabulate (λ r. pair_value root pin inner (map (bit r) (below (pair_pins root inner)))) (2 ^ pair_pins root inner)

-- "an inner pin's delays add to the fed pin's": ds are the root's, es those of the inner's pins
unfoldable pub join_delays : ℕ → List ℕ → List ℕ → List ℕ
join_delays p [] es = []
join_delays zero (d ∷ ds) es = map (λ (e : ℕ). d + e) es ++ ds
join_delays (suc p) (d ∷ ds) es = d ∷ join_delays p ds es

-- the delays of a pair's four pins, present or not: es are the inner's four, n its pins
unfoldable pub pair_delays : ℕ → ℕ → List ℕ → List ℕ → List ℕ
unfolding join_delays
pair_delays pin n ds es = take 4 (join_delays pin ds (take n es))

-- "Area adds; an inner pin's delays add to the fed pin's", the lowest too
unfoldable pub pair_of : Cell → ℕ → Cell → Cell
unfolding pair_pins pair_table pair_delays
pair_of root pin inner = record {
  name = [];
  len = 0;
  pins = pair_pins root inner;
  table = pair_table root pin inner;
  area = root.area + inner.area;
  delays = pair_delays pin inner.pins root.delays inner.delays;
  mins = pair_delays pin inner.pins root.mins inner.mins;
}

-- a pair by the lines of its cells, from 0, and the fed pin
pub record Pair : Type 0 where
  pub root : ℕ
  pub pin : ℕ
  pub inner : ℕ

abbrev pub no_pair : Pair
no_pair = record { root = 0; pin = 0; inner = 0 }

-- "inner cell with at least one pin", "if the result has at most four pins"
unfoldable pub joins : Cell → Cell → Bool
joins root inner = leb 1 inner.pins && leb (root.pins + inner.pins) 5

-- "for each root cell, pin and inner cell .., in that order of lines"; "all pairs are kept"
unfoldable pub pairs_of : List Cell → List Pair
unfolding each below keep cell_at joins
pairs_of cells =
    each (λ (i : ℕ). each (λ (p : ℕ). map (λ (j : ℕ). record { root = i; pin = p; inner = j })
    (keep (λ (j : ℕ). joins (cell_at cells i) (cell_at cells j)) (below (length cells))))
    (below (cell_at cells i).pins))
    (below (length cells))

-- a pair as a cell
unfoldable pub cell_of_pair : List Cell → Pair → Cell
unfolding pair_of cell_at
cell_of_pair cells p = pair_of (cell_at cells p.root) p.pin (cell_at cells p.inner)

-- "Pairs follow the listed cells"
unfoldable pub with_pairs : List Cell → List Cell
unfolding pairs_of cell_of_pair
with_pairs cells = cells ++ map (cell_of_pair cells) (pairs_of cells)

-- the pair of a number past the listed cells
unfoldable pub pair_at : List Cell → ℕ → Pair
unfolding pairs_of
pair_at cells k = get_or (pairs_of cells) (k - length cells) no_pair

-- the cells that a call maps with: "Where a call wants them", pairs too
unfoldable pub cells_for : Bool → List Cell → List Cell
unfolding with_pairs
cells_for true cells = with_pairs cells
cells_for false cells = cells
