-- Libraries of the same cells form the same pairs: "Where pairs are formed, both libraries form theirs."
use Rattle.base.specs.{ℕ, ◌<◌, ◌≡◌, sym, ◌∙◌, ap, ap₂, ⊎_elim, Bool, true, false, List, map, Memᴰ, Memᴰ-append_cases}
use Rattle.base.specs.{Memᴰ-append_left, Memᴰ-append_right, T, length, get_or}
use Rattle.model.specs.{keep, below, cell_at, no_cell, pair_of, joins, pairs_of, cell_of_pair, with_pairs, cells_for, SameCells}
use Rattle.model.specs.declared.Cell.{Cell}
use Rattle.theory_graph.proofs.{map_in, map_out, each_in, each_out, keep_in, keep_out, below_in, below_out, get_or_in}
use Rattle.theory_cover.proofs.ShuffledLibrary.{line_of_lem, swapped}

-- what a pair is, with no word of lines
record IsPair (cells : List Cell) (c : Cell) : Type 0 where
  root : Cell
  inner : Cell
  pin : ℕ
  has_root : Memᴰ root cells
  has_inner : Memᴰ inner cells
  has_pin : pin < root.pins
  fits : T (joins root inner)
  is : c ≡ pair_of root pin inner

pair_out : (cells : List Cell) (c : Cell) → Memᴰ c (map (cell_of_pair cells) (pairs_of cells)) → IsPair cells c
unfolding pairs_of cell_of_pair cell_at
pair_out cells c m =
    let a = map_out (cell_of_pair cells) (pairs_of cells) m in
    let b = each_out _ (below (length cells)) a.1 in
    let d = each_out _ (below (get_or cells b.0 no_cell).pins) b.2 in
    let e = map_out _ (keep (λ (j : ℕ). joins (get_or cells b.0 no_cell) (get_or cells j no_cell)) (below (length cells))) d.2 in
    let k = keep_out (λ (j : ℕ). joins (get_or cells b.0 no_cell) (get_or cells j no_cell)) (below (length cells)) e.1 in
    record {
      root = get_or cells b.0 no_cell;
      inner = get_or cells e.0 no_cell;
      pin = d.0;
      has_root = get_or_in cells b.0 no_cell (below_out (length cells) b.0 b.1);
      has_inner = get_or_in cells e.0 no_cell (below_out (length cells) e.0 k.0);
      has_pin = below_out (get_or cells b.0 no_cell).pins d.0 d.1;
      fits = k.1;
      is = a.2 ∙ ap (cell_of_pair cells) e.2;
    }

pair_in : (cells : List Cell) (c : Cell) → IsPair cells c → Memᴰ c (map (cell_of_pair cells) (pairs_of cells))
unfolding pairs_of cell_of_pair cell_at
pair_in cells c p =
    let r = line_of_lem p.root cells p.has_root in
    let i = line_of_lem p.inner cells p.has_inner in
    rw (p.is ∙ ap₂ (λ (a b : Cell). pair_of a p.pin b) (sym r.is) (sym i.is)) (map_in (cell_of_pair cells) (each_in _
    (below_in (length cells) r.line r.here) (each_in _
    (below_in (get_or cells r.line no_cell).pins p.pin (rw r.is p.has_pin)) (map_in _ (keep_in
    (λ (j : ℕ). joins (get_or cells r.line no_cell) (get_or cells j no_cell)) (below_in (length cells) i.line i.here)
    (rw r.is (rw i.is p.fits)))))))

pairs-on : (cells cells' : List Cell) → SameCells cells cells' → (c : Cell) → Memᴰ c (with_pairs cells) → Memᴰ c (with_pairs cells')
unfolding with_pairs
pairs-on cells cells' s c m = ⊎_elim (λ i. Memᴰ-append_left (map (cell_of_pair cells') (pairs_of cells')) ((s c).0 i)) (λ q.
    let p = pair_out cells c q in Memᴰ-append_right cells' (pair_in cells' c (record {
      root = p.root;
      inner = p.inner;
      pin = p.pin;
      has_root = (s p.root).0 p.has_root;
      has_inner = (s p.inner).0 p.has_inner;
      has_pin = p.has_pin;
      fits = p.fits;
      is = p.is;
    }))) (Memᴰ-append_cases cells m)

pub pairs-same : (paired : Bool) (cells cells' : List Cell) → SameCells cells cells' → SameCells (cells_for paired cells) (cells_for paired cells')
unfolding cells_for
pairs-same true cells cells' s c = (pairs-on cells cells' s c, pairs-on cells' cells (swapped cells cells' s) c)
pairs-same false cells cells' s c = s c
