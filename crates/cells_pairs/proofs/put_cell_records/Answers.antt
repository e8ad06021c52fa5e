-- `cells_pairs::put_cell_records` meets its contract: how many cells are listed, each, then the pairs' numbers. 833 bytes hold 32 cells and 224 pairs, and
-- fewer cells with more pairs.
use Rattle.base.specs.{refl, sym, ap, List, [], ◌∷◌, ◌++◌, append-nil, ℕ, ◌+◌, ◌≤◌, arith, length, length-append}
use Rattle.model.specs.{each, cells_of}
use Rattle.model.specs.declared.Library.{Library}
use Rattle.base_text.proofs.{Partly, begin, step, capacity, finish}
use Rattle.cells_pairs.specs.{Coded, cell_bytes, id_bytes, listed_bytes, cell_records_of}
use Rattle.cells_pairs.proofs.RecordLookup.{listed-length, ids-length}
use Rattle.cells_pairs.proofs.put_cell_records.Goals as goal
use Rattle.cells_pairs.proofs.put_cell_records.Goals.{After-put_byte-first, After-put_cells-at}

-- all of it has room
fits : (lib : Library) (ids : List ℕ) → Coded lib ids → (records : List ℕ) → 833 ≤ length records → 0 + length (cell_records_of (cells_of lib) ids) ≤ length
    records
fits lib ids ok records h =
    omega (
      arith,
      length-append (listed_bytes (cells_of lib)) (each id_bytes ids),
      listed-length (cells_of lib),
      ids-length ids,
      ok.joinable.whole,
      ok.joinable.few,
      ok.few,
    )

-- the number of cells is written
one : (c : After-put_byte-first)
    → Partly c.args.records.now c.put_byte-first.new.out 0 c.put_byte-first.result (cell_records_of (cells_of c.args.lib) c.args.ids.now)
    (each cell_bytes (cells_of c.args.lib) ++ each id_bytes c.args.ids.now)
one c =
    let a = c.args in
    let rest = each cell_bytes (cells_of a.lib) ++ each id_bytes a.ids.now in
    step (fits a.lib a.ids.now c.requires.0 a.records.now c.requires.1) (begin a.records.now 0 (ap (λ (n : ℕ). n ∷ rest) c.requires.0.joinable.whole))
    c.put_byte-first.new.out c.put_byte-first.result
    (a.lib.n ∷ []) rest refl c.put_byte-first.ensures

-- and the cells
two : (c : After-put_cells-at)
    → Partly c.args.records.now c.put_byte-first.new.out 0 c.put_byte-first.result (cell_records_of (cells_of c.args.lib) c.args.ids.now)
    (each cell_bytes (cells_of c.args.lib) ++ each id_bytes c.args.ids.now)
    → Partly c.args.records.now c.put_cells-at.new.records 0 c.put_cells-at.result (cell_records_of (cells_of c.args.lib) c.args.ids.now)
    (each id_bytes c.args.ids.now)
two c p =
    let a = c.args in
    step (fits a.lib a.ids.now c.requires.0 a.records.now c.requires.1) p c.put_cells-at.new.records c.put_cells-at.result (each cell_bytes (cells_of a.lib))
    (each id_bytes a.ids.now) refl
    c.put_cells-at.ensures

pub put_cells-at-requires : goal.put_cells-at-requires
put_cells-at-requires c =
    let a = c.args in (
      c.requires.0.joinable,
      capacity (fits a.lib a.ids.now c.requires.0 a.records.now c.requires.1) (one (goal.at.put_cells-at-requires c).After-put_byte-first)
          (each cell_bytes (cells_of a.lib)) (each id_bytes a.ids.now) refl,
    )

pub put_pair_ids-requires : goal.put_pair_ids-requires
put_pair_ids-requires c =
    let a = c.args in
    let ids = a.ids.now in
    let p = goal.at.put_pair_ids-requires c in
    capacity (fits a.lib ids c.requires.0 a.records.now c.requires.1) (two p.After-put_cells-at (one p.After-put_byte-first)) (each id_bytes ids) []
    (sym (append-nil (each id_bytes ids)))

pub returns : goal.returns
returns c =
    let a = c.args in
    let p = goal.at.returns c in
    finish (fits a.lib a.ids.now c.requires.0 a.records.now c.requires.1) (two p.After-put_cells-at (one p.After-put_byte-first)) c.put_pair_ids.ensures
