-- `cells_pairs::put_cell` meets its contract: the name, which is an array of eight bytes, and four figures.
use Rattle.base.specs.{◌+◌, ◌≡◌, refl, sym, ap, ◌∙◌, List, ◌∷◌, [], append-nil, ℕ, ◌%◌, ◌/◌, ◌≤◌, arith, length, take, length-take-le, rules}
use Rattle.model.specs.{name_of}
use Rattle.model.specs.declared.Cell.{Cell}
use Rattle.base_text.specs.{Wrote}
use Rattle.base_text.proofs.{Partly, begin, step, capacity, finish}
use Rattle.cells_pairs.specs.{cell_bytes}
use Rattle.cells_pairs.proofs.RecordLookup.{cell-is, cell-bytes-length}
use Rattle.cells_pairs.proofs.put_cell.Goals as goal

-- the figures behind the name, of which n bytes are the name
abbrev figures : Cell → ℕ → List ℕ
figures c n = n ∷ c.pins ∷ c.area % 256 ∷ c.area / 256 ∷ []

-- the name is written
module _ (c : Cell) (eight : length c.name ≡ 8) (n : ℕ) (short : n ≤ 8) (taken : take n c.name ≡ take c.len c.name) where
  named : {before after : List ℕ} {at next : ℕ} → at + length (cell_bytes c) ≤ length before → Wrote before after at next c.name
      → Partly before after at next (cell_bytes c) (figures c n)
  unfolding name_of
  named {before} {after} {at} {next} fits r =
      let long : n ≡ length (take c.len c.name) = sym (length-take-le n c.name (omega arith)) ∙ ap length taken in
      step fits (begin before at (cell-is c n eight long)) after next c.name (figures c n) refl r

pub put_bytes-next-requires : goal.put_bytes-next-requires
put_bytes-next-requires c =
    let eight : length c.args.c.name ≡ 8 = search rules in
    omega (arith, c.requires.1, cell-bytes-length c.args.c)

pub put_bytes-requires : goal.put_bytes-requires
put_bytes-requires c =
    let x = c.args.c in
    let n = c.name_len in
    let eight : length x.name ≡ 8 = search rules in
    capacity c.requires.1 (named x eight n.result n.ensures.0 (n.ensures.1 x.name eight) c.requires.1 c.put_bytes-next.ensures)
    (figures x n.result) [] (sym (append-nil (figures x n.result)))

pub returns : goal.returns
returns c =
    let x = c.args.c in
    let n = c.name_len in
    let eight : length x.name ≡ 8 = search rules in
    finish c.requires.1 (named x eight n.result n.ensures.0 (n.ensures.1 x.name eight) c.requires.1 c.put_bytes-next.ensures) c.put_bytes.ensures
