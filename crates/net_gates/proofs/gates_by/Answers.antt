-- `net_gates::gates_by` meets its contract: a number below the listed cells' is a line's.
use Rattle.base.specs.{Bool, cond, ◌≡◌, sym, ap, subst, ◌∙◌, List, ℕ, ◌≤◌, ◌<◌, arith, lt-ltb, le-ltb}
use Rattle.model.specs.declared.Cell.{Cell}
use Rattle.cells_pairs.specs.{count_in, line_cell, id_in}
use Rattle.net_gates.specs.{one_driver, pair_driver, driver_by, PairReady}
use Rattle.net_gates.specs.declared.Driver.{Driver}
use Rattle.net_gates.proofs.gates_by.Goals as goal

module _ (records : List ℕ) (k : ℕ) (nets : List ℕ) (l : ℕ) where
  either : Bool → Driver
  either b = cond b (one_driver (line_cell records k) nets (line_cell records k).pins l) (pair_driver records (id_in records k) nets l)

  by_line : k < count_in records → driver_by records k nets l ≡ one_driver (line_cell records k) nets (line_cell records k).pins l
  unfolding driver_by either
  by_line h = ap either (lt-ltb k (count_in records) h)

  by_pair : count_in records ≤ k → driver_by records k nets l ≡ pair_driver records (id_in records k) nets l
  unfolding driver_by either
  by_pair h = ap either (le-ltb k (count_in records) h)

pub cell_at-cell-requires : goal.cell_at-cell-requires
cell_at-cell-requires c =
    let h : c.args.k < count_in c.args.records.now = omega (arith, c.if-k-count.true, c.count.ensures) in
    (c.requires.0.listed h).within

pub pair_id_at-id-requires : goal.pair_id_at-id-requires
pair_id_at-id-requires c =
    let h : count_in c.args.records.now ≤ c.args.k = omega (arith, c.if-k-count.false, c.count.ensures) in
    (h, c.requires.0.place h)

pub pair_gates-requires : goal.pair_gates-requires
pair_gates-requires c =
    let h : count_in c.args.records.now ≤ c.args.k = omega (arith, c.if-k-count.false, c.count.ensures) in
    (subst (PairReady c.args.records.now) (sym c.pair_id_at-id.ensures) (c.requires.0.pair h), c.requires.1)

pub returns-then-k-count : goal.returns-then-k-count
returns-then-k-count c =
    let a = c.args in
    let h : a.k < count_in a.records.now = omega (arith, c.if-k-count.true, c.count.ensures) in
    c.one_gate.ensures
    ∙ ap (λ (n : ℕ). one_driver c.cell_at-cell.result a.nets n a.l) c.from.ensures
    ∙ ap (λ (x : Cell). one_driver x a.nets x.pins a.l) c.cell_at-cell.ensures
    ∙ sym (by_line a.records.now a.k a.nets a.l h)

pub returns-else-k-count : goal.returns-else-k-count
returns-else-k-count c =
    let a = c.args in
    let h : count_in a.records.now ≤ a.k = omega (arith, c.if-k-count.false, c.count.ensures) in
    c.pair_gates.ensures
    ∙ ap (λ (x : ℕ). pair_driver a.records.now x a.nets a.l) c.pair_id_at-id.ensures
    ∙ sym (by_pair a.records.now a.k a.nets a.l h)
