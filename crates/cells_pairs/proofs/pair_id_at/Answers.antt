-- `cells_pairs::pair_id_at` meets its contract.
use Rattle.base.specs.{arith, ap, ℕ, ◌+◌, ◌-◌, ◌*◌, get_or}
use Rattle.cells_pairs.proofs.pair_id_at.Goals as goal

pub returns : goal.returns
returns c =
    let first = ap (λ (k : ℕ). get_or c.args.records.now (1 + 12 * k + 2 * (c.args.k - k)) 0) c.count-n.ensures in
    let second = ap (λ (k : ℕ). get_or c.args.records.now (1 + 12 * k + 2 * (c.args.k - k) + 1) 0) c.count-n.ensures in
    omega (arith, first, second, c.from.ensures, c.from-2.ensures)
