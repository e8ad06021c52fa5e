-- `cells_matching::empty_match_table` meets its contract.
use Rattle.base.specs.{ℕ, arith, length-replicate, get_or-replicate}
use Rattle.cells_matching.proofs.empty_match_table.Goals as goal

pub returns : goal.returns
returns g c = λ n h. record { long = omega (arith, h, length-replicate {A = ℕ} g.row.N 0); empty = λ i l. get_or-replicate {A = ℕ} g.row.N i 0 0 (omega arith) }
