-- `base_truth::pattern` meets its contract: that the number holds the leaves' tables antt computes.
use Rattle.base.specs.{Bool, ℕ, ◌*◌, ◌/◌, ◌%◌, ◌^◌, T, eqb, eqb→eq}
use Rattle.model.specs.{all, below, bit, tabulate}
use Rattle.base_truth.specs.{leaf_table}
use Rattle.base_truth.proofs.ComputedTables.{at}
use Rattle.base_truth.proofs.pattern.Goals as goal

right : ℕ → Bool
right k = eqb (18374951396690406058 / 2 ^ (16 * k) % 65536) (leaf_table k)

all_right : T (all right (below 4))
unfolding right all below leaf_table tabulate bit
all_right = tt

pub returns : goal.returns
unfolding right
returns c = eqb→eq (18374951396690406058 / 2 ^ (16 * c.args.i) % 65536) (leaf_table c.args.i) (at right 4 all_right c.args.i c.requires)
