-- `cells_pairs::pair_of` meets its contract: a pair's number names two listed cells.
use Rattle.base.specs.{sym, arith, ℕ, ◌-◌, ◌/◌, ◌%◌, ◌<◌, length, get_or}
use Rattle.model.specs.{cells_of}
use Rattle.cells_pairs.proofs.PairJoins.{listed-is}
use Rattle.cells_pairs.proofs.pair_of.Goals as goal

pub returns : goal.returns
unfolding cells_of
returns c =
    let l = c.args.lib.now in
    let ok = c.requires.0 in
    let i : ℕ = c.args.k - l.n in
    let h : i < length c.args.ids.now = omega arith in
    let x : ℕ = get_or c.args.ids.now i 0 in
    rw c.from-x.ensures
    (λ t. record {
      root = sym (listed-is l ok.joinable (x / 128) (ok.root i h)) t;
      pin = x / 32 % 4;
      inner = sym (listed-is l ok.joinable (x % 32) (ok.inner i h)) t;
    })
