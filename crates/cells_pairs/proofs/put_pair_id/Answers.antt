-- `cells_pairs::put_pair_id` meets its contract: one number is put, or none.
use Rattle.base.specs.{sym, ap, ◌∙◌, List, ℕ, ◌+◌, ◌<◌, arith, length}
use Rattle.base_words.specs.{put_at}
use Rattle.base_words.proofs.{put_one}
use Rattle.base_text.proofs.{idle}
use Rattle.cells_pairs.proofs.PairJoins.{id_one, id_none}
use Rattle.cells_pairs.proofs.put_pair_id.Goals as goal

pub bounds-ids-at : goal.bounds-ids-at
bounds-ids-at c =
    omega (arith, c.requires.3, ap length (id_one c.args.root c.args.inner c.args.k (sym c.if-joins.true ∙ c.joins.ensures)))

pub returns-then-joins : goal.returns-then-joins
returns-then-joins c =
    let e = id_one c.args.root c.args.inner c.args.k (sym c.if-joins.true ∙ c.joins.ensures) in
    let h : c.args.at < length c.args.ids.now = omega (arith, c.requires.3, ap length e) in
    record {
      ends = sym (ap (λ (x : List ℕ). c.args.at + length x) e);
      leaves = put_one c.args.ids.now c.args.at c.args.k h ∙ sym (ap (put_at c.args.ids.now c.args.at) e);
    }

pub returns : goal.returns
returns c =
    idle c.args.ids.now c.args.at (id_none c.args.root c.args.inner c.args.k (sym c.if-joins.false ∙ c.joins.ensures))
