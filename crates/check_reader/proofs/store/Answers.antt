-- `check_reader::store` meets its contract: the eight numbers are put.
use Rattle.base.specs.{arith, ap, ◌∙◌, ℕ, ◌*◌}
use Rattle.base_words.specs.{put_at}
use Rattle.base_words.proofs.WordStores.{put_part}
use Rattle.check_reader.specs.{gate_words}
use Rattle.check_reader.proofs.store.Goals as goal

pub returns : goal.returns
unfolding gate_words
returns c =
    let a = c.args in
    put_part _ _ _ _ _ c.copy_from_slice.ensures.after (omega arith)
    ∙ ap (λ (t : ℕ). put_at a.nets.now (8 * a.i) (gate_words a.offset (record { table = t; count = a.g.count; codes = a.g.codes; net = a.g.net }))) c.from.ensures
