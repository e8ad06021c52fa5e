-- `certificate_facts::store` meets its contract: four words, and no other.
use Rattle.base.specs.{length-set}
use Rattle.certificate_facts.proofs.StoredRows.{written}
use Rattle.certificate_facts.proofs.store.Goals as goal

pub returns : goal.returns
returns c =
    (written c.args.words.now c.args.i c.args.x c.requires, simp length-set)
