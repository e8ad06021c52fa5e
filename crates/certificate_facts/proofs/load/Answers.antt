-- `certificate_facts::load` meets its contract.
use Rattle.certificate_facts.proofs.StoredRows.{read}
use Rattle.certificate_facts.proofs.load.Goals as goal

pub returns : goal.returns
returns c = read c.args.words.now c.args.i c.requires
