-- `certificate_facts::find` meets its contract: a row of the first ones is there, and no other is.
use Rattle.base.specs.{Some, ◌∙◌, sym, ap, arith}
use Rattle.certificate_model.specs.declared.Row.{Row}
use Rattle.certificate_facts.proofs.StoredRows.{find_at, find_none}
use Rattle.certificate_facts.proofs.find.Goals as goal

pub returns-then-i-count : goal.returns-then-i-count
returns-then-i-count c =
    ap (λ (x : Row). Some x) c.load.ensures ∙ sym (find_at c.args.words.now c.args.count c.args.i c.requires (omega arith))

pub returns-else-i-count : goal.returns-else-i-count
returns-else-i-count c = sym (find_none c.args.words.now c.args.count c.args.i c.requires (omega arith))
