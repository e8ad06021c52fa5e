-- `check_reader::wire` meets its contract.
use Rattle.base.specs.{sym, ◌∙◌, ap, ℕ, [], ◌∷◌}
use Rattle.check_names.specs.{code}
use Rattle.check_reader.proofs.OutputNames.{out_is}
use Rattle.check_reader.proofs.wire.Goals as goal

pub returns : goal.returns
returns c = ap (λ (x : ℕ). record { table = 2; count = 1; codes = c.args.net ∷ 0 ∷ 0 ∷ 0 ∷ []; net = x }) (c.label_code.ensures ∙ ap code (sym (out_is c.args.k)))
