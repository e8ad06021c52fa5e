-- `certificate_facts::push` meets its contract: the row behind the first ones is the one that is stored.
use Rattle.base.specs.{◌∙◌, ap, List, ℕ, ◌+◌, suc, arith, set, take, add-one, take-suc-set}
use Rattle.certificate_facts.specs.{rows_in}
use Rattle.certificate_facts.proofs.StoredRows.{long}
use Rattle.certificate_facts.proofs.push.Goals as goal

pub returns : goal.returns
returns c =
    let n : ℕ = c.args.count in
    let ws : List ℕ = c.args.words.now in (
      ap (take (n + 1)) c.store.ensures.0 ∙ ap (λ (k : ℕ). take k (set (rows_in ws) n c.args.x)) (add-one n)
          ∙ take-suc-set (rows_in ws) n c.args.x (long ws (suc n) (omega (arith, c.requires))),
      c.store.ensures.1,
    )
