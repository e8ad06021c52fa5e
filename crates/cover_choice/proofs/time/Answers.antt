-- `cover_choice::time` meets its contract: by whether the phase has a source.
use Rattle.base.specs.{sym, ap, ◌∙◌, Bool, cond}
use Rattle.cells_matching.specs.{infinite, time_of}
use Rattle.cover_choice.proofs.time.Goals as goal

pub returns-then-is_absent : goal.returns-then-is_absent
unfolding time_of
returns-then-is_absent c = let p = c.args.p in sym (ap (λ (b : Bool). cond b infinite p.arrival) (sym c.is_absent.ensures ∙ c.if-is_absent.true))

pub returns-else-is_absent : goal.returns-else-is_absent
unfolding time_of
returns-else-is_absent c = let p = c.args.p in sym (ap (λ (b : Bool). cond b infinite p.arrival) (sym c.is_absent.ensures ∙ c.if-is_absent.false))
