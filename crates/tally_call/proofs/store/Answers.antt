-- `tally_call::store` meets its contract: column by column.
use Rattle.base.specs.{◌∙◌, length-set}
use Rattle.tally_call.proofs.TallyColumns.{stored_is}
use Rattle.tally_call.proofs.store.Goals as goal

pub shape_of-out : goal.shape_of-out
shape_of-out c =
    length-set c.put_column-3.new.out 96 c.args.t.netlists ∙ c.put_column-3.auto.out ∙ c.put_column-2.auto.out ∙ c.put_column.auto.out

pub returns : goal.returns
returns c =
    let p = c.put_column in
    let q = c.put_column-2 in let r = c.put_column-3 in
    stored_is c.args.out.now c.args.t c.requires p.ensures.1 q.ensures.1 r.ensures.1 p.new.out q.new.out r.new.out p.ensures.0 q.ensures.0 r.ensures.0
