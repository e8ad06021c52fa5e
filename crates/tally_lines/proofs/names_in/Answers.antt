-- `tally_lines::names_in` meets its contract: a field ends at each space, and the last at the line's end.
use Rattle.base.specs.{◌≡◌, arith, ℕ, eqb, length}
use Rattle.std.specs.List.{filter}
use Rattle.std.proofs.Common.{rules, tests}
use Rattle.std.proofs.lemmas.Iterator.{YieldsList-from_slice}
use Rattle.std.proofs.lemmas.Iterator.Consumers.{count_from_yields_List, YieldsList-from_filter}
use Rattle.tally_lines.proofs.FieldLaws.{spaces-count}
use Rattle.tally_lines.proofs.names_in.Goals as goal

pub returns : goal.returns
returns c =
    let h : c.count.result ≡ length (filter (λ (b : ℕ). eqb b 32) c.args.w.now) =
    count_from_yields_List _ c.count.result c.count.ensures.ran (YieldsList-from_filter _ (λ (b : ℕ). eqb b 32) (YieldsList-from_slice c.args.w.now cc) c.filter.ensures.closure (λ x b q k. search (rules, tests))) in
    omega (arith, h, spaces-count c.args.w.now)
