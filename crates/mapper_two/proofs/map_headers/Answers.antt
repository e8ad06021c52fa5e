-- `mapper_two::map_headers` meets its contract: the first channel's header, the second's 1 and header, then 10 and both channels.
use Rattle.base.specs.{arith, refl, sym, ◌∙◌}
use Rattle.graph_reader.proofs.{header_read_lem}
use Rattle.model.proofs.{handed_on}
use Rattle.mapper.proofs.{header-fault}
use Rattle.mapper_two.proofs.ChannelMemory.{pair_as, pair-early, first_goes, first_stops, second-long, second_goes, second-stops}
use Rattle.mapper_two.proofs.map_headers.Goals as goal
use Rattle.mapper_two.proofs.map_headers.Goals.{then-c2-gt65536-via-then-c2-gt65536, then-c2-gt65536-via-else-c2-gt65536+then-c2-gt65536-2}

pub returns-then-c2-gt65536 : goal.returns-then-c2-gt65536
returns-then-c2-gt65536 c =
    pair-early _ _ _ _ _ _ 1 0 (first_goes _ _ _ _ (header_read_lem _ _ (sym c.header.ensures.answer ∙ c.in_ok-h1.was)) ∙ second-long _ _ _
    (λ x y. elim c.then-c2-gt65536.branch [
      | then-c2-gt65536-via-then-c2-gt65536 w ↦ omega arith
      | then-c2-gt65536-via-else-c2-gt65536+then-c2-gt65536-2 w ↦ omega arith
    ])) _ _ _ _ refl

pub map_pair-requires : goal.map_pair-requires
map_pair-requires c = (
  c.requires.0,
  header_read_lem _ _ (sym c.header.ensures.answer ∙ c.in_ok-h1.was),
  header_read_lem _ _
      (sym c.header-2.ensures.answer ∙ c.in_ok-h2.was),
  c.requires.1,
)

pub returns : goal.returns
returns c =
    pair_as (first_goes _ _ _ _ (header_read_lem _ _ (sym c.header.ensures.answer ∙ c.in_ok-h1.was))
    ∙ second_goes _ _ _ (omega arith) (omega arith) _ (header_read_lem _ _ (sym c.header-2.ensures.answer ∙ c.in_ok-h2.was))) c.map_pair.ensures

pub returns-in_err-h2 : goal.returns-in_err-h2
returns-in_err-h2 c =
    rw (handed_on _ _ c.from_residual-in_err-h2.ensures.1)
    (pair-early _ _ _ _ _ _ _ _ (first_goes _ _ _ _ (header_read_lem _ _ (sym c.header.ensures.answer ∙ c.in_ok-h1.was))
    ∙ second-stops _ _ _ (omega arith) (omega arith) _ _ (header-fault _ _ _ (sym c.header-2.ensures.answer ∙ c.in_err-h2.was))) _ _ _ _
    refl)

pub returns-in_err-h1 : goal.returns-in_err-h1
returns-in_err-h1 c =
    rw (handed_on _ _ c.from_residual.ensures.1)
    (pair-early _ _ _ _ _ _ _ _ (first_stops _ _ _ _ _ (header-fault _ _ _ (sym c.header.ensures.answer ∙ c.in_err-h1.was))) _ _ _ _ refl)
