-- `genlib_call::measure` meets its contract, group by group.
use Rattle.base.specs.{◌≡◌, sym, ap, ◌∙◌, List, ℕ, ◌+◌, arith}
use Rattle.model.specs.{holds, fault, Group, groups, read_group, read_groups}
use Rattle.genlib_groups.specs.{lines_of, group_at}
use Rattle.genlib_celltext.specs.{gate_in}
use Rattle.genlib_call.specs.{measured}
use Rattle.model.proofs.{handed_on}
use Rattle.genlib_call.proofs.GatePasses.{read-start, groups_behind, groups-here, measure_more, measure_stop, measure_end}
use Rattle.genlib_call.proofs.measure.Goals as goal

pub loop-at-init : goal.loop-at-init
loop-at-init c = (omega arith, omega arith, ap (measured 33) (read-start c.args.s.now))

pub gate_len-len-requires : goal.gate_len-len-requires
gate_len-len-requires c = (c.in_ok-g.ensures.0.0, omega (arith, c.in_ok-g.ensures.0.1))

pub loop-at-preserved : goal.loop-at-preserved
loop-at-preserved c =
    let s = c.args.s.now in
    let l = c.loop-at in
    let g = c.in_ok-g.g in
    let e = c.group_end-at.ensures in
    let held : read_group (group_at s l.at) ≡ holds (gate_in s g) = sym c.in_ok-g.ensures.1 in
    let rest = groups (lines_of s c.group_end-at.result) in (
      e.1,
      omega (arith, e.0, c.gate_len-len.ensures.1, l.invariant.1),
      l.invariant.2
          ∙ ap (λ (gs : List Group). measured l.len (read_groups gs)) e.2
          ∙ measure_more l.len (group_at s l.at) rest (gate_in s g) held
          ∙ ap (λ (n : ℕ). measured (l.len + n) (read_groups rest)) (sym (c.gate_len-len.ensures.0 s c.in_ok-g.ensures.0.1)),
    )

pub returns-in_err-g : goal.returns-in_err-g
returns-in_err-g c =
    let s = c.args.s.now in
    let l = c.loop-at in
    let r = c.in_err-g.field-0.0 in
    let stop : read_group (group_at s l.at) ≡ fault r.number r.place = sym c.in_err-g.ensures.1 in
    handed_on _ r c.from_residual.ensures.1
    ∙ sym (l.invariant.2 ∙ ap (λ (gs : List Group). measured l.len (read_groups gs)) (groups-here s l.at c.loop-at-test.true)
    ∙ measure_stop l.len (group_at s l.at) (groups_behind s l.at) _ _ stop)

pub returns : goal.returns
returns c =
    let l = c.loop-at in
    sym (l.invariant.2 ∙ measure_end c.args.s.now l.at l.len c.loop-at-test.false)
