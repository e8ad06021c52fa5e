-- `mapper::cut_graph` meets its contract: the cuts, the choice and the marking, each from what the one before left, or 16 or 17.
use Rattle.base.specs.{◌∙◌}
use Rattle.cover_choice.proofs.{choose_asked}
use Rattle.model.proofs.{handed_on}
use Rattle.mapper.specs.{all_of}
use Rattle.mapper.proofs.StageLaws.{answered_as, timed_asks, cuts-cut, cuts_go, cuts_stop, chosen-outputs, chosen_asks, cover-mapped, cover_timeable}
use Rattle.mapper.proofs.StageLaws.{cover_goes, cover-stops}
use Rattle.mapper.proofs.cut_graph.Goals as goal

pub enumerate-requires : goal.enumerate-requires
enumerate-requires c =
    timed_asks c.args.ranged c.args.work.now c.args.lib c.args.ids.now c.args.h c.requires.0.0 c.requires.0.1

pub choose-requires : goal.choose-requires
choose-requires c =
    let a = c.args in
    let cut = cuts-cut a.ranged _ _ _ _ _ c.requires.0.1 _ c.enumerate.ensures.value c.in_ok-enumerate.was _ c.enumerate.ensures.work_after in
    let k = choose_asked c.enumerate.new.work (all_of a.lib a.ids.now) a.h c.requires.0.0 cut.given.header cut.represented a.matches.now c.requires.1 cut.unchosen in
    (cut.given.library.read.in_bounds, k.0, k.1)

pub uncovered-requires : goal.uncovered-requires
uncovered-requires c =
    let a = c.args in
    let cut = cuts-cut a.ranged _ _ _ _ _ c.requires.0.1 _ c.enumerate.ensures.value c.in_ok-enumerate.was _ c.enumerate.ensures.work_after in
    chosen-outputs a.ranged c.enumerate.new.work a.lib a.ids.now a.h c.requires.0.0 cut c.choose.new.work c.choose.ensures

pub mark-requires : goal.mark-requires
mark-requires c =
    let cut = cuts-cut c.args.ranged _ _ _ _ _ c.requires.0.1 _ c.enumerate.ensures.value c.in_ok-enumerate.was _ c.enumerate.ensures.work_after in
    chosen_asks c.args.ranged _ _ _ _ _ cut _ c.choose.ensures

pub print-requires : goal.print-requires
print-requires c =
    let ranged = c.args.ranged in
    let cut = cuts-cut ranged _ _ _ _ _ c.requires.0.1 _ c.enumerate.ensures.value c.in_ok-enumerate.was _ c.enumerate.ensures.work_after in (
      c.requires.0.0,
      cover-mapped ranged _ _ _ _ _ cut _ c.choose.ensures _ c.uncovered.ensures c.in_ok-uncovered.was _ c.mark.ensures,
      cover_timeable ranged _ _ _ _ _ cut _ c.choose.ensures _ c.uncovered.ensures _ c.mark.ensures,
    )

pub returns : goal.returns
returns c =
    let y = c.choose.ensures in
    let ranged = c.args.ranged in
    let a = c.in_ok-uncovered.was in
    λ g t.
    let cut = cuts-cut ranged _ _ _ _ g t _ c.enumerate.ensures.value c.in_ok-enumerate.was _ c.enumerate.ensures.work_after in
    answered_as (cuts_go ranged _ _ _ _ g t _ c.enumerate.ensures.value c.in_ok-enumerate.was _ ∙ cover_goes ranged _ _ _ _ g cut _ y _ c.uncovered.ensures a _)
    (c.print.ensures g (cover-mapped ranged _ _ _ _ g cut _ y _ c.uncovered.ensures a _ c.mark.ensures) (cover_timeable ranged _ _ _ _ g cut _ y _ c.uncovered.ensures _ c.mark.ensures))

pub returns-in_err-uncovered : goal.returns-in_err-uncovered
returns-in_err-uncovered c =
    let ranged = c.args.ranged in
    λ g t.
    let cut = cuts-cut ranged _ _ _ _ g t _ c.enumerate.ensures.value c.in_ok-enumerate.was _ c.enumerate.ensures.work_after in
    rw (handed_on _ _ c.from_residual-in_err-uncovered.ensures.1)
    (answered_as (cuts_go ranged _ _ _ _ g t _ c.enumerate.ensures.value c.in_ok-enumerate.was _)
    (cover-stops ranged _ _ _ _ g cut _ c.choose.ensures _ c.uncovered.ensures _ _ c.in_err-uncovered.was _))

pub returns-in_err-enumerate : goal.returns-in_err-enumerate
returns-in_err-enumerate c = λ g t.
    rw (handed_on _ _ c.from_residual.ensures.1) (cuts_stop _ _ _ _ _ g t _ c.enumerate.ensures.value _ _ c.in_err-enumerate.was _)
