-- `genlib_call::write` meets its contract: the names line, then line by line.
use Rattle.base.specs.{refl, sym, ap, ◌∙◌, List, [], ◌++◌, append-nil, ℕ, ◌+◌, ◌≤◌, arith, length}
use Rattle.model.specs.{groups}
use Rattle.base_text.specs.{Wrote}
use Rattle.base_text.proofs.{Partly, begin, step, capacity, end, finish}
use Rattle.genlib_groups.specs.{lines_of, group_at}
use Rattle.genlib_call.specs.{line_of, lines_for, text_for}
use Rattle.genlib_call.proofs.GatePasses.{names_line, text-parts, groups_behind, lines_more, lines-here, lines_end}
use Rattle.genlib_call.proofs.write.Goals as goal

abbrev lines : List ℕ → List ℕ
lines s = lines_for (groups (lines_of s 0))

-- the names line is written, and the others fit
module _ (s o : List ℕ) (room : length (text_for s) ≤ length o) where
  fits : 0 + length (text_for s) ≤ length o
  fits = omega (arith, room)

  none : Partly o o 0 0 (text_for s) (names_line ++ lines s)
  none = begin o 0 (text-parts s)

  module _ {o1 : List ℕ} {to : ℕ} (e : Wrote o o1 0 to names_line) where
    names : Partly o o1 0 to (text_for s) (lines s)
    names = step fits none o1 to names_line (lines s) refl e

    others : to + length (lines s) ≤ length o1
    others = capacity fits names (lines s) [] (sym (append-nil (lines s)))

pub put_bytes-to-requires : goal.put_bytes-to-requires
put_bytes-to-requires c = let s = c.args.s.now in capacity (fits s _ c.requires.1) (none s c.args.out.now c.requires.1) names_line (lines s) refl

pub loop-at-init : goal.loop-at-init
loop-at-init c = (omega arith, begin _ _ refl)

pub write_gate-to-requires : goal.write_gate-to-requires
write_gate-to-requires c =
    let s = c.args.s.now in
    let l = c.loop-at in
    let h = c.loop-at-test.true in (
      h,
      c.requires.0,
      capacity (others s c.args.out.now c.requires.1 c.put_bytes-to.ensures) l.invariant.1 (line_of (group_at s l.at))
          (lines_for (groups_behind s l.at)) (lines-here s l.at h),
    )

pub loop-at-preserved : goal.loop-at-preserved
loop-at-preserved c =
    let s = c.args.s.now in
    let w = c.write_gate-to in
    let l = c.loop-at in
    let e = c.group_end-at.ensures in
    let rest = groups (lines_of s c.group_end-at.result) in (
      e.1,
      step (others s c.args.out.now c.requires.1 c.put_bytes-to.ensures) l.invariant.1 w.new.out w.result (line_of (group_at s l.at)) (lines_for rest)
          (ap lines_for e.2 ∙ lines_more (group_at s l.at) rest) w.ensures,
    )

pub returns : goal.returns
returns c =
    let s = c.args.s.now in
    let o = c.args.out.now in
    let r = c.requires.1 in
    let e = c.put_bytes-to.ensures in
    finish (fits s o r) (names s o r e) (end (others s o r e) c.loop-at.invariant.1 (lines_end s c.loop-at.at c.loop-at-test.false))
