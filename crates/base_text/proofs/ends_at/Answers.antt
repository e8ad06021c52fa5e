-- `base_text::ends_at` meets its contract: each return knows the bytes that stand there.
use Rattle.base.specs.{arith, sym}
use Rattle.base_text.proofs.TextWords.{end_out, end-ten, end_other, end-last, end-alone, end-both}
use Rattle.base_text.proofs.ends_at.Goals as goal
use Rattle.base_text.proofs.ends_at.Goals.{then-b-ne13-via-then-b-ne13, then-b-ne13-via-else-b-ne13+then-s-at-lt2}

pub returns-then-s-at : goal.returns-then-s-at
returns-then-s-at c = sym (end_out _ _ c.if-s-at.true)

pub returns-then-b-eq10 : goal.returns-then-b-eq10
returns-then-b-eq10 c = sym (end-ten _ _ c.if-s-at.false c.if-b-eq10.true)

pub returns-then-b-ne13 : goal.returns-then-b-ne13
returns-then-b-ne13 c =
    elim c.then-b-ne13.branch [
      | then-b-ne13-via-then-b-ne13 w ↦ sym (end_other _ _ c.if-s-at.false c.if-b-eq10.false w.if-b-ne13.true)
      | then-b-ne13-via-else-b-ne13+then-s-at-lt2 w ↦ sym (end-last c.args.s.now c.args.at c.if-s-at.false (omega arith) c.if-b-eq10.false)
    ]

pub returns-then-s-at-eq10 : goal.returns-then-s-at-eq10
returns-then-s-at-eq10 c = sym (end-both c.args.s.now c.args.at (omega arith) c.if-b-ne13.false c.if-s-at-eq10.true)

pub returns-else-s-at-eq10 : goal.returns-else-s-at-eq10
returns-else-s-at-eq10 c = sym (end-alone c.args.s.now c.args.at (omega arith) c.if-b-eq10.false c.if-s-at-eq10.false)
