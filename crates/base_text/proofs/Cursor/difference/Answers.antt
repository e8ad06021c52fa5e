-- `base_text::Cursor::difference` meets its contract: each return knows the bytes that led there.
use Rattle.base.specs.{sym}
use Rattle.base_text.proofs.Differences.{differs_none, differs_one, differs_short, differs_two, differs_long}
use Rattle.base_text.proofs.Cursor.difference.Goals as goal
use Rattle.base_text.proofs.Cursor.difference.Goals.{then-s-at-2-via-then-s-at-2, then-s-at-2-via-else-s-at-2+then-s-at-ge128}

pub returns-then-s-at : goal.returns-then-s-at
returns-then-s-at c = sym (differs_none _ _ c.if-s-at.true)

pub returns-then-low-lt128 : goal.returns-then-low-lt128
returns-then-low-lt128 c = rw c.from.ensures (sym (differs_one _ _ c.if-s-at.false c.if-low-lt128.true))

pub returns-then-s-at-2 : goal.returns-then-s-at-2
returns-then-s-at-2 c =
    elim c.then-s-at-2.branch [
      | then-s-at-2-via-then-s-at-2 w ↦ sym (differs_short _ _ c.if-s-at.false c.if-low-lt128.false w.if-s-at-2.true)
      | then-s-at-2-via-else-s-at-2+then-s-at-ge128 w ↦ sym (differs_long _ _ c.if-s-at.false c.if-low-lt128.false w.if-s-at-2.false w.if-s-at-ge128.true)
    ]

pub returns : goal.returns
returns c = rw (c.from-2.ensures, c.from-3.ensures) (sym (differs_two _ _ c.if-s-at.false c.if-low-lt128.false c.if-s-at-2.false c.if-s-at-ge128.false))
