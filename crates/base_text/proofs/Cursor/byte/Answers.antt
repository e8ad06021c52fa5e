-- `base_text::Cursor::byte` meets its contract: each return knows the tests that `byte_at` picks by.
use Rattle.base.specs.{lt-ltb, le-ltb, eq-eqb, ne_eqb}
use Rattle.base_text.specs.{byte_at}
use Rattle.base_text.proofs.Cursor.byte.Goals as goal
use Rattle.base_text.proofs.Cursor.byte.Goals.{then-s-at-via-then-s-at, then-s-at-via-else-s-at+then-s-at-2}

pub returns-then-s-at : goal.returns-then-s-at
unfolding byte_at
returns-then-s-at c =
    elim c.then-s-at.branch [
      | then-s-at-via-then-s-at w ↦ rw (le-ltb _ _ w.if-s-at.true)
      | then-s-at-via-else-s-at+then-s-at-2 w ↦ rw (lt-ltb _ _ w.if-s-at.false, ne_eqb _ _ w.if-s-at-2.true)
    ]

pub returns : goal.returns
unfolding byte_at
returns c = rw (lt-ltb _ _ c.if-s-at.false, eq-eqb _ _ c.if-s-at-2.false)
