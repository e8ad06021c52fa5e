-- `base_text::first_is` meets its contract: a line that has its end, and the part of the text that is its contents.
use Rattle.base.specs.{lt-ltb, le-ltb, sym, length-take-le}
use Rattle.base_text.specs.{first_is}
use Rattle.base_text.proofs.first_is.Goals as goal

pub slice_bounds-same_bytes-end : goal.slice_bounds-same_bytes-end
slice_bounds-same_bytes-end c =
    sym (length-take-le c.args.first.stop c.args.s.now c.requires)

pub returns-then-stop-first : goal.returns-then-stop-first
unfolding first_is
returns-then-stop-first c = rw (lt-ltb _ _ c.if-stop-first.true) c.same_bytes.ensures

pub returns-else-stop-first : goal.returns-else-stop-first
unfolding first_is
returns-else-stop-first c = rw (le-ltb _ _ c.if-stop-first.false)
