-- `base_text::put` meets its contract: byte by byte, what stands before and behind stays.
use Rattle.base.specs.{refl, sym, ap, ◌∙◌, List, ℕ, ◌+◌, arith, get_or, set, length-set}
use Rattle.base_words.proofs.{put-none}
use Rattle.base_words.proofs.WordStores.{put_taken}
use Rattle.base_text.proofs.put.Goals as goal

pub loop-i-init : goal.loop-i-init
loop-i-init c = (refl, sym (put-none c.args.out.now c.args.at))

pub loop-i-preserved : goal.loop-i-preserved
loop-i-preserved c =
    let w : List ℕ = c.args.out.now in
    let from : List ℕ = c.args.from.now in
    let at : ℕ = c.args.at in (
      length-set c.loop-i.out (at + c.loop-i.i) (get_or from c.loop-i.i 0) ∙ c.loop-i.invariant.0,
      ap (λ (x : List ℕ). set x (at + c.loop-i.i) (get_or from c.loop-i.i 0)) c.loop-i.invariant.1
          ∙ put_taken w at from c.loop-i.i (omega arith) c.loop-i-test.true,
    )
