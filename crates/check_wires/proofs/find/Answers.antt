-- `check_wires::find` meets its contract. The invariant: a driver of this number is on what is left of the bucket. The measure is how far the bucket can lead.
use Rattle.base.specs.{◌-◌, arith, ◌≡◌, sym, subst}
use Rattle.check_wires.specs.{On}
use Rattle.check_wires.proofs.HashBuckets.{on_none, on-next}
use Rattle.check_wires.proofs.find.Goals as goal

pub loop-h-init : goal.loop-h-init
loop-h-init c = (omega arith, λ k e o. o)

pub returns-then-nets-k : goal.returns-then-nets-k
returns-then-nets-k c =
    (omega (arith, c.loop-h.invariant.0), c.if-nets-k.true)

pub loop-h-smaller : goal.loop-h-smaller
loop-h-smaller c =
    omega (arith, c.next-h.ensures, c.requires.0 (c.loop-h.h - 1))

pub loop-h-preserved : goal.loop-h-preserved
loop-h-preserved c =
    let a = c.args in (
      omega (arith, c.next-h.ensures, c.requires.0 (c.loop-h.h - 1)),
      λ k e o. subst (On a.links.now k) (sym c.next-h.ensures) (on-next a.nets.now a.links.now c.loop-h.h a.x c.if-nets-k.false k e (c.loop-h.invariant.1 k e o)),
    )

pub returns : goal.returns
returns c =
    let a = c.args in
    λ k o e. on_none a.links.now k (subst (On a.links.now k) (let q : c.loop-h.h ≡ 0 = omega arith in q) (c.loop-h.invariant.1 k e o))
