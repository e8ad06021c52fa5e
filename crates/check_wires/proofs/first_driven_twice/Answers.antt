-- `check_wires::first_driven_twice` meets its contract. The invariant: the nets of the drivers passed are driven once, and they are on their buckets.
use Rattle.base.specs.{ℕ, ◌+◌, ◌%◌, arith, ◌≡◌, refl, sym, subst, List, set, below_more}
use Rattle.check_wires.specs.{own_at, head_of, Chained}
use Rattle.check_wires.proofs.HashBuckets.{chained-next}
use Rattle.check_wires.proofs.PinReferences.{driven}
use Rattle.check_wires.proofs.first_driven_twice.Goals as goal

pub loop-i-init : goal.loop-i-init
loop-i-init c = (λ k h. absurd (omega arith), c.requires.1)

pub overflow_mul-x : goal.overflow_mul-x
overflow_mul-x c = omega (arith, c.requires.0.few)

pub overflow_add-x : goal.overflow_add-x
overflow_add-x c = omega (arith, c.requires.0.few)

pub offset_bounds-nets-i : goal.offset_bounds-nets-i
offset_bounds-nets-i c = omega (arith, c.requires.0.few)

pub bounds-nets-i : goal.bounds-nets-i
bounds-nets-i c = omega (arith, c.requires.0.long)

pub look-requires : goal.look-requires
look-requires c =
    (c.requires.0.inputs, c.loop-i.invariant.1, omega (arith, c.requires.0.long), omega (arith, c.requires.0.few))

pub overflow_add-i : goal.overflow_add-i
overflow_add-i c = omega (arith, c.requires.0.few)

pub returns-then-look-i : goal.returns-then-look-i
returns-then-look-i c =
    let a = c.args in
    let x = own_at a.nets.now c.loop-i.i in (
      (
        c.loop-i-test.true,
        record {
          most = omega arith;
          fresh = c.loop-i.invariant.0;
          twice_driven = λ h. driven a.nets.now a.inputs.now a.count c.loop-i.i x c.look.result c.look.ensures c.if-look-i.true;
        },
      ),
      λ e. absurd (let z : ◌≡◌ {A = ℕ} 0 1 = cc in omega arith),
    )

pub enter-requires : goal.enter-requires
enter-requires c =
    (omega (arith, c.requires.0.few), omega (arith, c.requires.0.long))

pub loop-i-preserved : goal.loop-i-preserved
loop-i-preserved c =
    let a = c.args in
    let b = own_at a.nets.now c.loop-i.i % 16381 in
    let next = chained-next a.nets.now c.loop-i.heads c.loop-i.links c.loop-i.i b (head_of c.loop-i.heads (own_at a.nets.now c.loop-i.i)) (omega (arith, c.requires.0.few)) refl refl c.loop-i.invariant.1 in (
      below_more _ _ c.loop-i.invariant.0 (c.look.ensures.none c.if-look-i.false),
      subst (λ (w : List ℕ). Chained a.nets.now c.enter.new.heads w (c.loop-i.i + 1)) (sym c.enter.ensures.0)
          (subst (λ (w : List ℕ). Chained a.nets.now w (set c.loop-i.links c.loop-i.i (head_of c.loop-i.heads (own_at a.nets.now c.loop-i.i))) (c.loop-i.i + 1)) (sym c.enter.ensures.1) next),
    )

pub returns : goal.returns
returns c =
    let a = c.args in
    let all : c.loop-i.i ≡ a.n = omega arith in (
      record { most = omega arith; fresh = λ k h. c.loop-i.invariant.0 k (omega (arith, all)); twice_driven = λ h. absurd (omega arith) },
      λ e. subst (Chained a.nets.now c.loop-i.heads c.loop-i.links) all c.loop-i.invariant.1,
    )
