-- `cut_lists::lists` meets its contract. The invariant: the first i variables are listed, and the words hold exactly their lists.
use Rattle.base.specs.{◌≡◌, refl, sym, ap, ◌∙◌, List, ℕ, arith}
use Rattle.cut_lists.specs.{listing, stored}
use Rattle.cut_lists.proofs.CutListing.{represented_begin, represented_operands, step-inside, step-on, step_off}
use Rattle.cut_lists.proofs.lists.Goals as goal

pub loop-i-init : goal.loop-i-init
unfolding listing
loop-i-init c = record { all = refl; listed = represented_begin _ _ _ c.requires }

pub slot-v-requires : goal.slot-v-requires
slot-v-requires c =
    ((represented_operands _ _ _ c.requires _ _ c.loop-i.invariant.listed).capacity, omega (arith, c.requires.ordered))

pub list_node-requires : goal.list_node-requires
list_node-requires c = (
  represented_operands _ _ _ c.requires _ _ c.loop-i.invariant.listed,
  step-inside _ _ _ c.requires c.loop-i.i c.loop-i-test.true c.loop-i.invariant.all _ c.loop-i.invariant.listed _ c.slot-v.ensures _ refl,
)

pub returns-then-not-list_node : goal.returns-then-not-list_node
returns-then-not-list_node c =
    let off = step_off _ _ _ c.requires c.loop-i.i c.loop-i-test.true c.loop-i.invariant.all _ c.loop-i.invariant.listed _ c.slot-v.ensures _ c.list_node.ensures.work_after
    (sym c.list_node.ensures.value ∙ c.if-not-list_node.true) in
    record { value = off.0; work_after = off.1 }

pub loop-i-preserved : goal.loop-i-preserved
loop-i-preserved c =
    let step =
    step-on _ _ _ c.requires c.loop-i.i c.loop-i-test.true c.loop-i.invariant.all _ c.loop-i.invariant.listed _ c.slot-v.ensures _ c.list_node.ensures.work_after
    (sym c.list_node.ensures.value ∙ c.if-not-list_node.false) in
    record { all = step.0; listed = step.1 }

pub returns : goal.returns
returns c =
    let w : List ℕ = c.args.work.now in
    let m : ℕ = c.args.m in
    let e : c.loop-i.i ≡ c.args.ordered = omega arith in record { value = sym c.loop-i.invariant.all ∙ ap (λ (i : ℕ). (listing w m i).answer) e; work_after = c.loop-i.invariant.listed.is ∙ ap (λ (i : ℕ). stored w m (listing w m i).known) e }
