-- `cut_functions::functions` meets its contract. The invariant: the functions of the first i variables are stored, and the notes are below those of the next walk.
use Rattle.base.specs.{◌≡◌, ap, ◌∙◌, ℕ, arith, length-replicate, get_or-replicate}
use Rattle.cut_functions.specs.{filled}
use Rattle.cut_functions.proofs.FunctionFills.{pass_begin, pass_capacity, pass_reached, pass_step_lem}
use Rattle.cut_functions.proofs.functions.Goals as goal

pub loop-i-init : goal.loop-i-init
loop-i-init c =
    record { stored = pass_begin c.args.work.now c.args.m c.args.ordered c.requires; early = record { long = length-replicate {A = ℕ} 4096 0; before = λ u h. omega (arith, get_or-replicate {A = ℕ} 4096 u 0 0 (omega (arith, c.requires.ordered.capacity.small))) }; next = omega arith }

pub slot-v-requires : goal.slot-v-requires
slot-v-requires c =
    let a = c.args in
    (pass_capacity a.work.now a.m a.ordered c.requires c.loop-i.i (omega arith) c.loop-i.work c.loop-i.invariant.stored, omega (arith, c.requires.within, c.loop-i-test.true))

pub fill_node-base-requires : goal.fill_node-base-requires
fill_node-base-requires c =
    let a = c.args in (
      pass_reached a.work.now a.m a.ordered c.requires c.loop-i.i c.loop-i-test.true c.loop-i.work c.loop-i.invariant.stored c.slot-v.result c.slot-v.ensures,
      c.loop-i.invariant.early,
      omega (arith, c.loop-i.invariant.next, c.requires.within, c.requires.ordered.capacity.small, c.loop-i-test.true),
    )

pub loop-i-preserved : goal.loop-i-preserved
loop-i-preserved c =
    let a = c.args in record {
      stored = pass_step_lem a.work.now a.m a.ordered c.requires c.loop-i.i c.loop-i-test.true c.loop-i.work c.loop-i.invariant.stored c.slot-v.result c.slot-v.ensures c.fill_node-base.new.work
          c.fill_node-base.ensures.work_after;
      early = c.fill_node-base.ensures.early.0;
      next = omega (arith, c.loop-i.invariant.next, c.fill_node-base.ensures.early.1);
    }

pub returns : goal.returns
returns c =
    let a = c.args in
    let all : c.loop-i.i ≡ a.ordered = omega (arith, c.loop-i-test.false) in
    c.loop-i.invariant.stored ∙ ap (filled a.work.now a.m) all
