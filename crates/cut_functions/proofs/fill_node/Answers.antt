-- `cut_functions::fill_node` meets its contract.
use Rattle.base.specs.{◌≡◌, sym, ◌∙◌, subst, List, ℕ, ◌<◌, arith}
use Rattle.base_words.specs.{count_at}
use Rattle.cut_functions.specs.{Reached}
use Rattle.cut_functions.proofs.FunctionFills.{node_begin, node-same, node-reached, node-step, node_end}
use Rattle.cut_functions.proofs.fill_node.Goals as goal

pub loop-k-init : goal.loop-k-init
loop-k-init c =
    let a = c.args in
    record { stored = node_begin a.work.now a.m a.v c.requires.0; early = c.requires.1; next = omega arith }

pub fill_one-requires : goal.fill_one-requires
fill_one-requires c =
    let a = c.args in
    let w : List ℕ = a.work.now in
    let r = c.requires.0 in
    let inv = c.loop-k.invariant in
    let within : c.loop-k.k < count_at w a.m a.v = omega (arith, c.count-n.ensures, c.loop-k-test.true) in
    let few = (r.sound a.v r.inside).few in
    let same = node-same w a.m a.v r c.loop-k.k (omega arith) c.loop-k.work inv.stored in (
      subst (λ (q : List ℕ). Reached q a.m a.v) (sym inv.stored) (node-reached w a.m a.v r c.loop-k.k (omega arith)),
      inv.early,
      omega (arith, inv.next, c.requires.2, few),
      omega (arith, same.0),
      c.kind-kind.ensures ∙ sym same.1,
      c.left-l.ensures ∙ sym same.2,
      c.right-r.ensures ∙ sym same.3,
    )

pub overflow_add-next : goal.overflow_add-next
overflow_add-next c =
    let few = (c.requires.0.sound c.args.v c.requires.0.inside).few in
    omega (arith, c.loop-k.invariant.next, c.count-n.ensures, c.requires.2, few)

pub loop-k-preserved : goal.loop-k-preserved
loop-k-preserved c =
    let a = c.args in
    let inv = c.loop-k.invariant in
    let within : c.loop-k.k < count_at a.work.now a.m a.v = omega (arith, c.count-n.ensures, c.loop-k-test.true) in record {
      stored = node-step a.work.now a.m a.v c.requires.0 c.loop-k.k within c.loop-k.work inv.stored c.fill_one.new.work c.fill_one.ensures.work_after;
      early = c.fill_one.ensures.early;
      next = omega (arith, inv.next);
    }

pub returns : goal.returns
returns c =
    let a = c.args in
    let inv = c.loop-k.invariant in
    let all : c.loop-k.k ≡ count_at a.work.now a.m a.v = omega (arith, c.count-n.ensures, c.loop-k-test.false) in
    let few = (c.requires.0.sound a.v c.requires.0.inside).few in
    record { work_after = inv.stored ∙ node_end a.work.now a.m a.v c.requires.0 c.loop-k.k all; early = (inv.early, omega (arith, inv.next, few)) }
