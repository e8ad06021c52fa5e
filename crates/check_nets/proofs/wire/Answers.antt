-- `check_nets::wire` meets its contract.
use Rattle.base.specs.{ℕ, arith, refl, ap, ◌∙◌, List, replicate}
use Rattle.check_order.specs.{Made, sort_of}
use Rattle.check_order.proofs.{sorted_none}
use Rattle.check_nets.specs.ValidatedNets.{Validated}
use Rattle.check_nets.specs.{left_by}
use Rattle.check_nets.proofs.DrivenNets.{drivers_are}
use Rattle.check_nets.proofs.NetValidation.{line-inside, refused, pinned_all, accepted, cycle-inside, cyclic}
use Rattle.check_nets.proofs.wire.Goals as goal

pub refer-requires : goal.refer-requires
refer-requires c =
    let a = c.args in
    let g = c.requires.0 in
    (drivers_are g.0 g.1 a.nets.now a.inputs.now a.n a.count g.2, c.requires.1)

pub bounds-nets-f : goal.bounds-nets-f
bounds-nets-f c =
    let a = c.args in
    let g = c.requires.0 in
    line-inside g.0 g.1 a.nets.now a.inputs.now a.n a.count g.2 c.in-Err.f c.in-Err.ensures.0

pub returns-in-Err : goal.returns-in-Err
unfolding Validated left_by
returns-in-Err c =
    let a = c.args in let e = c.in-Err.ensures in
    (λ names ds st. (refused names ds a.nets.now a.inputs.now a.n a.count st c.in-Err.f a.refs.now c.refer.new.refs e.1 e.0, e.1.none e.0, refl), (e.1.none e.0, refl))

pub topological_sort-requires : goal.topological_sort-requires
topological_sort-requires c =
    let a = c.args in
    let g = c.requires.0 in
    let p = pinned_all g.0 g.1 a.nets.now a.inputs.now a.n a.count g.2 a.n a.refs.now c.refer.new.refs c.in_default.ensures (omega arith) in
    (p, sorted_none c.refer.new.refs a.n p 10923 a.order.now refl c.requires.2)

pub returns-then-topological_sort-n : goal.returns-then-topological_sort-n
unfolding left_by
returns-then-topological_sort-n c =
    let a = c.args in (
      λ names ds st. accepted names ds a.nets.now a.inputs.now a.n a.count st a.n a.refs.now c.refer.new.refs c.in_default.ensures (omega arith) c.topological_sort.result _ _ c.topological_sort.ensures.0 c.if-topological_sort-n.true,
      (
        c.in_default.ensures.left,
        ap (λ (x : Made). x.order) c.topological_sort.ensures.1 ∙ ap (λ (w : List ℕ). (sort_of w a.n (replicate 10923 0) a.order.now).order) c.in_default.ensures.left,
      ),
    )

pub first_on_cycle-c-requires : goal.first_on_cycle-c-requires
first_on_cycle-c-requires c =
    let a = c.args in
    let g = c.requires.0 in
    pinned_all g.0 g.1 a.nets.now a.inputs.now a.n a.count g.2 a.n a.refs.now c.refer.new.refs c.in_default.ensures (omega arith)

pub bounds-nets-c : goal.bounds-nets-c
bounds-nets-c c =
    let a = c.args in
    let g = c.requires.0 in
    line-inside g.0 g.1 a.nets.now a.inputs.now a.n a.count g.2 c.first_on_cycle-c.result
    (cycle-inside g.0 g.1 a.nets.now a.inputs.now a.n a.count g.2 a.n a.refs.now c.refer.new.refs c.in_default.ensures (omega arith) c.topological_sort.result _ _ c.topological_sort.ensures.0 c.if-topological_sort-n.false
    c.first_on_cycle-c.result c.first_on_cycle-c.ensures)

pub returns : goal.returns
unfolding Validated left_by
returns c =
    let a = c.args in (
      λ names ds st. (
        cyclic names ds a.nets.now a.inputs.now a.n a.count st a.n a.refs.now c.refer.new.refs c.in_default.ensures (omega arith) c.topological_sort.result _ _ c.topological_sort.ensures.0 c.if-topological_sort-n.false
            c.first_on_cycle-c.result c.first_on_cycle-c.ensures,
        refl,
        refl,
      ),
      (refl, refl),
    )
