-- `check_outputs::evaluate` meets its contract: inside a block nothing changes; where one begins the words of variables and drivers are their
-- values, and the outputs differ where these do.
use Rattle.base.specs.{◌≡◌, sym, ◌∙◌, subst, arith, ℕ, ◌/◌, ◌<◌, rules}
use Rattle.base_words.specs.{ordered_count}
use Rattle.check_outputs.specs.{Slots, SlotsStep}
use Rattle.check_outputs.proofs.VariableWords.{fits, slots-ready, value_word, slots-step}
use Rattle.check_outputs.proofs.NetWords.{drivers-ready, net_word, drivers-step}
use Rattle.check_outputs.proofs.OutputWords.{output-small, output-word}
use Rattle.check_outputs.proofs.evaluate.Goals as goal

pub fill_slots-requires : goal.fill_slots-requires
fill_slots-requires c =
    let a = c.args in let p = c.requires.0.0 in
    let ready = slots-ready a.work.now a.h a.nets.now a.n a.refs.now a.order.now p.0 p.1 p.2 in
    (subst (Slots a.work.now a.h.size a.h.inputs) (sym c.ordered_count-ordered.ensures) ready, search rules)

pub fill_drivers-requires : goal.fill_drivers-requires
fill_drivers-requires c =
    let a = c.args in let p = c.requires.0.0 in
    (p.2.bounded, drivers-ready a.work.now a.h a.nets.now a.n a.refs.now a.order.now p.0 p.1 p.2, search rules)

pub overflow_sub-first : goal.overflow_sub-first
overflow_sub-first c = let p = c.requires.0.0 in omega (arith, p.2.capacity, p.2.graph_loaded.outs)

pub fill_differences-requires : goal.fill_differences-requires
fill_differences-requires c =
    let a = c.args in let p = c.requires.0.0 in
    let f = fits a.work.now a.h a.nets.now a.n a.refs.now a.order.now p.0 p.1 p.2 in (
      f.capacity,
      f.outs,
      omega (arith, p.2.capacity, p.2.graph_loaded.outs, p.2.bounded),
      output-small a.work.now a.h a.nets.now a.n a.refs.now a.order.now p.0 p.1 p.2,
      c.requires.0.1,
    )

pub returns-then-s-ne0 : goal.returns-then-s-ne0
returns-then-s-ne0 c = (c.requires.0.1, λ g ds q. c.requires.1 g ds q c.if-s-ne0.true)

pub returns : goal.returns
returns c = (
  c.fill_differences.ensures.0,
  (λ g ds q k l.
      let a = c.args in let n : c.ordered_count-ordered.result ≡ ordered_count a.h = c.ordered_count-ordered.ensures in
      let b : ℕ = a.s / 64 in
      let w = a.work.now in let words : ℕ → ℕ = value_word w a.h a.nets.now a.n a.refs.now a.order.now g ds q b in
      c.fill_differences.ensures.1 k (omega (arith, q.graph_loaded.outs))
      ∙ output-word w a.h a.nets.now a.n a.refs.now a.order.now g ds q b c.fill_slots.new.variables c.fill_drivers.new.drivers
      (λ i s.
      c.fill_slots.ensures words
      (subst (λ (x : ℕ). SlotsStep w a.h.size a.h.inputs x b words) (sym n) (slots-step w a.h a.nets.now a.n a.refs.now a.order.now g ds q b))
      i (subst (λ (x : ℕ). i < x) (sym n) s))
      (c.fill_drivers.ensures (net_word w a.h a.nets.now a.n a.refs.now a.order.now g ds q b)
      (drivers-step w a.h a.nets.now a.n a.refs.now a.order.now g ds q b))
      k l),
)
