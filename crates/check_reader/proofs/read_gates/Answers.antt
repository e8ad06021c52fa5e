-- `check_reader::read_gates` meets its contract. The invariant: the drivers of the lines so far stand first in the array, and the lines from here on are expected; each line has six bytes at least. The measure is what is
-- left of the text.
use Rattle.base.specs.{◌≡◌, refl, sym, ◌∙◌, ap, subst, List, [], ℕ, ◌+◌, ◌-◌, ◌*◌, ◌≤◌, arith, length, get_or}
use Rattle.base.specs.{true, None, Some}
use Rattle.model.specs.{same, text, fields, cells_of, is_gate}
use Rattle.base_words.specs.{put_at}
use Rattle.base_words.proofs.{length-put}
use Rattle.base_text.specs.{line_at}
use Rattle.check_names.proofs.{gate-long}
use Rattle.check_reader.specs.{gate_words}
use Rattle.check_reader.proofs.StoredDrivers.{stop_from, stop_fits, stop_next, line-bytes, line-next, line-long}
use Rattle.check_reader.proofs.GateGathering.{gate-eight, Sofar, so_start, so_end, so_names, so_kept, so_broken, so_step, drives-none}
use Rattle.check_reader.proofs.GateGathering.{drives-some}
use Rattle.std.proofs.lemmas.Result.{err_from_is_err_and}
use Rattle.check_reader.proofs.read_gates.Goals as goal

pub loop-at-init : goal.loop-at-init
loop-at-init c = let a = c.args in (omega arith, refl, so_start a.s.now a.lib a.from a.nets.now)

pub slice_bounds-is_gate-count : goal.slice_bounds-is_gate-count
slice_bounds-is_gate-count c = let a = c.args in stop_from a.s.now c.loop-at.at c.line-line.result c.line-line.ensures

pub slice_bounds-is_gate-start : goal.slice_bounds-is_gate-start
slice_bounds-is_gate-start c = let a = c.args in omega (arith, stop_from a.s.now c.loop-at.at c.line-line.result c.line-line.ensures)

pub slice_bounds-is_gate-end : goal.slice_bounds-is_gate-end
slice_bounds-is_gate-end c = let a = c.args in omega (arith, stop_fits a.s.now c.loop-at.at c.line-line.result c.line-line.ensures (omega (arith, c.loop-at-test.true)))

pub returns-then-not-is_gate : goal.returns-then-not-is_gate
unfolding is_gate
returns-then-not-is_gate c =
    let a = c.args in
    so_names a.s.now a.lib a.from c.loop-at.at c.loop-at.count a.nets.now c.loop-at.nets c.loop-at.invariant.2 c.loop-at.invariant.0 c.loop-at-test.true
    (sym (ap (λ (w : List ℕ). same (get_or (fields w) 0 []) (text ".gate")) (line-bytes a.s.now c.loop-at.at c.line-line.result c.line-line.ensures)) ∙ sym c.is_gate.ensures ∙ c.if-not-is_gate.true)

pub gate_at-requires : goal.gate_at-requires
gate_at-requires c =
    (c.requires.0, omega (arith, c.loop-at-test.true), c.line-line.ensures)

pub returns-in_err-gate : goal.returns-in_err-gate
unfolding is_gate
returns-in_err-gate c =
    let a = c.args in let p = err_from_is_err_and c.from_residual.result c.from_residual.ensures.1 in
    let no : c.gate_at.result ≡ None = grind arith in
    let here : c.in_err-gate.field-0.0 ≡ c.loop-at.at = grind arith in
    let kept = so_kept a.s.now a.lib a.from c.loop-at.at c.loop-at.count a.nets.now c.loop-at.nets c.loop-at.invariant.2 c.loop-at.invariant.0 in
    rw (p.1, p.2, here) (
      kept.0,
      kept.1,
      so_broken a.s.now a.lib a.from c.loop-at.at c.loop-at.count a.nets.now c.loop-at.nets c.loop-at.invariant.2 c.loop-at.invariant.0 c.loop-at-test.true
          (sym (ap (λ (w : List ℕ). same (get_or (fields w) 0 []) (text ".gate")) (line-bytes a.s.now c.loop-at.at c.line-line.result c.line-line.ensures)) ∙ sym c.is_gate.ensures ∙ c.if-not-is_gate.false)
          (drives-none (cells_of a.lib) (line_at a.s.now c.loop-at.at) (sym c.gate_at.ensures ∙ no)),
    )

pub store-requires : goal.store-requires
store-requires c =
    let long : length c.loop-at.nets ≡ length c.args.nets.now = c.loop-at.invariant.1 in
    omega (arith, c.loop-at.invariant.0, c.requires.1, c.requires.2, c.loop-at-test.true)

pub overflow_add-count : goal.overflow_add-count
overflow_add-count c =
    omega (arith, c.loop-at.invariant.0, c.requires.1, c.loop-at-test.true)

pub loop-at-smaller : goal.loop-at-smaller
unfolding is_gate
loop-at-smaller c =
    let a = c.args in
    let here = line_at a.s.now c.loop-at.at in
    let gate : is_gate here ≡ true = sym (ap (λ (w : List ℕ). same (get_or (fields w) 0 []) (text ".gate")) (line-bytes a.s.now c.loop-at.at c.line-line.result c.line-line.ensures)) ∙ sym c.is_gate.ensures ∙ c.if-not-is_gate.false in
    let five : 5 ≤ length here.bytes = gate-long here.bytes gate in
    let long : length here.bytes ≡ c.line-line.result.stop - c.loop-at.at = line-long a.s.now c.loop-at.at c.line-line.result c.line-line.ensures in
    let behind : c.line-line.result.next ≡ c.line-line.result.stop + here.ending = stop_next a.s.now c.loop-at.at c.line-line.result c.line-line.ensures in
    omega (arith, c.loop-at-test.true)

pub loop-at-preserved : goal.loop-at-preserved
unfolding is_gate line_at
loop-at-preserved c =
    let a = c.args in
    let here = line_at a.s.now c.loop-at.at in
    let gate : is_gate here ≡ true = sym (ap (λ (w : List ℕ). same (get_or (fields w) 0 []) (text ".gate")) (line-bytes a.s.now c.loop-at.at c.line-line.result c.line-line.ensures)) ∙ sym c.is_gate.ensures ∙ c.if-not-is_gate.false in
    let five : 5 ≤ length here.bytes = gate-long here.bytes gate in
    let long : length here.bytes ≡ c.line-line.result.stop - c.loop-at.at = line-long a.s.now c.loop-at.at c.line-line.result c.line-line.ensures in
    let behind : c.line-line.result.next ≡ c.line-line.result.stop + here.ending = stop_next a.s.now c.loop-at.at c.line-line.result c.line-line.ensures in
    let is : c.gate_at.result ≡ Some c.in_ok-gate.gate = grind arith in
    let d = drives-some (cells_of a.lib) here c.in_ok-gate.gate (sym c.gate_at.ensures ∙ is) in
    let ten : here.ending ≡ 1 = d.2 in
    let puts : c.store.new.nets ≡ put_at c.loop-at.nets (8 * c.loop-at.count) (gate_words c.loop-at.at c.in_ok-gate.gate) = c.store.ensures in
    let same_size : length c.loop-at.nets ≡ length a.nets.now = c.loop-at.invariant.1 in
    let capacity : 8 * c.loop-at.count + 8 ≤ length a.nets.now = omega (arith, c.loop-at.invariant.0, c.requires.1, c.requires.2, c.loop-at-test.true) in (
      omega arith,
      ap length puts ∙ length-put c.loop-at.nets (8 * c.loop-at.count) (gate_words c.loop-at.at c.in_ok-gate.gate) (omega (arith, gate-eight c.loop-at.at c.in_ok-gate.gate)) ∙ same_size,
      subst (λ (k : ℕ). Sofar a.s.now a.lib a.from k (c.loop-at.count + 1) a.nets.now c.store.new.nets) (sym (line-next a.s.now c.loop-at.at c.line-line.result c.line-line.ensures))
          (so_step a.s.now a.lib a.from c.loop-at.at c.loop-at.count a.nets.now c.loop-at.nets c.loop-at.invariant.2 c.loop-at.invariant.0 c.loop-at-test.true gate d.0 d.1 ten c.store.new.nets
          (puts ∙ ap (put_at c.loop-at.nets (8 * c.loop-at.count)) d.3) capacity),
    )

pub returns : goal.returns
returns c =
    let a = c.args in
    so_end a.s.now a.lib a.from c.loop-at.at c.loop-at.count a.nets.now c.loop-at.nets c.loop-at.invariant.2 c.loop-at.invariant.0 c.loop-at-test.false
