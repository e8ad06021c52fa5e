-- `check_call::input_codes` meets its contract. The invariant: the numbers of the first i inputs' nets are stored.
use Rattle.base.specs.{◌≡◌, sym, ◌∙◌, ap, ◌∷◌, map, ℕ, ◌+◌, arith}
use Rattle.model.specs.{from, decimal}
use Rattle.base_words.specs.{put_at, zeros, slot_addr}
use Rattle.check_names.specs.{code}
use Rattle.check_call.specs.{input_code}
use Rattle.check_call.proofs.InputCodes.{codes-none, codes-more, code_is}
use Rattle.check_call.proofs.input_codes.Goals as goal

pub slot-v-requires : goal.slot-v-requires
slot-v-requires c = (c.requires.0, omega (arith, c.requires.1, c.loop-i-test.true))

pub label_code-requires : goal.label_code-requires
label_code-requires c =
    omega (arith, c.type_inv.work (slot_addr c.args.m (c.loop-i.i + 1)), c.slot-v.ensures)

pub offset_bounds-codes-i : goal.offset_bounds-codes-i
offset_bounds-codes-i c = omega (arith, c.requires.2, c.loop-i-test.true)

pub bounds-codes-i : goal.bounds-codes-i
bounds-codes-i c = omega (arith, c.requires.2, c.loop-i-test.true)

pub loop-i-preserved : goal.loop-i-preserved
loop-i-preserved c =
    let a = c.args in
    codes-more (input_code a.work.now a.m) c.loop-i.codes c.loop-i.i c.label_code.result c.loop-i.invariant (omega (arith, c.requires.2, c.loop-i-test.true))
    (c.label_code.ensures ∙ ap (λ (v : ℕ). code (112 ∷ decimal v)) c.slot-v.ensures ∙ sym (code_is a.work.now a.m c.loop-i.i))

pub returns : goal.returns
returns c =
    let a = c.args in
    c.loop-i.invariant ∙ ap (λ (n : ℕ). put_at (zeros 12) 0 (map (input_code a.work.now a.m) (from 0 n))) (let z : c.loop-i.i ≡ a.n = omega arith in z)

pub loop-i-init : goal.loop-i-init
loop-i-init c = codes-none (input_code c.args.work.now c.args.m)
