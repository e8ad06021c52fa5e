-- `check_reader::put_inputs` meets its contract. The invariant: the first i names are written.
use Rattle.base.specs.{◌≡◌, sym, ap, ◌∙◌, List, ◌∷◌, ◌++◌, ℕ, ◌+◌, ◌-◌, arith}
use Rattle.model.specs.{decimal}
use Rattle.base_words.specs.{slot_addr}
use Rattle.base_text.proofs.{begin, step, capacity, kept, end}
use Rattle.check_reader.specs.{names_from, input_name}
use Rattle.check_reader.proofs.OutputNames.{names-next, names-none, input-is}
use Rattle.check_reader.proofs.put_inputs.Goals as goal
use Rattle.check_reader.proofs.put_inputs.Goals.{After-slot-v}

-- the names behind the next one
abbrev later : (c : After-slot-v) → List ℕ
later c = names_from (input_name c.args.work.now c.args.m) (c.loop-i.i + 1) (c.args.n - (c.loop-i.i + 1))

-- the next name, and those behind it
next-name : (c : After-slot-v)
    → names_from (input_name c.args.work.now c.args.m) c.loop-i.i (c.args.n - c.loop-i.i) ≡ (32 ∷ 112 ∷ decimal c.slot-v.result) ++ later c
next-name c =
    let a = c.args in
    names-next (input_name a.work.now a.m) a.n c.loop-i.i c.loop-i-test.true
    ∙ ap (λ (w : List ℕ). (32 ∷ w) ++ later c) (input-is a.work.now a.m c.loop-i.i ∙ ap (λ (v : ℕ). 112 ∷ decimal v) (sym c.slot-v.ensures))

pub loop-i-init : goal.loop-i-init
loop-i-init c =
    let a = c.args in
    let e : a.n ≡ a.n - 0 = omega arith in
    begin a.out.now a.at (ap (names_from (input_name a.work.now a.m) 0) e)

pub slot-v-requires : goal.slot-v-requires
slot-v-requires c = (c.requires.0, omega arith)

pub overflow_cast-v : goal.overflow_cast-v
overflow_cast-v c = omega (arith, c.type_inv.work (slot_addr c.args.m (c.loop-i.i + 1)), c.slot-v.ensures)

pub put_word-next-requires : goal.put_word-next-requires
put_word-next-requires c =
    let t = (goal.at.put_word-next-requires c).After-slot-v in
    capacity c.requires.2 c.loop-i.invariant (32 ∷ 112 ∷ decimal c.slot-v.result) (later t) (next-name t)

pub loop-i-preserved : goal.loop-i-preserved
loop-i-preserved c =
    let t = (goal.at.loop-i-preserved c).After-slot-v in
    step c.requires.2 c.loop-i.invariant c.put_word-next.new.out c.put_word-next.result
    (32 ∷ 112 ∷ decimal c.slot-v.result) (later t) (next-name t) c.put_word-next.ensures

pub shape_of-out : goal.shape_of-out
shape_of-out c = kept c.requires.2 c.loop-i.invariant

pub returns : goal.returns
returns c =
    let a = c.args in
    end c.requires.2 c.loop-i.invariant (names-none (input_name a.work.now a.m) a.n c.loop-i.i c.loop-i-test.false)
