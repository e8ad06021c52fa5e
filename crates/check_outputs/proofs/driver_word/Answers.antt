-- `check_outputs::driver_word` meets its contract.
use Rattle.base.specs.{[], ◌∷◌, ◌∙◌, arith}
use Rattle.check_outputs.specs.{gate_word, table_of, driver_word}
use Rattle.check_outputs.proofs.driver_word.Goals as goal

pub pin_word-requires : goal.pin_word-requires
pin_word-requires c = let pre = c.requires in (pre.few, omega arith, pre.pins 0 (omega arith))

pub pin_word-requires-2 : goal.pin_word-requires-2
pin_word-requires-2 c = let pre = c.requires in (pre.few, omega arith, pre.pins 1 (omega arith))

pub pin_word-requires-3 : goal.pin_word-requires-3
pin_word-requires-3 c = let pre = c.requires in (pre.few, omega arith, pre.pins 2 (omega arith))

pub pin_word-requires-4 : goal.pin_word-requires-4
pin_word-requires-4 c = let pre = c.requires in (pre.few, omega arith, pre.pins 3 (omega arith))

pub returns : goal.returns
unfolding driver_word
returns c =
    let a = c.args in
    c.gate_word.ensures
    ∙ (λ k. gate_word (table_of a.nets.now a.i) (c.pin_word.ensures k ∷ c.pin_word-2.ensures k ∷ c.pin_word-3.ensures k ∷ c.pin_word-4.ensures k ∷ []))
