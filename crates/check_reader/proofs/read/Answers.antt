-- `check_reader::read` meets its contract: the lines read, and the array cleared where one breaks its form.
use Rattle.base.specs.{◌≡◌, sym, ◌∙◌, ap, ℕ, arith, length, replicate}
use Rattle.check_reader.proofs.NetlistReading.{read-broken, read_whole}
use Rattle.check_reader.proofs.read.Goals as goal

pub returns-then-is_err : goal.returns-then-is_err
returns-then-is_err c = λ g f.
    let a = c.args in
    let kept : length c.read_lines-r.new.nets ≡ length a.nets.now = omega arith in
    read-broken a.s.now a.lib g a.nets.now c.read_lines-r.result (sym c.is_err.ensures.value ∙ c.if-is_err.true) _ (c.read_lines-r.ensures g f) _
    (c.fill.ensures.after (λ y e. e) ∙ ap (λ (n : ℕ). replicate n 0) kept)

pub returns-else-is_err : goal.returns-else-is_err
returns-else-is_err c = λ g f.
    let a = c.args in
    read_whole a.s.now a.lib g a.nets.now c.read_lines-r.result (sym c.is_err.ensures.value ∙ c.if-is_err.false) _ (c.read_lines-r.ensures g f)
