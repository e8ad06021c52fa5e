-- `cover_choice::table` meets its contract: a word fits.
use Rattle.base.specs.{arith, rules}
use Rattle.base_words.proofs.{function-fits}
use Rattle.cover_choice.proofs.table.Goals as goal

pub overflow_cast-result : goal.overflow_cast-result
overflow_cast-result c =
    let a = c.args in
    omega (arith, c.function.ensures, function-fits a.work.now a.m a.v a.k 65536 (λ i. search rules))
