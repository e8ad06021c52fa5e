-- `tally_report::put_digits` meets its contract: the last digit goes behind the others.
use Rattle.base.specs.{sym, ap, ◌∙◌, arith, ℕ, ◌+◌, ◌/◌, ◌%◌, List, set}
use Rattle.model.specs.{decimal}
use Rattle.base_words.specs.{put_at}
use Rattle.base_words.proofs.{put_one, put-more}
use Rattle.base_text.proofs.{dec_small, dec_big, dec_small-length, dec_big_length}
use Rattle.tally_report.proofs.+put_digits.Goals as goal

pub bounds-out-at : goal.bounds-out-at
bounds-out-at t c = omega (arith, dec_small-length _ c.if-n-lt10.true)

pub overflow_add-result : goal.overflow_add-result
overflow_add-result t c = omega (arith, dec_small-length _ c.if-n-lt10.true)

pub returns-then-n-lt10 : goal.returns-then-n-lt10
returns-then-n-lt10 t c =
    let a = c.args in
    let one = dec_small-length _ c.if-n-lt10.true in
    (omega arith, put_one a.out.now a.at (48 + a.n) (omega arith) ∙ ap (put_at a.out.now a.at) (sym (dec_small a.n c.if-n-lt10.true)))

pub put_digits-next-requires : goal.put_digits-next-requires
put_digits-next-requires t c = (omega arith, omega (arith, dec_big_length _ c.if-n-lt10.false))

pub bounds-out-next : goal.bounds-out-next
bounds-out-next t c = omega (arith, dec_big_length _ c.if-n-lt10.false, c.put_digits-next.ensures.0)

pub overflow_add-result-else-n-lt10 : goal.overflow_add-result-else-n-lt10
overflow_add-result-else-n-lt10 t c = omega (arith, dec_big_length _ c.if-n-lt10.false, c.put_digits-next.ensures.0)

pub returns-else-n-lt10 : goal.returns-else-n-lt10
returns-else-n-lt10 t c =
    let a = c.args in
    let p = c.put_digits-next in
    let d : ℕ = 48 + a.n % 10 in
    let more = dec_big_length a.n c.if-n-lt10.false in (
      omega (arith, p.ensures.0),
      ap (λ (x : List ℕ). set x p.result d) p.ensures.1
          ∙ ap (λ (k : ℕ). set (put_at a.out.now a.at (decimal (a.n / 10))) k d) p.ensures.0
          ∙ put-more a.out.now a.at (decimal (a.n / 10)) d (omega arith)
          ∙ ap (put_at a.out.now a.at) (sym (dec_big a.n c.if-n-lt10.false)),
    )
