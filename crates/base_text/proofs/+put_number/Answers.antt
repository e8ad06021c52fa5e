-- `base_text::put_number` meets its contract: the last two digits go behind the others.
use Rattle.base.specs.{sym, ap, ◌∙◌, arith, ℕ, ◌+◌, ◌/◌, ◌%◌, List, [], ◌∷◌}
use Rattle.model.specs.{decimal}
use Rattle.base_words.specs.{put_at}
use Rattle.base_words.proofs.{put_one, put_append}
use Rattle.base_text.proofs.Decimal.{dec_small, dec_pair, dec_pairs, dec_small-length, dec_pair-length, dec_pairs-length}
use Rattle.base_text.proofs.+put_number.Goals as goal

pub bounds-out-at : goal.bounds-out-at
bounds-out-at t c = omega (arith, dec_small-length _ c.if-n-lt10.true)

pub overflow_add-result : goal.overflow_add-result
overflow_add-result t c = omega (arith, dec_small-length _ c.if-n-lt10.true)

pub returns-then-n-lt10 : goal.returns-then-n-lt10
returns-then-n-lt10 t c =
    let a = c.args in
    let one = dec_small-length _ c.if-n-lt10.true in
    (omega arith, put_one a.out.now a.at (48 + a.n) (omega arith) ∙ ap (put_at a.out.now a.at) (sym (dec_small a.n c.if-n-lt10.true)))

pub put_pair-requires : goal.put_pair-requires
put_pair-requires t c = (omega (arith, dec_pair-length _ c.if-n-lt10.false c.if-n-lt100.true), omega arith)

pub returns-then-n-lt100 : goal.returns-then-n-lt100
returns-then-n-lt100 t c =
    let a = c.args in
    let lo = c.if-n-lt10.false in
    let hi = c.if-n-lt100.true in
    (omega (arith, dec_pair-length a.n lo hi), c.put_pair.ensures.1 ∙ ap (put_at a.out.now a.at) (sym (dec_pair a.n lo hi)))

pub put_number-next-requires : goal.put_number-next-requires
put_number-next-requires t c = (omega arith, omega (arith, dec_pairs-length _ c.if-n-lt100.false))

pub put_pair-requires-else-n-lt100 : goal.put_pair-requires-else-n-lt100
put_pair-requires-else-n-lt100 t c = (omega (arith, c.put_number-next.ensures.0, dec_pairs-length _ c.if-n-lt100.false), omega arith)

pub returns-else-n-lt100 : goal.returns-else-n-lt100
returns-else-n-lt100 t c =
    let a = c.args in
    let p = c.put_number-next in
    let q = c.put_pair-else-n-lt100 in
    let two : List ℕ = (48 + a.n % 100 / 10) ∷ (48 + a.n % 100 % 10) ∷ [] in
    let more = dec_pairs-length a.n c.if-n-lt100.false in (
      omega (arith, p.ensures.0, q.ensures.0),
      q.ensures.1
          ∙ ap (λ (x : List ℕ). put_at x p.result two) p.ensures.1
          ∙ ap (λ (k : ℕ). put_at (put_at a.out.now a.at (decimal (a.n / 100))) k two) p.ensures.0
          ∙ put_append a.out.now a.at (decimal (a.n / 100)) two (omega arith)
          ∙ ap (put_at a.out.now a.at) (sym (dec_pairs a.n c.if-n-lt100.false)),
    )
