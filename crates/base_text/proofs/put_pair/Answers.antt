-- `base_text::put_pair` meets its contract.
use Rattle.base.specs.{ap, ◌∙◌, List, [], ◌∷◌, ℕ, ◌+◌, ◌/◌, ◌%◌, arith, set, length-set}
use Rattle.base_words.proofs.{put_one, put-more}
use Rattle.base_text.proofs.put_pair.Goals as goal

pub bounds-out-at-2 : goal.bounds-out-at-2
bounds-out-at-2 c = omega (arith, length-set c.args.out.now c.args.at (48 + c.args.n / 10))

pub returns : goal.returns
returns c =
    let a = c.args in (
      omega arith,
      ap (λ (x : List ℕ). set x (a.at + 1) (48 + a.n % 10)) (put_one a.out.now a.at (48 + a.n / 10) (omega arith))
          ∙ put-more a.out.now a.at ((48 + a.n / 10) ∷ []) (48 + a.n % 10) (omega arith),
    )
