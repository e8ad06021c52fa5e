-- `tally_call::put_column` meets its contract.
use Rattle.base.specs.{rules, arith, ◌≡◌, ap, ◌∙◌, List, ℕ, ◌+◌, ◌-◌, ◌++◌, length, take, drop, drop-drop}
use Rattle.base_words.specs.{put_at}
use Rattle.tally_call.proofs.put_column.Goals as goal

pub returns : goal.returns
unfolding put_at
returns c =
    let a = c.args in
    let w : List ℕ = a.out.now in
    let long : length a.xs ≡ 32 = search rules in
    let end : a.at + (a.at + 32 - a.at) ≡ a.at + length a.xs = omega (arith, long) in (
      ap (λ (ys : List ℕ). take a.at w ++ (ys ++ drop (a.at + 32 - a.at) (drop a.at w))) c.copy_from_slice.ensures.after
          ∙ ap (λ (ys : List ℕ). take a.at w ++ (a.xs ++ ys)) (drop-drop (a.at + 32 - a.at) a.at w ∙ ap (λ (k : ℕ). drop k w) end),
      long,
    )
