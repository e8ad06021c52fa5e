-- `check_reader::put_word` meets its contract: a space and the letter, and the number behind them.
use Rattle.base.specs.{refl, sym, ◌∷◌, [], append-nil}
use Rattle.model.specs.{decimal}
use Rattle.base_text.proofs.{Partly, begin, step, capacity, finish, as_wrote}
use Rattle.check_reader.proofs.put_word.Goals as goal
use Rattle.check_reader.proofs.put_word.Goals.{After-put_bytes-next}

-- what stands before the number is written
one : (c : After-put_bytes-next)
    → Partly c.args.out.now c.put_bytes-next.new.out c.args.at c.put_bytes-next.result (32 ∷ c.args.letter ∷ decimal c.args.n) (decimal c.args.n)
one c =
    step c.requires (begin c.args.out.now c.args.at refl) c.put_bytes-next.new.out c.put_bytes-next.result
    (32 ∷ c.args.letter ∷ []) (decimal c.args.n) refl c.put_bytes-next.ensures

pub put_number-requires : goal.put_number-requires
put_number-requires c =
    capacity c.requires (one (goal.at.put_number-requires c).After-put_bytes-next) (decimal c.args.n) [] (sym (append-nil (decimal c.args.n)))

pub returns : goal.returns
returns c = finish c.requires (one (goal.at.returns c).After-put_bytes-next) (as_wrote c.put_number.ensures)
