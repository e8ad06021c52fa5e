-- `check_call::input_codes` meets its contract. The invariant: the numbers of the first i inputs' nets are stored.
use Rattle.base.specs.{◌≡◌, map}
use Rattle.model.specs.{from}
use Rattle.base_words.specs.{put_at, zeros}
use Rattle.check_call.specs.{input_code}
use Rattle.check_call.proofs.input_codes.Given as goal

abbrev pub invariant-loop-i : goal.invariant-loop-i
invariant-loop-i l = l.codes ≡ put_at (zeros 12) 0 (map (input_code l.work l.m) (from 0 l.i))
