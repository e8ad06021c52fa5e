-- `base_text::put_number` meets its contract. The measure is the number; the call writes all digits but the last two.
use Rattle.base_text.proofs.+put_number.Given as goal

abbrev pub decreases-put_number : goal.decreases-put_number
decreases-put_number l = l.n
