-- `base_text::number_len` meets its contract. The measure is the number; each call takes its last digit off.
use Rattle.base_text.proofs.+number_len.Given as goal

abbrev pub decreases-number_len : goal.decreases-number_len
decreases-number_len l = l.n
