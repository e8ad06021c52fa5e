-- `tally_report::put_digits` meets its contract. The measure is the number; the call writes all digits but the last, and that one goes behind them.
use Rattle.tally_report.proofs.+put_digits.Given as goal

abbrev pub decreases-put_digits : goal.decreases-put_digits
decreases-put_digits l = l.n
