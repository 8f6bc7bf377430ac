-- The measure: the number, which loses its last digit at the call.
use Rattle.lines.proofs.text.Line.+put_decimal.Given as goal

abbrev pub decreases-put_decimal : goal.decreases-put_decimal
decreases-put_decimal l = l.n
