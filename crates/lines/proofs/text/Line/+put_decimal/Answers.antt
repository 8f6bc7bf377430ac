-- The digits before the last one, then that one.
use mathlib.Core.Path.{ap}
use native.Mathlib.Omega.{arith}
use lib.ListN.{length}
use Rattle.lines.proofs.Decimals.{decimal_last, decimal_only, decimal_longer}
use Rattle.lines.proofs.Putting.{writes_on}
use Rattle.lines.proofs.text.Line.+put_decimal.Goals as goal

pub put_byte-requires : goal.put_byte-requires
put_byte-requires t c = omega (arith, ap length (decimal_only c.args.n (omega arith)))

pub returns-then-n-lt10 : goal.returns-then-n-lt10
returns-then-n-lt10 t c = rw (decimal_only c.args.n (omega arith)) c.put_byte.ensures

pub put_decimal-requires : goal.put_decimal-requires
put_decimal-requires t c =
    (omega arith, (omega arith, omega (arith, decimal_longer c.args.n (omega arith) (omega arith))))

pub put_byte-requires-2 : goal.put_byte-requires-2
put_byte-requires-2 t c = omega (arith, decimal_longer c.args.n (omega arith) (omega arith))

pub returns : goal.returns
returns t c =
    rw (decimal_last c.args.n (omega arith) (omega arith)) (writes_on c.put_decimal.ensures c.put_byte-2.ensures (omega (arith, decimal_longer c.args.n (omega arith) (omega arith))))
