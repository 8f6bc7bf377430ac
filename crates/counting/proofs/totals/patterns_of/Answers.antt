-- `counting::totals::patterns_of` meets its contract.
use native.Mathlib.Omega.{arith}
use Rattle.counting.proofs.Product.{first, short_next, next}
use Rattle.counting.proofs.totals.patterns_of.Goals as goal

pub loop-j-init : goal.loop-j-init
loop-j-init c = first _

pub overflow_add-n : goal.overflow_add-n
overflow_add-n c = omega (arith, short_next c.loop-j.invariant (omega arith) c.requires.short, c.from-n.ensures)

pub choose-requires : goal.choose-requires
choose-requires c = (omega arith, omega (arith, short_next c.loop-j.invariant (omega arith) c.requires.short, c.from-n.ensures))

pub loop-j-preserved : goal.loop-j-preserved
loop-j-preserved c = rw c.from-n.ensures (next c.loop-j.invariant (omega arith) c.requires.few _ (rw (← c.from-n.ensures) c.choose.ensures))
