-- `counting::totals::total_of` meets its contract.
use Rattle.counting.proofs.Product.{Totalled}
use Rattle.counting.proofs.totals.total_of.Given as goal

abbrev pub invariant-loop-many : goal.invariant-loop-many
invariant-loop-many l = Totalled l.stock l.strips l.many-index
