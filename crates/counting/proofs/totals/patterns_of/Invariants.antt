-- `counting::totals::patterns_of` meets its contract.
use Rattle.counting.proofs.Product.{Listing}
use Rattle.counting.proofs.totals.patterns_of.Given as goal

abbrev pub invariant-loop-j : goal.invariant-loop-j
invariant-loop-j l = Listing l.stock l.patterns l.n l.j
