-- `stock::strips::tallies` meets its contract.
use Rattle.rules.proofs.Counted.{Counted}
use Rattle.stock.proofs.strips.tallies.Given as goal

abbrev pub invariant-loop-block : goal.invariant-loop-block
invariant-loop-block l = Counted 17 l.strip l.seen l.block-index
