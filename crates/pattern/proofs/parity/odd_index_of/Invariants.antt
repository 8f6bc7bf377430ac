-- `pattern::parity::odd_index_of` meets its contract. The measure is the number of letters that are left.
use lib.ListN.{length}
use Rattle.pattern.proofs.FromEnd.{FromEnd}
use Rattle.pattern.proofs.parity.odd_index_of.Given as goal

abbrev pub invariant-loop-left : goal.invariant-loop-left
invariant-loop-left l = FromEnd l.kind l.word l.left l.b l.turned l.odd

abbrev pub decreases-loop-left : goal.decreases-loop-left
decreases-loop-left l = length l.left
