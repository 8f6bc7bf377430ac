-- `pattern::index::index_of` meets its contract. The measure is the number of letters that are left, and the cuts made and those left are all cuts of the word.
use lib.ListN.{length}
use Rattle.pattern.proofs.Narrowing.{Narrowed}
use Rattle.pattern.proofs.index.index_of.Given as goal

abbrev pub invariant-loop-b : goal.invariant-loop-b
invariant-loop-b l = Narrowed l.kind l.word l.others l.left l.b l.part l.cuts

abbrev pub decreases-loop-b : goal.decreases-loop-b
decreases-loop-b l = length l.left
