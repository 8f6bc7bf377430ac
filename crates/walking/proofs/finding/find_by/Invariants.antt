-- `walking::finding::find_by` meets its contract. The invariant: the blocks of the kinds that are left are a part of the strip, and the move is theirs.
use Rattle.rules.proofs.Descent.{Descent}
use Rattle.walking.proofs.finding.find_by.Given as goal

abbrev pub invariant-loop-j : goal.invariant-loop-j
invariant-loop-j g l = Descent l.back l.stock l.strip l.j l.lo l.hi
