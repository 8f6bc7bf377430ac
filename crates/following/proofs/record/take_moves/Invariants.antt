-- `following::record::take_moves` meets its contract. The invariant: what is left to follow comes to the whole.
use Prim.Native.Nat.{◌-◌}
use lib.ListN.{length}
use Rattle.following.proofs.Moving.{Moving}
use Rattle.following.proofs.record.take_moves.Given as goal

abbrev pub invariant-loop-at : goal.invariant-loop-at
invariant-loop-at l = Moving l.stock l.sheet l.initial.strip l.from l.strip l.walker l.at l.moves

abbrev pub decreases-loop-at : goal.decreases-loop-at
decreases-loop-at l = length l.sheet - l.at
