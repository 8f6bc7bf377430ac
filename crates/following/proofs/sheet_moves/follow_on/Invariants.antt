-- `following::sheet_moves::follow_on` meets its contract. The invariant: what is left to follow comes to the whole.
use Prim.Native.Nat.{◌-◌}
use lib.ListN.{length, drop}
use Rattle.following.specs.Editions.{has_strides}
use Rattle.following.specs.Following.{follow}
use Rattle.following.proofs.Underway.{Underway}
use Rattle.following.proofs.sheet_moves.follow_on.Given as goal

abbrev pub invariant-loop-at : goal.invariant-loop-at
invariant-loop-at l = Underway (has_strides l.edition) l.stock l.sheet (follow (has_strides l.edition) l.stock l.initial.strip l.from (drop l.from l.sheet)) l.strip l.walker l.at l.moves

abbrev pub decreases-loop-at : goal.decreases-loop-at
decreases-loop-at l = length l.sheet - l.at
