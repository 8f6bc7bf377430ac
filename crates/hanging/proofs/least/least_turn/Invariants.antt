-- `hanging::least::least_turn` meets its contract. The invariant: of the numbers passed only the best can be the one sought.
use Prim.Native.Nat.{◌+◌, ◌*◌, ◌-◌, ◌≤◌, ◌<◌}
use mathlib.Core.Path.{◌≡◌}
use lib.ListN.{length}
use Rattle.papers.specs.Papers.{hung}
use Rattle.hanging.proofs.Leading.{Leading}
use Rattle.hanging.proofs.least.least_turn.Given as goal

abbrev pub invariant-loop-t : goal.invariant-loop-t
invariant-loop-t l = (length (hung l.paper.back l.paper.strip.now) ≡ length l.paper.strip.now) × (l.t ≤ 2 * length l.paper.strip.now) × (l.k < length l.paper.strip.now) × Leading (hung l.paper.back l.paper.strip.now) l.best l.t l.k

abbrev pub decreases-loop-t : goal.decreases-loop-t
decreases-loop-t l = 4 * length l.paper.strip.now - (l.best + l.t + l.k)
