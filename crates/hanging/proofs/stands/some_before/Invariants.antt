-- `hanging::stands::some_before` meets its contract. The invariant: none of the turns passed comes before the strip.
use Prim.Native.Nat.{◌+◌, ◌*◌, ◌-◌, ◌≤◌, ◌<◌}
use lib.ListN.{length}
use Rattle.hanging.proofs.SomeBefore.{NoneBefore}
use Rattle.hanging.proofs.stands.some_before.Given as goal

abbrev pub invariant-loop-t : goal.invariant-loop-t
invariant-loop-t l = (l.t ≤ 2 * length l.paper.strip.now) × (l.k < length l.paper.strip.now) × NoneBefore l.paper.strip.now l.paper.back l.t l.k

abbrev pub decreases-loop-t : goal.decreases-loop-t
decreases-loop-t l = 3 * length l.paper.strip.now - (l.t + l.k)
