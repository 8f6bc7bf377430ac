-- `succession::tail::turn_tail` meets its contract.
use Rattle.succession.proofs.Turning.{Turned}
use Rattle.succession.proofs.tail.turn_tail.Given as goal

abbrev pub invariant-loop-low : goal.invariant-loop-low
invariant-loop-low l = Turned l.initial.strip l.from l.strip l.low l.high

abbrev pub decreases-loop-low : goal.decreases-loop-low
decreases-loop-low l = l.high
