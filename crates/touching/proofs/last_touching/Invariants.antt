-- `touching::last_touching` meets its contract. The invariant: no place from the one looked at last on is like the next.
use Prim.Native.Nat.{◌-◌}
use Rattle.touching.specs.Places.{FreeFrom}
use Rattle.touching.proofs.last_touching.Given as goal

abbrev pub invariant-loop-i : goal.invariant-loop-i
invariant-loop-i l = FreeFrom l.strip (l.i - 1)
