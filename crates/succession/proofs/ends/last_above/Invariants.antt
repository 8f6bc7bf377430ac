-- `succession::ends::last_above` meets its contract. The invariant: no block that was looked at is higher.
use Prim.Native.Nat.{◌<◌}
use lib.ListN.{drop}
use Rattle.dictionary.proofs.Following.{AtMost}
use Rattle.succession.proofs.ends.last_above.Given as goal

abbrev pub invariant-loop-place : goal.invariant-loop-place
invariant-loop-place l = (l.from < l.place) × AtMost l.kind (drop l.place l.strip)
