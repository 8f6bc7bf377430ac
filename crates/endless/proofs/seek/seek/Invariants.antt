-- `endless::seek::seek` meets its contract. The invariant: the steps made lead from the strip lent to the strip as it is now, and none of the strips passed is standing.
use Prim.Native.Nat.{ℕ}
use mathlib.Core.Path.{◌≡◌}
use mathlib.Core.List.{List}
use lib.ListN.{length}
use Rattle.rules.specs.Stock.{IsStrip}
use Rattle.endless.proofs.Steps.{Made}
use Rattle.endless.proofs.seek.seek.Given as goal

abbrev pub invariant-loop-steps : goal.invariant-loop-steps
invariant-loop-steps l = (length l.strip ≡ length l.initial.strip) × ((counts : List ℕ) → IsStrip counts l.initial.strip → Made counts l.initial.strip l.strip l.steps)
