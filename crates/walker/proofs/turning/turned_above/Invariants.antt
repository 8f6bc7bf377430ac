-- `walker::turning::turned_above` meets its contract. The invariant: the directions that are passed are turned, and the others are not yet.
use Prim.Native.Nat.{ℕ, ◌≤◌, ◌<◌}
use mathlib.Core.Path.{◌≡◌}
use mathlib.Core.Bool.{false, not}
use lib.ListN.{get_or}
use Rattle.walker.proofs.turning.turned_above.Given as goal

abbrev pub invariant-loop-back : goal.invariant-loop-back
invariant-loop-back l =
    ((i : ℕ) → i < l.back-index → get_or l.back-items i false ≡ not (get_or l.initial.back-items i false))
    × ((i : ℕ) → l.back-index ≤ i → get_or l.back-items i false ≡ get_or l.initial.back-items i false)
