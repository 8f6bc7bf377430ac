-- `flags::passes::how_many` meets its contract. The invariant: the flags that are counted, and those that are set in the rest, are all that are set.
use Prim.Native.Nat.{◌≤◌, ◌+◌}
use mathlib.Core.Path.{◌≡◌}
use lib.ListN.{drop}
use Rattle.flags.specs.Flags.{how_many_set}
use Rattle.flags.proofs.passes.how_many.Given as goal

abbrev pub invariant-loop-set : goal.invariant-loop-set
invariant-loop-set l = (l.many ≤ l.set-index) × (l.many + how_many_set (drop l.set-index l.flags) ≡ how_many_set l.flags)
