-- `left::runs::run_end` meets its contract. The invariant: the place, and the run that begins there, come to the same end as at the start.
use Prim.Native.Nat.{◌+◌}
use mathlib.Core.Path.{◌≡◌}
use lib.ListN.{drop}
use Rattle.rules.specs.Book.{letter, pattern}
use Rattle.rules.proofs.Runs.{run}
use Rattle.left.proofs.runs.run_end.Given as goal

abbrev pub invariant-loop-i : goal.invariant-loop-i
invariant-loop-i l = l.i + run (letter l.own) (drop l.i (pattern l.kind l.word)) ≡ l.from + run (letter l.own) (drop l.from (pattern l.kind l.word))
