-- `counting::first::lay_runs` meets its contract.
use Rattle.counting.proofs.Runs.{Running}
use Rattle.counting.proofs.first.lay_runs.Given as goal

abbrev pub invariant-loop-j : goal.invariant-loop-j
invariant-loop-j l = Running l.stock l.strip l.from l.j
