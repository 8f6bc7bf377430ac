-- `running::run::run_checked` meets its contract. The invariant: after so many moves the run stands at the strip that many numbers further.
use Rattle.running.proofs.Running.{Running}
use Rattle.running.proofs.run.run_checked.Given as goal

abbrev pub invariant-loop-moves : goal.invariant-loop-moves
invariant-loop-moves l = Running l.back l.stock l.initial.strip l.initial.list l.strip l.walker l.list l.moves
