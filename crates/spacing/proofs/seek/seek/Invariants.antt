-- `spacing::seek::seek` meets its contract.
use Rattle.spacing.proofs.Seeking.{Seeking}
use Rattle.spacing.proofs.seek.seek.Given as goal

abbrev pub invariant-loop-moves : goal.invariant-loop-moves
invariant-loop-moves l = Seeking l.endless l.stock l.initial.strip l.given l.strip l.walker l.moves l.seen
