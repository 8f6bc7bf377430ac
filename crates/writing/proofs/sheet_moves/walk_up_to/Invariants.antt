-- `writing::sheet_moves::walk_up_to` meets its contract. The invariant: the walk has made so many moves.
use mathlib.Core.Bool.{false}
use Rattle.walking.proofs.Walked.{Walked}
use Rattle.writing.proofs.sheet_moves.walk_up_to.Given as goal

abbrev pub invariant-loop-moves : goal.invariant-loop-moves
invariant-loop-moves l = Walked false l.stock l.initial.strip l.strip l.walker l.moves
