-- `writing::sheet_moves::put_moves` meets its contract. The invariant: the walk has made so many moves, and their records stand at the front of the rest.
use Rattle.writing.proofs.Listing.{Listing}
use Rattle.writing.proofs.sheet_moves.put_moves.Given as goal

abbrev pub invariant-loop-listed : goal.invariant-loop-listed
invariant-loop-listed l = Listing l.stock l.initial.strip l.initial.rest l.strip l.walker l.rest l.listed
