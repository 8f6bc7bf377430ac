-- `moves::next` and `prev`, which call themselves and each other on a shorter word: the length of the word falls.
use Rattle.std.proofs.Common.{length}
use Rattle.moves.proofs.+next_prev.Given as goal

abbrev pub decreases-next : goal.decreases-next
decreases-next l = length l.word.now

abbrev pub decreases-prev : goal.decreases-prev
decreases-prev l = length l.word.now
