-- `entries::numbers::entry_of` meets its contract. The invariant: the blocks from i on are counted, and so are their orders and those before theirs.
use Rattle.entries.proofs.Tails.{Tail}
use Rattle.entries.proofs.numbers.entry_of.Given as goal

abbrev pub invariant-loop-i : goal.invariant-loop-i
invariant-loop-i l = Tail l.stock l.strip l.seen l.orders l.number l.i
