-- `replaying::replay::exchange_all` meets its contract. The invariant: what the flags hold and what is left to exchange come to the whole.
use Rattle.replaying.proofs.Underway.{Underway}
use Rattle.replaying.proofs.replay.exchange_all.Given as goal

abbrev pub invariant-loop-k : goal.invariant-loop-k
invariant-loop-k l = Underway l.stock l.initial.strip l.pairs l.strip l.flags l.number l.walked l.k
