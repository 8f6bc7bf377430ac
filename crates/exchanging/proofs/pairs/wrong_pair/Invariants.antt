-- `exchanging::pairs::wrong_pair` meets its contract.
use Rattle.bar.proofs.Pairs.{Sought}
use Rattle.exchanging.proofs.pairs.wrong_pair.Given as goal

abbrev pub invariant-loop-k : goal.invariant-loop-k
invariant-loop-k l = Sought l.n l.pairs l.k
