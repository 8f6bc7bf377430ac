-- `exchanging::pairs::wrong_pair` meets its contract.
use native.Mathlib.Omega.{arith}
use Rattle.stock.proofs.Places.{found_here, found_nowhere}
use Rattle.bar.proofs.Pairs.{sought_wrong, sought_half, sought_none}
use Rattle.exchanging.proofs.pairs.wrong_pair.Goals as goal

pub returns-then-not-is_pair : goal.returns-then-not-is_pair
returns-then-not-is_pair c = found_here _ _ (sought_wrong _ _ _ c.loop-k.invariant (omega arith) (rw (← c.is_pair.ensures) c.if-not-is_pair.true))

pub returns-then-pairs-whole-eq1 : goal.returns-then-pairs-whole-eq1
returns-then-pairs-whole-eq1 c = found_here _ _ (sought_half _ _ _ c.loop-k.invariant (omega arith) (omega arith))

pub returns : goal.returns
returns c = found_nowhere _ (sought_none _ _ _ c.loop-k.invariant (omega arith) (omega arith))
