-- `comparing::order::compare` meets its contract. The invariant: in the kinds that are done the two strips are alike.
use mathlib.Core.Path.{◌≡◌}
use lib.ListN.{length}
use Rattle.comparing.proofs.Level.{Level}
use Rattle.comparing.proofs.order.compare.Given as goal

abbrev pub invariant-loop-j : goal.invariant-loop-j
invariant-loop-j l = (length l.one ≡ 64) × (length l.two ≡ 64) × Level l.stock l.first l.second l.odd l.below l.j
