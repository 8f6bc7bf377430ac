-- `papers::turned_by` meets its contract. The invariant: the blocks passed are alike.
use Prim.Native.Nat.{ℕ, ◌<◌}
use Rattle.papers.proofs.Turning.{Alike}
use Rattle.papers.proofs.turned_by.Given as goal

abbrev pub invariant-loop-i : goal.invariant-loop-i
invariant-loop-i l = (k : ℕ) → k < l.i → Alike l.first.strip.now l.first.back l.second l.t k
