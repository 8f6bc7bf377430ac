-- `hanging::either::turn_before` meets its contract. The invariant: the blocks passed are alike.
use mathlib.Core.Bool.{not}
use Rattle.papers.specs.Papers.{hung}
use Rattle.papers.specs.Blocks.{as_hung}
use Rattle.hanging.proofs.Alike.{Alike}
use Rattle.hanging.proofs.either.turn_before.Given as goal

abbrev pub invariant-loop-k : goal.invariant-loop-k
invariant-loop-k l = Alike (as_hung l.paper) l.t (hung (not l.paper.back) l.paper.strip.now) l.u l.k
