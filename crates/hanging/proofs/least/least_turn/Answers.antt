-- `hanging::least::least_turn` meets its contract. The invariant: of the numbers passed only the best can be the one sought.
use Prim.Native.Nat.{◌+◌, ◌<◌}
use mathlib.Core.Path.{◌≡◌}
use native.Mathlib.Omega.{arith}
use lib.ListN.{length}
use Rattle.papers.specs.Blocks.{as_hung}
use Rattle.papers.proofs.Turning.{hung_length}
use Rattle.hanging.proofs.Leading.{Leading, leading_start, leading_alike, leading_on, leading_new, leading_last, leading_round}
use Rattle.hanging.proofs.least.least_turn.Goals as goal
use Rattle.hanging.proofs.least.least_turn.Goals.{After-block_at-other}

-- both blocks are read
module _ (c : After-block_at-other) where
  some : 0 < length (as_hung c.args.paper)
  some = omega (arith, c.loop-t.invariant.0, c.requires)

  alike : c.block_at-one.result ≡ c.block_at-other.result → Leading (as_hung c.args.paper) c.loop-t.best c.loop-t.t (c.loop-t.k + 1)
  alike e = leading_alike _ some _ _ _ c.loop-t.invariant.3 (omega (arith, c.block_at-one.ensures, c.block_at-other.ensures))

pub loop-t-init : goal.loop-t-init
loop-t-init c =
    let n = hung_length c.args.paper.back c.args.paper.strip.now in
    (n, omega arith, c.requires, leading_start _ (omega (arith, n, c.requires)))

pub loop-t-preserved-then-one-other : goal.loop-t-preserved-then-one-other
loop-t-preserved-then-one-other c =
    let w = leading_new _ (some (goal.at.loop-t-preserved-then-one-other c).After-block_at-other) _ _ _ c.loop-t.invariant.3 (omega arith) (omega (arith, c.block_at-one.ensures, c.block_at-other.ensures)) _ c.max-best.ensures in
    (c.loop-t.invariant.0, omega (arith, w.inside), omega arith, w)

pub loop-t-preserved-then-other-one : goal.loop-t-preserved-then-other-one
loop-t-preserved-then-other-one c =
    (c.loop-t.invariant.0, omega arith, omega arith, leading_on _ (some (goal.at.loop-t-preserved-then-other-one c).After-block_at-other) _ _ _ c.loop-t.invariant.3 (omega arith) (omega (arith, c.block_at-one.ensures, c.block_at-other.ensures)))

pub loop-t-preserved : goal.loop-t-preserved
loop-t-preserved c = (c.loop-t.invariant.0, omega arith, omega arith, alike (goal.at.loop-t-preserved c).After-block_at-other (omega arith))

pub returns-else-next-n : goal.returns-else-next-n
returns-else-next-n c = leading_round _ (some (goal.at.returns-else-next-n c).After-block_at-other) _ _ _ (alike (goal.at.returns-else-next-n c).After-block_at-other (omega arith)) (omega arith)

pub returns : goal.returns
returns c = let l = c.loop-t.invariant in leading_last _ (omega (arith, l.0, c.requires)) _ _ _ l.3 (omega (arith, l.0))
