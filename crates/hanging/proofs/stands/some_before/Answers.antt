-- `hanging::stands::some_before` meets its contract. The invariant: none of the turns passed comes before the strip.
use Prim.Native.Nat.{◌+◌}
use mathlib.Core.Path.{◌≡◌}
use native.Mathlib.Omega.{arith}
use lib.ListN.{get_or}
use Rattle.hanging.proofs.SomeBefore.{NoneBefore, none_start, none_alike, none_later, one_before, none_before, none_round}
use Rattle.hanging.proofs.stands.some_before.Goals as goal
use Rattle.hanging.proofs.stands.some_before.Goals.{After-block_at-one}

-- the block of the turn is read
alike : (c : After-block_at-one) → c.block_at-one.result ≡ get_or c.args.paper.strip.now c.loop-t.k 0 → NoneBefore c.args.paper.strip.now c.args.paper.back c.loop-t.t (c.loop-t.k + 1)
alike c e = none_alike _ c.requires.some _ c.requires.there _ _ c.loop-t.invariant.2 (omega arith) (omega (arith, c.block_at-one.ensures))

pub loop-t-init : goal.loop-t-init
loop-t-init c =
    let w = none_start _ c.requires.some _ c.requires.there _ c.from-t.ensures in
    (omega (arith, w.0, c.requires.some), c.requires.some, w.1)

pub returns-then-one-other : goal.returns-then-one-other
returns-then-one-other c = one_before _ c.requires.some _ c.requires.there _ _ c.loop-t.invariant.2 (omega arith) (omega arith) (omega (arith, c.block_at-one.ensures))

pub loop-t-preserved-then-other-one : goal.loop-t-preserved-then-other-one
loop-t-preserved-then-other-one c = (omega arith, omega arith, none_later _ c.requires.some _ c.requires.there _ _ c.loop-t.invariant.2 (omega arith) (omega (arith, c.block_at-one.ensures)))

pub loop-t-preserved : goal.loop-t-preserved
loop-t-preserved c = (omega arith, omega arith, alike (goal.at.loop-t-preserved c).After-block_at-one (omega arith))

pub returns-else-next-n : goal.returns-else-next-n
returns-else-next-n c = none_round _ c.requires.some _ c.requires.there _ _ (alike (goal.at.returns-else-next-n c).After-block_at-one (omega arith)) (omega arith)

pub returns : goal.returns
returns c = none_before _ c.requires.some _ c.requires.there _ _ c.loop-t.invariant.2 (omega arith)
