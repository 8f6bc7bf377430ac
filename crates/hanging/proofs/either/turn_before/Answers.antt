-- `hanging::either::turn_before` meets its contract. The invariant: the blocks passed are alike.
use native.Mathlib.Omega.{arith}
use Rattle.hanging.proofs.EitherWay.{turn_unlike, turn_alike}
use Rattle.hanging.proofs.either.turn_before.Goals as goal

pub returns-then-one-other : goal.returns-then-one-other
returns-then-one-other c =
    let p = c.requires in
    turn_unlike _ _ _ _ p.one p.other _ c.loop-k.invariant (omega arith) _ _ c.block_at-one.ensures c.block_at-other.ensures c.if-one-other.true

pub returns : goal.returns
returns c = let p = c.requires in turn_alike _ _ _ _ p.one p.other _ c.loop-k.invariant (omega arith)
