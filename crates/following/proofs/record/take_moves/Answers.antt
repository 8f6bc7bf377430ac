-- `following::record::take_moves` meets its contract. The invariant: what is left to follow comes to the whole.
use native.Mathlib.Omega.{arith}
use Rattle.following.proofs.Moving.{begin, short_stops, miss_stops, hit_moves}
use Rattle.following.proofs.record.take_moves.Goals as goal

pub loop-at-init : goal.loop-at-init
loop-at-init c = begin _ _ _ _ _ c.requires.0 c.requires.1 c.requires.2

pub returns-then-sheet-at-lt3 : goal.returns-then-sheet-at-lt3
returns-then-sheet-at-lt3 c = short_stops _ _ _ _ _ _ _ _ c.loop-at.invariant (omega arith) (omega arith) (omega arith) _ c.at.ensures

pub returns-in_default : goal.returns-in_default
returns-in_default c =
    miss_stops _ _ _ _ _ _ _ _ c.loop-at.invariant (omega arith) (omega arith) (omega arith) c.in_default.ensures _ c.at-in_default.ensures

pub loop-at-preserved : goal.loop-at-preserved
loop-at-preserved c =
    hit_moves _ _ _ _ _ _ _ _ c.loop-at.invariant (omega arith) (omega arith) (omega arith) c.requires.0.strip _ _ c.in-Some.ensures
