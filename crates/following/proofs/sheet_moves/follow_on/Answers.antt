-- `following::sheet_moves::follow_on` meets its contract. The invariant: what is left to follow comes to the whole.
use native.Mathlib.Omega.{arith}
use Rattle.following.proofs.Underway.{start, none, ended_not, ended_here, on}
use Rattle.following.proofs.sheet_moves.follow_on.Goals as goal

pub loop-at-init : goal.loop-at-init
loop-at-init c = start _ _ _ _ _ _ c.requires

pub returns-in_err-check_end : goal.returns-in_err-check_end
returns-in_err-check_end c = ended_not _ _ _ _ _ _ _ _ c.loop-at.invariant (omega arith) (omega arith) _ _ c.from_residual.ensures.1 c.in_err-check_end.ensures

pub returns-then-sheet-at-eq-END : goal.returns-then-sheet-at-eq-END
returns-then-sheet-at-eq-END c = ended_here _ _ _ _ _ _ _ _ c.loop-at.invariant (omega arith) (omega arith) c.in_ok-check_end.ensures

pub loop-at-preserved : goal.loop-at-preserved
loop-at-preserved c = on _ _ _ _ _ _ _ _ c.loop-at.invariant _ _ c.in_ok-taken.ensures

pub returns : goal.returns
returns c = none _ _ _ _ _ _ _ _ c.loop-at.invariant (omega arith) _ c.at.ensures
