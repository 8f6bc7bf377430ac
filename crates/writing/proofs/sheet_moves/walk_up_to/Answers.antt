-- `writing::sheet_moves::walk_up_to` meets its contract. The invariant: the walk has made so many moves.
use mathlib.Core.Bool.{false}
use native.Mathlib.Omega.{arith}
use Rattle.walking.proofs.Walked.{start, checked, stopped, on}
use Rattle.writing.proofs.sheet_moves.walk_up_to.Goals as goal

pub loop-moves-init : goal.loop-moves-init
loop-moves-init c = start false _ _ _ c.requires

pub step-requires : goal.step-requires
step-requires c = checked false _ _ _ _ _ c.requires.stock c.requires.strip c.loop-moves.invariant

pub returns-in_default : goal.returns-in_default
returns-in_default c =
    let e = stopped false _ _ _ _ _ c.requires.stock c.requires.strip c.loop-moves.invariant _ c.in_default.ensures in
    omega (arith, e.0)

pub loop-moves-preserved : goal.loop-moves-preserved
loop-moves-preserved c = on false _ _ _ _ _ c.requires.stock c.requires.strip c.loop-moves.invariant _ _ c.in-Some.ensures
