-- `writing::sheet_moves::put_moves` meets its contract. The invariant: the walk has made so many moves, and their records stand at the front of the rest.
use mathlib.Core.Bool.{false}
use native.Mathlib.Omega.{arith}
use Rattle.walking.proofs.Walked.{checked, allowed}
use Rattle.writing.proofs.Listing.{start, on}
use Rattle.writing.proofs.sheet_moves.put_moves.Goals as goal

pub loop-listed-init : goal.loop-listed-init
loop-listed-init c = start _ _ _ _ c.requires.0

pub step-requires : goal.step-requires
step-requires c = checked false _ _ _ _ _ c.requires.0.stock c.requires.0.strip c.loop-listed.invariant.walked

pub returns-in_default : goal.returns-in_default
returns-in_default c =
    absurd (allowed false _ _ _ _ _ c.requires.0.stock c.requires.0.strip c.loop-listed.invariant.walked (omega (arith, c.requires.1)) c.in_default.ensures.0)

pub loop-listed-preserved : goal.loop-listed-preserved
loop-listed-preserved c =
    let m = c.put_move in
    let p = c.requires.0 in
    on _ _ _ _ _ _ _ c.loop-listed.invariant p.stock p.strip _ _ c.in-Some.ensures (omega (arith, c.requires.2)) _ m.auto.rest m.ensures
