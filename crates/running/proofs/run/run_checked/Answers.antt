-- `running::run::run_checked` meets its contract. The invariant: after so many moves the run stands at the strip that many numbers further.
use Prim.Native.Nat.{◌/◌}
use mathlib.Core.Path.{◌≡◌}
use native.Mathlib.Omega.{arith}
use lib.ListN.{length}
use Rattle.walking.proofs.OneMove.{can_be_made}
use Rattle.running.proofs.Running.{start, checked, stop, move, full, on}
use Rattle.running.proofs.run.run_checked.Goals as goal

pub loop-moves-init : goal.loop-moves-init
loop-moves-init c = start _ _ _ _ _ c.requires

-- the strip and the walker at the loop's head are checked
pub find-requires : goal.find-requires
find-requires c = checked _ _ _ _ _ _ _ _ c.requires.stock c.requires.strip c.loop-moves.invariant

pub returns-in_default : goal.returns-in_default
returns-in_default c = stop _ _ _ _ _ _ _ _ c.requires.stock c.requires.strip c.loop-moves.invariant c.in_default.ensures _ c.answered.ensures

pub make-made-requires : goal.make-made-requires
make-made-requires c =
    let p = c.requires in
    can_be_made
    (checked _ _ _ _ _ _ _ _ p.stock p.strip c.loop-moves.invariant)
    (move _ _ _ _ _ _ _ _ p.stock p.strip c.loop-moves.invariant _ c.in-Some.ensures)

pub loop-moves-preserved : goal.loop-moves-preserved
loop-moves-preserved c =
    on _ _ _ _ _ _ _ _ c.requires.stock c.requires.strip c.loop-moves.invariant _ c.in-Some.ensures (omega arith) _ _ c.make-made.ensures

pub find-next-requires : goal.find-next-requires
find-next-requires c = checked _ _ _ _ _ _ _ _ c.requires.stock c.requires.strip c.loop-moves.invariant

pub returns : goal.returns
returns c =
    let used : length c.args.list.now / 2 ≡ c.loop-moves.moves = omega arith in
    full _ _ _ _ _ _ _ _ c.requires.stock c.requires.strip c.loop-moves.invariant (omega arith) _ c.find-next.ensures _ c.is_none.ensures _ (rw used at c.answered-2.ensures)
