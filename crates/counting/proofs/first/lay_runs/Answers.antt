-- `counting::first::lay_runs` meets its contract.
use Prim.Native.Nat.{◌+◌, ◌≤◌}
use native.Mathlib.Omega.{arith}
use lib.ListN.{length}
use Rattle.rules.proofs.Rising.{within}
use Rattle.counting.proofs.Runs.{start, on, end}
use Rattle.counting.proofs.first.lay_runs.Goals as goal

pub loop-j-init : goal.loop-j-init
loop-j-init c = start _ _ c.requires.1

pub overflow_add-to : goal.overflow_add-to
overflow_add-to c = omega (arith, within c.loop-j.invariant (omega arith), c.from.ensures)

pub slice_bounds-fill-end : goal.slice_bounds-fill-end
slice_bounds-fill-end c = let h : c.loop-j.from + c.from.result ≤ length c.loop-j.strip = omega (arith, within c.loop-j.invariant (omega arith), c.from.ensures) in h

pub loop-j-preserved : goal.loop-j-preserved
loop-j-preserved c = on c.loop-j.invariant (omega arith) c.from.ensures _ (c.fill.ensures.after (λ y e. e))

pub returns : goal.returns
returns c = end c.loop-j.invariant (omega arith)
