-- `counting::totals::total_of` meets its contract.
use Prim.Native.Nat.{◌<◌}
use mathlib.Core.Path.{◌≡◌}
use native.Mathlib.Omega.{arith}
use lib.ListN.{length, get_or, take}
use lib.Seq.{get_or-take, length-take-le}
use Rattle.counting.proofs.Held.{none_held}
use Rattle.counting.proofs.Product.{start, over, on, end}
use Rattle.counting.proofs.totals.total_of.Goals as goal
use Rattle.counting.proofs.totals.total_of.Goals.{In-loop-many}

-- each number that is read is that of a kind
module _ (c : In-loop-many) where
  here : c.loop-many.many-index < length c.args.stock.now
  here = omega (arith, c.loop-many-test.true, length-take-le (length c.args.stock.now) c.args.patterns.now (omega (arith, c.requires.0.room, c.requires.1.few)))

  same : get_or (take (length c.args.stock.now) c.args.patterns.now) c.loop-many.many-index 0 ≡ get_or c.args.patterns.now c.loop-many.many-index 0
  same = get_or-take (length c.args.stock.now) c.args.patterns.now c.loop-many.many-index 0 here

pub loop-many-init : goal.loop-many-init
loop-many-init c = start _

pub returns-in_err-strips : goal.returns-in_err-strips
returns-in_err-strips c =
    let at = (goal.at.returns-in_err-strips c).In-loop-many in
    let e = rw (same at) at c.in_err-strips.ensures in
    rw c.from_residual.ensures (none_held _ (over c.requires.0 c.loop-many.invariant (here at) (omega (arith, e))))

pub loop-many-preserved : goal.loop-many-preserved
loop-many-preserved c =
    let at = (goal.at.loop-many-preserved c).In-loop-many in
    let e = rw (same at) at c.in_ok-strips.ensures in
    rw e.1 (on c.requires.0 c.loop-many.invariant (here at) e.0)

pub returns : goal.returns
returns c = end c.requires.0 c.loop-many.invariant (omega (arith, length-take-le (length c.args.stock.now) c.args.patterns.now (omega (arith, c.requires.0.room, c.requires.1.few))))
