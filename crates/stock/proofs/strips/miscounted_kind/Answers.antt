-- `stock::strips::miscounted_kind` meets its contract.
use Prim.Native.Nat.{◌+◌, ◌<◌}
use mathlib.Core.Path.{◌≡◌}
use native.Mathlib.Omega.{arith}
use lib.ListN.{get_or}
use Rattle.rules.specs.Stock.{count}
use Rattle.rules.specs.Refusals.{is_miscounted}
use Rattle.rules.proofs.Refusals.{miscounted_yes, miscounted_no}
use Rattle.rules.proofs.Smallest.{sought_start, sought_here, sought_on, sought_end}
use Rattle.rules.proofs.Checks.{no_stranger}
use Rattle.stock.proofs.Places.{found_here, found_nowhere}
use Rattle.stock.proofs.strips.miscounted_kind.Goals as goal
use Rattle.stock.proofs.strips.miscounted_kind.Goals.{In-loop-j}

-- what is compared with the count is how many blocks are of the kind
module _ (c : In-loop-j) where
  known : c.loop-j.j + 1 < 17
  known = omega (arith, c.requires.0.few)

  counted_is : get_or c.tallies-counted.result (c.loop-j.j + 1) 0 ≡ count (c.loop-j.j + 1) c.args.strip.now
  counted_is = c.tallies-counted.ensures _ known

pub tallies-counted-requires : goal.tallies-counted-requires
tallies-counted-requires c i h =
    omega (arith, c.requires.0.few, no_stranger c.args.stock.now c.args.strip.now c.requires.1 i h)

pub returns-then-counted-kind : goal.returns-then-counted-kind
returns-then-counted-kind c = found_here _ _ (sought_here (is_miscounted _) _ _ c.loop-j.invariant (omega arith) (miscounted_yes _ _ _ (rw (counted_is (goal.at.returns-then-counted-kind c).In-loop-j) at c.if-counted-kind.true)))

pub loop-j-preserved : goal.loop-j-preserved
loop-j-preserved c = sought_on (is_miscounted _) _ _ c.loop-j.invariant (omega arith) (miscounted_no _ _ _ (rw (counted_is (goal.at.loop-j-preserved c).In-loop-j) at c.if-counted-kind.false))

pub loop-j-init : goal.loop-j-init
loop-j-init c = sought_start _ _

pub returns : goal.returns
returns c = found_nowhere _ (sought_end _ _ _ c.loop-j.invariant (omega arith))
