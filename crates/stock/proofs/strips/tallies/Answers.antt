-- `stock::strips::tallies` meets its contract.
use Prim.Native.Nat.{◌<◌}
use native.Mathlib.Omega.{arith}
use lib.ListN.{get_or}
use Rattle.rules.proofs.Counted.{counted_start, counted_on, counted_end}
use Rattle.stock.proofs.strips.tallies.Goals as goal
use Rattle.stock.proofs.strips.tallies.Goals.{In-loop-block}

-- the block where the loop stands is a kind up to 16
known : (c : In-loop-block) → get_or c.args.strip.now c.loop-block.block-index 0 < 17
known c = omega (arith, c.requires c.loop-block.block-index (omega arith))

pub overflow_add-seen : goal.overflow_add-seen
overflow_add-seen c = omega (arith, c.loop-block.invariant.fewer _ (known (goal.at.overflow_add-seen c).In-loop-block))

pub loop-block-init : goal.loop-block-init
loop-block-init c = counted_start 17 _

pub offset_bounds-seen-block : goal.offset_bounds-seen-block
offset_bounds-seen-block c = omega (arith, known (goal.at.offset_bounds-seen-block c).In-loop-block)

pub bounds-seen-block : goal.bounds-seen-block
bounds-seen-block c = known (goal.at.bounds-seen-block c).In-loop-block

pub bounds-seen-block-in-loop-block : goal.bounds-seen-block-in-loop-block
bounds-seen-block-in-loop-block c = known (goal.at.bounds-seen-block-in-loop-block c).In-loop-block

pub loop-block-preserved : goal.loop-block-preserved
loop-block-preserved c = counted_on _ _ _ _ c.loop-block.invariant (omega arith) (known (goal.at.loop-block-preserved c).In-loop-block)

pub returns : goal.returns
returns c = counted_end _ _ _ _ c.loop-block.invariant (omega arith)
