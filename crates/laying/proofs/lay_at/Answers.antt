-- `laying::lay_at` meets its contract.
use mathlib.Core.Path.{sym, ◌∙◌}
use native.Mathlib.Omega.{arith}
use borrow.Author.Tests.{ltb-false}
use Rattle.laying.proofs.Enlarging.{room, fewer}
use Rattle.laying.proofs.FromRight.{all_laid}
use Rattle.laying.proofs.InPlace.{start, block_left, on}
use Rattle.laying.proofs.lay_at.Goals as goal

pub loop-b-init : goal.loop-b-init
loop-b-init c = let p = c.requires in start p.0 p.2 p.3

pub blocks_left-b-requires : goal.blocks_left-b-requires
blocks_left-b-requires c e = block_left c.loop-b.invariant (omega arith) c.parted-shares.ensures (ltb-false _ _ (sym c.is_k-is_k.ensures ∙ e))

pub left-left-requires : goal.left-left-requires
left-left-requires c = let p = c.parted-shares.ensures in (room p, p.number.some, fewer p (omega arith))

pub loop-b-preserved : goal.loop-b-preserved
loop-b-preserved c =
    let k = c.is_k-is_k.ensures in
    let l = c.left-left.ensures in
    rw l.2 (on c.loop-b.invariant (omega arith) c.parted-shares.ensures (rw k at c.blocks_left-b.ensures) (rw k at c.laid.ensures) l.0 l.1 c.turned_left-turned.ensures)

pub returns : goal.returns
returns c = all_laid c.loop-b.invariant.laid (omega arith)
