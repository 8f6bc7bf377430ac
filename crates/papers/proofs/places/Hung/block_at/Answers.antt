-- `papers::places::Hung::block_at` meets its contract.
use native.Mathlib.Omega.{arith}
use Rattle.papers.proofs.Turning.{block_there, block_back}
use Rattle.papers.proofs.places.Hung.block_at.Goals as goal

pub returns-then-self : goal.returns-then-self
returns-then-self c =
    let s = c.args.self.strip.now in
    rw (c.if-self.true, c.around-place.ensures) (block_back s c.args.i (omega (arith, c.requires)))

pub returns-else-self : goal.returns-else-self
returns-else-self c =
    let s = c.args.self.strip.now in
    rw (c.if-self.false, c.around-place.ensures) (block_there s c.args.i (omega (arith, c.requires)))
