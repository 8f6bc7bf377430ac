-- `measuring::distance::moves_between` meets its contract.
use Rattle.measuring.proofs.Signed.{d_is, moved}
use Rattle.measuring.proofs.distance.moves_between.Goals as goal

pub returns : goal.returns
returns c =
    let a = c.args in
    let e = rw (c.from.ensures, c.from-2.ensures, d_is a.from a.to c.ranges.from.fits c.ranges.to.fits) at c.try_from.ensures in
    rw (c.or.ensures, c.at.ensures) (moved a.from a.to c.ranges.from.fits c.ranges.to.fits c.try_from.result e)
