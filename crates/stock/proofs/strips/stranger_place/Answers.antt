-- `stock::strips::stranger_place` meets its contract.
use native.Mathlib.Omega.{arith}
use Rattle.rules.specs.Refusals.{is_stranger}
use Rattle.rules.proofs.Refusals.{stranger_zero, stranger_above, stranger_no_lem}
use Rattle.rules.proofs.Smallest.{sought_start, sought_here, sought_on, sought_end}
use Rattle.stock.proofs.Places.{found_here, found_nowhere}
use Rattle.stock.proofs.strips.stranger_place.Goals as goal
use Rattle.stock.proofs.strips.stranger_place.Goals.{then-kind-eq0-via-then-kind-eq0, then-kind-eq0-via-else-kind-eq0+then-stock-kind}

pub loop-i-init : goal.loop-i-init
loop-i-init c = sought_start _ _

pub returns-then-kind-eq0 : goal.returns-then-kind-eq0
returns-then-kind-eq0 c =
    let k = c.args.stock.now in
    found_here _ _ (sought_here (is_stranger k) _ _ c.loop-i.invariant (omega arith) (elim c.then-kind-eq0.branch [
      | then-kind-eq0-via-then-kind-eq0 w ↦ stranger_zero k _ (omega arith)
      | then-kind-eq0-via-else-kind-eq0+then-stock-kind w ↦ stranger_above k _ (omega arith)
    ]))

pub loop-i-preserved : goal.loop-i-preserved
loop-i-preserved c =
    let k = c.args.stock.now in
    sought_on (is_stranger k) _ _ c.loop-i.invariant (omega arith) (stranger_no_lem k _ (omega arith) (omega arith))

pub returns : goal.returns
returns c = found_nowhere _ (sought_end (is_stranger c.args.stock.now) _ _ c.loop-i.invariant (omega arith))
