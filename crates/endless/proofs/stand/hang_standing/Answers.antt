-- `endless::stand::hang_standing` meets its contract.
use Prim.Native.Nat.{◌<◌}
use native.Mathlib.Omega.{arith}
use lib.ListN.{length}
use Rattle.rules.specs.Refusals.{check_nos}
use Rattle.rules.proofs.Checks.{some_blocks, accepted_both}
use Rattle.stock.proofs.Told.{passed}
use Rattle.standing.proofs.Theorems.{turn_least}
use Rattle.endless.proofs.Hung.{stood_refused, stood_hung}
use Rattle.endless.proofs.stand.hang_standing.Goals as goal
use Rattle.endless.proofs.stand.hang_standing.Goals.{In_ok-check_strip}

-- past the checks: the strip has a block
some : (c : In_ok-check_strip) → 0 < length c.args.strip.now
some c =
    let a = c.args in
    let good = accepted_both a.stock.now a.strip.now (passed (check_nos a.stock.now a.strip.now) c.in_ok-check_strip.ensures) in
    some_blocks a.stock.now a.strip.now good.0 good.1

-- 1 to 6 refuse
pub returns-in_err-check_strip : goal.returns-in_err-check_strip
returns-in_err-check_strip c = stood_refused _ _ _ _ c.from_residual.ensures.1 c.in_err-check_strip.ensures

pub least_hanging-least-requires : goal.least_hanging-least-requires
least_hanging-least-requires c = some (goal.at.least_hanging-least-requires c).In_ok-check_strip

pub hang-requires : goal.hang-requires
hang-requires c = omega (arith, c.least_hanging-least.ensures.1, (turn_least c.args.strip.now (some (goal.at.hang-requires c).In_ok-check_strip)).0)

pub returns : goal.returns
returns c =
    let l = c.least_hanging-least in
    stood_hung c.args.stock.now c.args.strip.now c.in_ok-check_strip.ensures (some (goal.at.returns c).In_ok-check_strip) l.result _ l.ensures.0 l.ensures.1 c.hang.ensures
