-- `succession::ends::last_rise` meets its contract.
use Prim.Native.Nat.{suc, ◌-◌}
use mathlib.Core.Path.{◌≡◌}
use native.Mathlib.Omega.{arith}
use Rattle.succession.proofs.Falling.{falls_one, falls_more}
use Rattle.succession.proofs.ends.last_rise.Goals as goal

pub loop-behind-init : goal.loop-behind-init
loop-behind-init c = falls_one c.args.strip.now

pub loop-behind-preserved : goal.loop-behind-preserved
loop-behind-preserved c =
    let behind = c.loop-behind.behind in
    let e : suc (behind - 1 - 1) ≡ behind - 1 = omega arith in
    falls_more c.args.strip.now (behind - 1 - 1) (omega (arith, e)) (rw e c.loop-behind.invariant) (rw e c.if-strip-behind.false)
