-- `walker::turning::turned_above` meets its contract: after the loop the whole part is turned.
use Prim.Native.Nat.{◌-◌}
use mathlib.Core.Path.{◌≡◌}
use native.Mathlib.Omega.{arith}
use lib.ListN.{length}
use Rattle.std.proofs.Common.{rules}
use Rattle.walker.proofs.Turns.{turned_part}
use Rattle.walker.proofs.turning.turned_above.Goals as goal

pub returns : goal.returns
returns c =
    let long : length c.loop-back.back-items ≡ c.args.kinds - c.args.kind = search rules in
    turned_part _ _ _ (omega arith) (omega arith) (search rules) _ long (λ i h. c.loop-back.invariant.0 i (omega arith))
