-- `succession::ends::last_above` meets its contract. None is higher behind the place that the search begins from.
use Prim.Native.Nat.{suc}
use mathlib.Core.Path.{◌≡◌}
use native.Mathlib.Omega.{arith}
use Rattle.succession.proofs.ends.last_above.Goals as goal

pub returns : goal.returns
returns c =
    let e : c.loop-place.place ≡ suc c.args.from = omega arith in
    (omega arith, c.requires.0, c.requires.1, rw e at c.loop-place.invariant.1)
