-- `choose::binomials::diagonal` meets its contract.
use Prim.Native.Nat.{◌+◌, ◌*◌}
use mathlib.Core.Path.{◌≡◌}
use Rattle.rules.specs.Stock.{binom}
use Rattle.choose.proofs.binomials.diagonal.Given as goal

abbrev pub invariant-loop-pair : goal.invariant-loop-pair
invariant-loop-pair l = l.c ≡ binom (l.d + (l.odd + 2 * l.pair)) (l.odd + 2 * l.pair)
