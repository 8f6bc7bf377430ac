-- `stock::stocks::blocks` meets its contract. The invariant: what is summed, and the sum of the rest, is the whole sum.
use Prim.Native.Nat.{◌≤◌, ◌+◌}
use mathlib.Core.Path.{◌≡◌}
use lib.ListN.{drop}
use Rattle.rules.specs.Stock.{sum}
use Rattle.stock.proofs.stocks.blocks.Given as goal

abbrev pub invariant-loop-count : goal.invariant-loop-count
invariant-loop-count l = (l.sum ≤ 64) × (l.sum + sum (drop l.count-index l.stock) ≡ sum l.stock)
