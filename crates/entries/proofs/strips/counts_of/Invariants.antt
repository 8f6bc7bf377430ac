-- `entries::strips::counts_of` meets its contract.
use mathlib.Core.Path.{◌≡◌}
use lib.ListN.{length, take}
use Rattle.entries.proofs.strips.counts_of.Given as goal

abbrev pub invariant-loop-kind : goal.invariant-loop-kind
invariant-loop-kind l = (length l.counts ≡ 16) × (take l.kind l.counts ≡ take l.kind l.stock)
