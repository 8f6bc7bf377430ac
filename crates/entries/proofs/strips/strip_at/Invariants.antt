-- `entries::strips::strip_at` meets its contract. The invariant: the blocks before the place are laid.
use Rattle.entries.proofs.Going.{Going}
use Rattle.entries.proofs.strips.strip_at.Given as goal

abbrev pub invariant-loop-place : goal.invariant-loop-place
invariant-loop-place l = Going l.stock l.strip l.number l.left l.ways l.rest l.n l.place-index
