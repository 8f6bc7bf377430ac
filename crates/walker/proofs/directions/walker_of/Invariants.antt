-- `walker::directions::walker_of` meets its contract. The invariant: the directions of the kinds up to j, and the parity of the reduced strip at j.
use mathlib.Core.Path.{◌≡◌}
use lib.ListN.{length}
use Rattle.walker.proofs.Building.{Built}
use Rattle.walker.proofs.directions.walker_of.Given as goal

abbrev pub invariant-loop-j : goal.invariant-loop-j
invariant-loop-j l = (length l.word ≡ 64) × Built l.stock l.strip l.w l.odd l.below l.j
