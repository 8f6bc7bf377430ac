-- `numbering::numbers::number_of` meets its contract. The invariant: the number of the reduced strip at j in the book of the first j kinds, and their cuts.
use mathlib.Core.Path.{◌≡◌}
use lib.ListN.{take}
use Rattle.rules.specs.Stock.{sum}
use Rattle.rules.specs.Book.{reduced}
use Rattle.rules.proofs.Strips.{number}
use Rattle.cuts.specs.Cuts.{sum_over, kind_cuts}
use Rattle.numbering.proofs.numbers.number_of.Given as goal

abbrev pub invariant-loop-j : goal.invariant-loop-j
invariant-loop-j l = (l.below ≡ sum (take l.j l.stock)) × (l.number ≡ number (take l.j l.stock) (reduced l.j l.strip)) × (l.cuts ≡ sum_over (kind_cuts l.strip) l.j)
