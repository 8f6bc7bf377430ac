-- `rebuilding::differing::differ` meets its contract. The invariant: what is found is of the first i records.
use Rattle.rebuilding.specs.Rebuilding.{differing}
use Rattle.rebuilding.specs.Parts.{Holds}
use Rattle.rebuilding.proofs.differing.differ.Given as goal

abbrev pub invariant-loop-i : goal.invariant-loop-i
invariant-loop-i l = Holds (differing l.proper l.damaged l.i) l.found
