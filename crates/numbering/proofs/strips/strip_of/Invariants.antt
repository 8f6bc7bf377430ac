-- `numbering::strips::strip_of` meets its contract.
use Rattle.numbering.proofs.Layers.{Layered}
use Rattle.numbering.proofs.strips.strip_of.Given as goal

abbrev pub invariant-loop-j : goal.invariant-loop-j
invariant-loop-j l = Layered l.stock l.number l.strip l.below l.j
