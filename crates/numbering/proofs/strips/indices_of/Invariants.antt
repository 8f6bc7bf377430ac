-- `numbering::strips::indices_of` meets its contract.
use mathlib.Core.List.{[]}
use lib.ListN.{get_or}
use Rattle.rules.specs.Book.{book}
use Rattle.numbering.proofs.Indices.{Descending}
use Rattle.numbering.proofs.strips.indices_of.Given as goal

abbrev pub invariant-loop-j : goal.invariant-loop-j
invariant-loop-j l = Descending l.stock (get_or (book l.stock) l.number []) l.indices l.left l.j
