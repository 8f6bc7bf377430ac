-- `walker::check::wrong_kind` meets its contract. The invariant: the kinds that are passed do not differ.
use Rattle.walker.proofs.Differing.{Compared}
use Rattle.walker.proofs.check.wrong_kind.Given as goal

abbrev pub invariant-loop-j : goal.invariant-loop-j
invariant-loop-j l = Compared l.one.back l.other.back l.j
