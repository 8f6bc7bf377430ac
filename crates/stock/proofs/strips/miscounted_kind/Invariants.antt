-- `stock::strips::miscounted_kind` meets its contract.
use Rattle.rules.specs.Refusals.{is_miscounted}
use Rattle.rules.proofs.Smallest.{Sought}
use Rattle.stock.proofs.strips.miscounted_kind.Given as goal

abbrev pub invariant-loop-j : goal.invariant-loop-j
invariant-loop-j l = Sought (is_miscounted l.strip) l.stock l.j
