-- `stock::strips::stranger_place` meets its contract.
use Rattle.rules.specs.Refusals.{is_stranger}
use Rattle.rules.proofs.Smallest.{Sought}
use Rattle.stock.proofs.strips.stranger_place.Given as goal

abbrev pub invariant-loop-i : goal.invariant-loop-i
invariant-loop-i l = Sought (is_stranger l.stock) l.strip l.i
