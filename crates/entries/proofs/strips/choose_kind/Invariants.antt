-- `entries::strips::choose_kind` meets its contract. The invariant: the kinds before `kind` are passed.
use Rattle.entries.proofs.Seeking.{Seeking}
use Rattle.entries.proofs.strips.choose_kind.Given as goal

abbrev pub invariant-loop-kind : goal.invariant-loop-kind
invariant-loop-kind l = Seeking l.left l.rest l.kind l.ahead
