-- `pattern::reducing::reduce` meets its contract.
use Rattle.pattern.proofs.Writing.{Reducing}
use Rattle.pattern.proofs.reducing.reduce.Given as goal

abbrev pub invariant-loop-block : goal.invariant-loop-block
invariant-loop-block l = Reducing l.kind l.strip l.initial.word l.word l.n l.block-index
