-- `laying::lay_at` meets its contract. The measure is the number of places that are left.
use Rattle.laying.proofs.InPlace.{InPlace}
use Rattle.laying.proofs.lay_at.Given as goal

abbrev pub invariant-loop-b : goal.invariant-loop-b
invariant-loop-b l = InPlace l.kind l.initial.word l.others l.index l.word l.a l.b l.left.all l.left.index l.left.times l.turned

abbrev pub decreases-loop-b : goal.decreases-loop-b
decreases-loop-b l = l.a
