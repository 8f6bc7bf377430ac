-- `comparing::letters::order_of` meets its contract. The invariant: the letters from a on are alike.
use Rattle.comparing.proofs.LetterByLetter.{Letters}
use Rattle.comparing.proofs.letters.order_of.Given as goal

abbrev pub invariant-loop-a : goal.invariant-loop-a
invariant-loop-a l = Letters l.kind l.one l.two l.back l.a l.turned l.heading
