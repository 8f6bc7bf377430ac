-- `comparing::letters::order_of` meets its contract.
use native.Mathlib.Omega.{arith}
use borrow.Author.Tests.{eq-eqb, ne_eqb}
use Rattle.comparing.proofs.LetterByLetter.{start, behind, ahead, on_k, on_r, end}
use Rattle.comparing.proofs.letters.order_of.Goals as goal

pub loop-a-init : goal.loop-a-init
loop-a-init c = let p = c.requires in start _ _ _ _ p.0 p.1

pub returns-then-own-heading : goal.returns-then-own-heading
returns-then-own-heading c = behind c.loop-a.invariant (omega arith) c.if-own-other.true c.if-own-heading.true

pub returns-then-own-other : goal.returns-then-own-other
returns-then-own-other c = ahead c.loop-a.invariant (omega arith) c.if-own-other.true c.if-own-heading.false

pub loop-a-preserved-then-own : goal.loop-a-preserved-then-own
loop-a-preserved-then-own c = on_k c.loop-a.invariant (omega arith) c.if-own-other.false (eq-eqb _ _ c.if-own.true)

pub loop-a-preserved : goal.loop-a-preserved
loop-a-preserved c = on_r c.loop-a.invariant (omega arith) c.if-own-other.false (ne_eqb _ _ c.if-own.false)

pub returns : goal.returns
returns c = end c.loop-a.invariant (omega arith)
