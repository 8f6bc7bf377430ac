-- `walker::check::wrong_kind` meets its contract.
use native.Mathlib.Omega.{arith}
use Rattle.stock.proofs.Places.{found_here, found_nowhere}
use Rattle.walker.proofs.Differing.{start, here, on, end}
use Rattle.std.proofs.Common.{rules}
use Rattle.walker.proofs.check.wrong_kind.Goals as goal

pub loop-j-init : goal.loop-j-init
loop-j-init c = start _ _

pub returns-then-one-j : goal.returns-then-one-j
returns-then-one-j c = found_here _ _ (here _ _ (search rules) (search rules) _ c.loop-j.invariant (omega arith) c.if-one-j.true)

pub loop-j-preserved : goal.loop-j-preserved
loop-j-preserved c = on _ _ (search rules) (search rules) _ c.loop-j.invariant (omega arith) c.if-one-j.false

pub returns : goal.returns
returns c = found_nowhere _ (end _ _ (search rules) (search rules) _ c.loop-j.invariant (omega arith))
