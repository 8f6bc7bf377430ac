-- `left::runs::run_end` meets its contract.
use native.Mathlib.Omega.{arith}
use Rattle.rules.proofs.Listed.{like, unlike}
use Rattle.rules.proofs.Runs.{run_on, run_stops, run_ends}
use Rattle.left.proofs.runs.run_end.Goals as goal

pub returns-then-word-i : goal.returns-then-word-i
returns-then-word-i c =
    let a = c.args in
    (omega (arith, run_stops a.kind a.word.now c.loop-i.i a.own c.loop-i-test.true (unlike _ _ c.if-word-i.true)), omega arith)

pub loop-i-preserved : goal.loop-i-preserved
loop-i-preserved c =
    let a = c.args in
    omega (arith, run_on a.kind a.word.now c.loop-i.i a.own c.loop-i-test.true (like _ _ c.if-word-i.false))

pub returns : goal.returns
returns c =
    let a = c.args in
    (omega (arith, run_ends a.kind a.word.now c.loop-i.i a.own (omega arith)), omega arith)
