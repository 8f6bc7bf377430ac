-- `stock::stocks::blocks` meets its contract.
use native.Mathlib.Omega.{arith}
use Rattle.rules.proofs.Steps.{sum_on, sum_end}
use Rattle.stock.proofs.stocks.blocks.Goals as goal

pub returns-then-sum-gt64 : goal.returns-then-sum-gt64
returns-then-sum-gt64 c =
    omega (arith, sum_on c.args.stock.now c.loop-count.count-index c.loop-count-test.true)

pub loop-count-preserved : goal.loop-count-preserved
loop-count-preserved c =
    omega (arith, sum_on c.args.stock.now c.loop-count.count-index c.loop-count-test.true)

pub returns : goal.returns
returns c = omega (arith, sum_end c.args.stock.now c.loop-count.count-index c.loop-count-test.false)
