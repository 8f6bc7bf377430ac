-- `flags::passes::how_many` meets its contract.
use native.Mathlib.Omega.{arith}
use Rattle.flags.proofs.Flagging.{set_on, set_end, set_few}
use Rattle.flags.proofs.passes.how_many.Goals as goal

pub overflow_add-many : goal.overflow_add-many
overflow_add-many c = omega (arith, set_few c.args.flags.now c.loop-set.set-index, c.from-many.ensures, c.loop-set.invariant.0)

pub loop-set-preserved : goal.loop-set-preserved
loop-set-preserved c =
    let few = set_few c.args.flags.now c.loop-set.set-index in
    (omega (arith, few, c.from-many.ensures, c.loop-set.invariant.0), omega (arith, set_on c.args.flags.now c.loop-set.set-index c.loop-set-test.true, c.from-many.ensures, c.loop-set.invariant.1))

pub returns : goal.returns
returns c = omega (arith, set_end c.args.flags.now c.loop-set.set-index (omega arith), c.loop-set.invariant.1)
