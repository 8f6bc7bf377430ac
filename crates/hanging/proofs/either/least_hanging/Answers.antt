-- `hanging::either::least_hanging` meets its contract.
use mathlib.Core.Bool.{true, false}
use native.Mathlib.Omega.{arith}
use Rattle.papers.proofs.Turning.{hung_length}
use Rattle.hanging.proofs.EitherWay.{back_stands, there_stands}
use Rattle.hanging.proofs.either.least_hanging.Goals as goal

pub turn_before-requires-clause-one : goal.turn_before-requires-clause-one
turn_before-requires-clause-one c = omega (arith, c.least_turn-back.ensures.inside, hung_length true c.args.strip.now)

pub turn_before-requires-clause-other : goal.turn_before-requires-clause-other
turn_before-requires-clause-other c = omega (arith, c.least_turn-there.ensures.inside, hung_length false c.args.strip.now)

pub returns-then-turn_before : goal.returns-then-turn_before
returns-then-turn_before c =
    back_stands _ c.requires _ _ c.least_turn-there.ensures c.least_turn-back.ensures _ c.turn_before.ensures c.if-turn_before.true

pub returns : goal.returns
returns c =
    there_stands _ c.requires _ _ c.least_turn-there.ensures c.least_turn-back.ensures _ c.turn_before.ensures c.if-turn_before.false
