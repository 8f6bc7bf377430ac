-- `pattern::parity::odd_index_of` meets its contract.
use native.Mathlib.Omega.{arith}
use Rattle.pattern.proofs.FromEnd.{start, fewer, shorter, on_k, on_turned, on_r, some_r, end}
use Rattle.pattern.proofs.parity.odd_index_of.Goals as goal

pub loop-left-init : goal.loop-left-init
loop-left-init c = start c.requires

pub odd_choose-odd_in_k-requires : goal.odd_choose-odd_in_k-requires
odd_choose-odd_in_k-requires c = omega (arith, fewer c.loop-left.invariant, shorter c.loop-left.invariant (omega arith))

pub overflow_sub-b : goal.overflow_sub-b
overflow_sub-b c = some_r c.loop-left.invariant (omega arith) c.if-last-kind.true

pub loop-left-preserved-then-last-kind : goal.loop-left-preserved-then-last-kind
loop-left-preserved-then-last-kind c = on_r c.loop-left.invariant (omega arith) c.if-last-kind.true c.odd_choose-odd_in_k.ensures

pub loop-left-preserved-then-turned : goal.loop-left-preserved-then-turned
loop-left-preserved-then-turned c = on_turned c.loop-left.invariant (omega arith) c.if-last-kind.false c.if-turned.true c.odd_choose-odd_in_k.ensures

pub loop-left-preserved : goal.loop-left-preserved
loop-left-preserved c = on_k c.loop-left.invariant (omega arith) c.if-last-kind.false c.if-turned.false

pub returns-in_default : goal.returns-in_default
returns-in_default c = end c.loop-left.invariant (omega arith)

pub returns-then-b-left : goal.returns-then-b-left
returns-then-b-left c = end c.loop-left.invariant (omega arith)
