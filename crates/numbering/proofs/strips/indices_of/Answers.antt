-- `numbering::strips::indices_of` meets its contract.
use native.Mathlib.Nat.{mod-lt}
use native.Mathlib.Omega.{arith}
use Rattle.numbering.proofs.Indices.{start, some, on}
use Rattle.numbering.proofs.strips.indices_of.Goals as goal

pub loop-j-init : goal.loop-j-init
loop-j-init c = start _ _ c.requires.2

pub nonzero_rem-place : goal.nonzero_rem-place
nonzero_rem-place c = some c.loop-j.invariant (omega arith) _ c.requires.0

pub nonzero_div-left : goal.nonzero_div-left
nonzero_div-left c = some c.loop-j.invariant (omega arith) _ c.requires.0

pub faced-requires : goal.faced-requires
faced-requires c = mod-lt _ (some c.loop-j.invariant (omega arith) _ c.requires.0)

pub loop-j-preserved : goal.loop-j-preserved
loop-j-preserved c = on c.loop-j.invariant (omega arith) _ c.requires.0 c.requires.1.few _ c.faced.ensures
