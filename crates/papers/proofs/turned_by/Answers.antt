-- `papers::turned_by` meets its contract: the blocks are alike at every place, or not at some.
use mathlib.Core.Path.{sym, ◌∙◌}
use mathlib.Core.Bool.{true, false}
use native.Mathlib.Decide.{ℕ_discrete}
use native.Mathlib.Omega.{arith}
use Rattle.papers.proofs.Turning.{turn_agrees}
use Rattle.papers.proofs.turned_by.Goals as goal

pub returns-then-block_at-second : goal.returns-then-block_at-second
returns-then-block_at-second c =
    turn_agrees _ _ _ _ c.requires.below c.requires.long false (c.loop-i.i, omega (arith, c.requires.long), λ e. omega (arith, c.block_at.ensures, e))

pub loop-i-preserved : goal.loop-i-preserved
loop-i-preserved c k l = elim (ℕ_discrete k c.loop-i.i) [
  | yes e ↦ rw e (sym c.block_at.ensures ∙ c.if-block_at-second.false)
  | no h ↦ c.loop-i.invariant k (omega arith)
]

pub returns : goal.returns
returns c = turn_agrees _ _ _ _ c.requires.below c.requires.long true (λ k l. c.loop-i.invariant k (omega (arith, c.requires.long)))
