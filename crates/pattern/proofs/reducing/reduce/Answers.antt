-- `pattern::reducing::reduce` meets its contract.
use native.Mathlib.Omega.{arith}
use Rattle.pattern.proofs.Writing.{kept, out, all_written, all_counted}
use Rattle.pattern.proofs.reducing.reduce.Goals as goal
use Rattle.pattern.proofs.reducing.reduce.Goals.{then-block-kind, else-block-kind}

pub loop-block-preserved : goal.loop-block-preserved
loop-block-preserved c = elim c.if-block-kind.branch [
  | then-block-kind w ↦ rw w.n-is (kept _ _ _ _ _ _ c.loop-block.invariant c.requires (omega arith) (omega arith))
  | else-block-kind w ↦ rw w.n-is (out _ _ _ _ _ _ c.loop-block.invariant c.requires (omega arith) (omega arith))
]

pub returns : goal.returns
returns c =
    let i = c.loop-block.invariant in
    (all_counted _ _ _ _ _ _ i c.requires (omega arith), all_written _ _ _ _ _ _ i c.requires (omega arith))
