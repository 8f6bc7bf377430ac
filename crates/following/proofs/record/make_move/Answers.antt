-- `following::record::make_move` meets its contract: the next move of the strip, beside the two places.
use Rattle.following.proofs.Next.{no_move, other_low, other_high, next_made}
use Rattle.following.proofs.record.make_move.Goals as goal
use Rattle.following.proofs.record.make_move.Goals.{then-made-low-via-then-made-low, then-made-low-via-else-made-low+then-made-high}

pub returns-in_err-made : goal.returns-in_err-made
returns-in_err-made c = rw c.from_residual.ensures (no_move _ _ _ c.requires.strip _ _ c.in_err-made.ensures)

pub returns-then-made-low : goal.returns-then-made-low
returns-then-made-low c = elim c.then-made-low.branch [
  | then-made-low-via-then-made-low w ↦ other_low _ _ _ c.requires.strip _ _ _ c.in_ok-made.ensures w.if-made-low.true
  | then-made-low-via-else-made-low+then-made-high w ↦ other_high _ _ _ c.requires.strip _ _ _ c.in_ok-made.ensures w.if-made-high.true
]

pub returns : goal.returns
returns c = next_made _ _ _ c.requires.strip _ _ _ c.in_ok-made.ensures c.if-made-low.false c.if-made-high.false
