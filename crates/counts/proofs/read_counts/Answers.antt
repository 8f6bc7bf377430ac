-- `counts::read_counts` meets its contract: byte after byte.
use mathlib.Core.Path.{ap, ◌∙◌}
use Rattle.std.specs.Prelude.{Some}
use Rattle.counts.proofs.ReadOn.{digit, next, not_begun, no_space, open_end, end}
use Rattle.counts.proofs.read_counts.Goals as goal
use Rattle.counts.proofs.read_counts.Goals.{in-Some, in_default+in_ok-value+else-byte-ne32}

pub returns-in_err-value : goal.returns-in_err-value
returns-in_err-value c =
    c.from_residual.ensures ∙ not_begun c.loop-byte-test.true (rw c.in_err-value.was at c.loop-byte.invariant) (rw c.in_err-value.was at c.in_default.ensures)

pub returns-then-byte-ne32 : goal.returns-then-byte-ne32
returns-then-byte-ne32 c = no_space c.loop-byte-test.true (rw c.in_ok-value.was at c.loop-byte.invariant) (rw c.in_ok-value.was at c.in_default.ensures) c.if-byte-ne32.true

pub loop-byte-preserved : goal.loop-byte-preserved
loop-byte-preserved c = elim c.match-with_digit.branch [
  | in-Some w ↦ rw (w.counts-is, w.begun-is) (digit c.loop-byte-test.true c.loop-byte.invariant w.in-Some.ensures.0 w.in-Some.ensures.1)
  | in_default+in_ok-value+else-byte-ne32 w ↦
      rw (w.counts-is, w.begun-is, w.push.ensures)
      (next c.loop-byte-test.true (rw w.in_ok-value.was at c.loop-byte.invariant) (rw w.in_ok-value.was at w.in_default.ensures) w.if-byte-ne32.false)
]

-- the end of the line
pub returns-in_err-begun : goal.returns-in_err-begun
returns-in_err-begun c = c.from_residual-in_err-begun.ensures ∙ open_end c.loop-byte-test.false (rw c.in_err-begun.was at c.loop-byte.invariant)

pub returns : goal.returns
returns c = ap Some c.push-2.ensures ∙ end c.loop-byte-test.false (rw c.in_ok-begun.was at c.loop-byte.invariant)
